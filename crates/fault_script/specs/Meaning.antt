-- What a line does, by the plan and the number of nodes.
use Rattle.std.specs.Prelude.{ℕ, ◌<◌, ◌+◌, ◌*◌, ◌^◌, Bool, ◌&&◌, if◌then◌else◌, nat_lt, List, Option, Some, None, Result, Ok, Err, unwrap_or}
use Rattle.std.specs.List.{find}
use Rattle.std.specs.Option.{is_none, is_some}
use Rattle.std.specs.Str.{bytes_eq}
use Rattle.chare_base.specs.declared.plan.Array.{Array}
use Rattle.chare_base.specs.declared.plan.Plan.{Plan}
use Rattle.chare_base.specs.declared.plan.State.{State}
use Rattle.fault_script.specs.declared.fault.Fault.{Fault}
use Rattle.fault_script.specs.declared.fault.Fault.TheVariants as faults
use Rattle.fault_script.specs.declared.meaning.LineFault.{LineFault}
use Rattle.fault_script.specs.declared.meaning.LineFault.TheVariants as why
use Rattle.fault_script.specs.Forms.{Cell, CrashLine, Element, FlipLine, Line, line}
use Rattle.fault_script.specs.Forms as forms
use Rattle.fault_script.specs.Text.{words}

-- the array of this name, and the state
abbrev pub array_called : List ℕ → List Array → Option Array
array_called name arrays = find (λ (a : Array). bytes_eq name a.name) arrays

abbrev pub state_called : List ℕ → List State → Option State
state_called name states = find (λ (s : State). bytes_eq name s.name) states

-- An array of one dimension is named with one coordinate, and one of two with two. A state that is named without an index has one cell.
abbrev pub is_named : Bool → Element → Bool
is_named flat e = if flat then is_none e.second else is_some e.second

abbrev pub is_indexed : Bool → Cell → Bool
is_indexed plain c = if plain then is_none c.place else is_some c.place

-- a line names an element and a cell as the array and the state want them named
abbrev pub is_there : FlipLine → Array → State → Bool
is_there f a s = is_named a.flat f.element && is_indexed s.plain f.cell

-- row and column of an element; an array of one dimension has one row
abbrev pub row_by : ℕ → Option ℕ → ℕ
row_by first None = 0
row_by first (Some second) = first

abbrev pub row : Element → ℕ
row e = row_by e.first e.second

abbrev pub col : Element → ℕ
col e = unwrap_or e.second e.first

-- the number of a cell within its state
abbrev pub place : Cell → ℕ
place c = unwrap_or c.place 0

-- each number of a line is in range; so none is above 2^64 - 1
unfoldable pub flip_within : ℕ → FlipLine → Array → State → Bool
flip_within iterations f a s =
    nat_lt f.replica 2 && nat_lt (row f.element) a.rows && nat_lt (col f.element) a.cols && nat_lt (place f.cell) s.cells
    && nat_lt 0 f.mask && nat_lt f.mask (2 ^ 64) && nat_lt f.at iterations

unfoldable pub crash_within : ℕ → ℕ → CrashLine → Bool
crash_within iterations nodes c = nat_lt c.replica 2 && nat_lt c.node nodes && nat_lt c.at iterations

-- what follows for the numbers of a line, whatever the plan
pub record InRange (f : FlipLine) (a : Array) (s : State) : Type 0 where
  pub replica : f.replica < 2
  pub row : row f.element < a.rows
  pub col : col f.element < a.cols
  pub place : place f.cell < s.cells
  pub mask : f.mask < 2 ^ 64
  pub at : f.at < 2 ^ 64

pub record CrashInRange (c : CrashLine) : Type 0 where
  pub replica : c.replica < 2
  pub node : c.node < 2 ^ 16
  pub at : c.at < 2 ^ 64

-- what a line does
abbrev pub flipped : FlipLine → Array → State → Fault
flipped f a s = faults.Flip f.replica (record { 0 = a.first + row f.element * a.cols + col f.element }) (s.at + place f.cell) f.mask f.at

abbrev pub crashed : CrashLine → Fault
crashed c = faults.Crash (record { replica = c.replica; node = c.node }) c.at

-- ---- a line

abbrev pub flip_at : ℕ → FlipLine → Array → Option State → Result Fault LineFault
flip_at iterations f a None = Err why.NoSuch
flip_at iterations f a (Some s) =
    if is_there f a s then (if flip_within iterations f a s then Ok (flipped f a s) else Err why.Range) else Err why.NoSuch

abbrev pub flip_in : ℕ → FlipLine → Option Array → Result Fault LineFault
flip_in iterations f None = Err why.NoSuch
flip_in iterations f (Some a) = flip_at iterations f a (state_called f.cell.state a.states)

abbrev pub flip_fault : Plan → FlipLine → Result Fault LineFault
flip_fault p f = flip_in p.iterations f (array_called f.element.array p.arrays)

abbrev pub crash_fault : Plan → ℕ → CrashLine → Result Fault LineFault
crash_fault p nodes c = if crash_within p.iterations nodes c then Ok (crashed c) else Err why.Range

abbrev pub fault_by : Plan → ℕ → Option Line → Result Fault LineFault
fault_by p nodes None = Err why.Form
fault_by p nodes (Some (forms.Flip f)) = flip_fault p f
fault_by p nodes (Some (forms.Crash c)) = crash_fault p nodes c

-- the fault of a line, or why it is none
unfoldable pub fault_in : Plan → ℕ → List ℕ → Result Fault LineFault
fault_in p nodes text = fault_by p nodes (line (words text))

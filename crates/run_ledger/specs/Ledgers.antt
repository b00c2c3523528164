-- The ledger of a run, and what each record makes of it.
use Rattle.std.specs.Prelude.{ℕ, ◌+◌, Bool, true, false, ◌==◌, ◌||◌, if◌then◌else◌, List, [], ◌∷◌, length, map, replicate, slice_index_or, slice_set, Option, Some, None}
use Rattle.chare_base.specs.declared.options.Options.{Options}
use Rattle.chare_base.specs.declared.slots.SlotId.{SlotId}
use Rattle.chare_base.specs.Flip.{Flip}
use Rattle.chare_eval.specs.Laws.{flips_before}
use Rattle.fault_script.specs.declared.fault.Fault.{Fault}
use Rattle.fault_script.specs.Lines.{set_of}
use Rattle.run_ledger.specs.declared.line.LedgerLine.{LedgerLine}
use Rattle.run_ledger.specs.declared.record.Record.{Record}
use Rattle.run_ledger.specs.declared.record.Record.TheVariants.{Accept, Differ, Crash, Mend, Adopt, Both, NoSpare, Lost, Done}
use Rattle.run_ledger.specs.Lines.{accepted, adopted, crash_at, flip_spent, flips_where, fresh_line, is_based, is_live, shapes, spent_at}

-- What the records of a run made of it. The base is the last checkpoint that both replicas agreed on or that one took
-- over from the other, at first the opening.
pub record LedgerState : Type 0 where
  pub options : Options
  -- the job's iterations
  pub iterations : ℕ
  -- how many iterations the base has done
  pub base : ℕ
  -- each line of the script: whether it is live, and whether it shaped the base
  pub lines : List LedgerLine
  -- for each node of replica 0 and of replica 1, whether the slot's copy of the base stands
  pub first_copies : List Bool
  pub second_copies : List Bool
  -- which replicas are down
  pub first_down : Bool
  pub second_down : Bool
  -- how many crashes are recorded
  pub crashes : ℕ
  pub ended : Bool

-- the ledger before the first record
abbrev pub opening_ledger : List Fault → Options → ℕ → LedgerState
opening_ledger script o n = record {
  options = o;
  iterations = n;
  base = 0;
  lines = map fresh_line script;
  first_copies = replicate o.nodes true;
  second_copies = replicate o.nodes true;
  first_down = false;
  second_down = false;
  crashes = 0;
  ended = false;
}

-- ---- what is read off a ledger

-- the flips that shape a replica: the base's, and those that are still to strike it, in the script's order
abbrev pub lineage : ℕ → LedgerState → List Flip
lineage replica l = flips_where (shapes replica) l.lines

-- the flips that shaped the base
abbrev pub base_flips : LedgerState → List Flip
base_flips l = flips_where is_based l.lines

-- a lineage as a set of lines
abbrev pub lineage_set : ℕ → LedgerState → ℕ
lineage_set replica l = set_of (shapes replica) l.lines

-- the lines that aren't spent
abbrev pub live_set : LedgerState → ℕ
live_set l = set_of is_live l.lines

-- how many flips struck a replica before an iteration
abbrev pub strikes : LedgerState → ℕ → ℕ → ℕ
strikes l replica k = length (flips_before k (lineage replica l))

abbrev pub is_down : LedgerState → ℕ → Bool
is_down l replica = if replica == 0 then l.first_down else if replica == 1 then l.second_down else false

abbrev pub copies_of : LedgerState → ℕ → List Bool
copies_of l replica = if replica == 0 then l.first_copies else if replica == 1 then l.second_copies else []

-- a slot's copy of the base stands
abbrev pub holds : LedgerState → SlotId → Bool
holds l slot = slice_index_or (copies_of l slot.replica) slot.node false

-- ---- what a record makes of it

-- every copy of the base stands
abbrev pub with_copies : LedgerState → LedgerState
with_copies l = record l {
  first_copies = replicate l.options.nodes true;
  second_copies = replicate l.options.nodes true;
}

-- A crash line is spent, its replica is down, and the slot's copy is lost.
abbrev pub with_crash : ℕ → Option SlotId → LedgerState → LedgerState
with_crash line None l = l
with_crash line (Some slot) l = record l {
  lines = spent_at line l.lines;
  first_copies = if slot.replica == 0 then slice_set l.first_copies slot.node false else l.first_copies;
  second_copies = if slot.replica == 1 then slice_set l.second_copies slot.node false else l.second_copies;
  first_down = l.first_down || slot.replica == 0;
  second_down = l.second_down || slot.replica == 1;
  crashes = l.crashes + 1;
}

abbrev pub both_raised : LedgerState → LedgerState
both_raised l = with_copies (record l { first_down = false; second_down = false })

abbrev pub after : LedgerState → Record → LedgerState
after l (Accept k) = with_copies (record l { base = k; lines = map (accepted k) l.lines })
after l (Differ k element) = record l { lines = map (flip_spent k) l.lines }
after l (Crash line) = with_crash line (crash_at l.lines line) l
after l (Mend replica) = both_raised l
after l (Adopt k from) = both_raised (record l { base = k; lines = map (adopted k from) l.lines })
after l Both = both_raised l
after l NoSpare = record l { ended = true }
after l (Lost node) = record l { ended = true }
after l Done = record l { ended = true }

-- the ledger after records
abbrev pub after_all : LedgerState → List Record → LedgerState
after_all l [] = l
after_all l (r ∷ more) = after_all (after l r) more

-- ---- a ledger with its records

-- the ledger, the records that made it, and how many more can be made without memory
pub record Journal : Type 0 where
  pub ledger : LedgerState
  pub records : List Record
  pub spare : ℕ

-- What is wrong with bytes that are no checkpoint, and with bytes at which no record begins: the first fault in the
-- order of the format, at its place.
use Rattle.std.specs.Prelude.{◌≡◌, ℕ, suc, ◌+◌, ◌-◌, ◌<◌, ◌==◌, ◌⊎◌, Bool, true, not, ◌&&◌, nat_le, nat_lt, if◌then◌else◌, List, [], ◌∷◌, ◌++◌, length, take, drop, codes, Option, Some, None}
use Rattle.std.specs.Str.{bytes_eq}
use Rattle.byteorder.specs.Endian.{little_number}
use Rattle.chare_base.specs.declared.cells.Cells.{Cells}
use Rattle.chare_base.specs.declared.plan.Plan.{Plan}
use Rattle.chare_base.specs.Elements.{elements, cells_of, place_of, steps_of}
use Rattle.pup_state.specs.declared.fault.PupFault.{PupFault}
use Rattle.pup_state.specs.declared.fault.PupFault.TheVariants.{Short, Magic, Count, Order, Iteration, SlipKind, Layout, Trailing}
use Rattle.pup_state.specs.Packs.{Lawful}
use Rattle.pup_state.specs.Spelling.{head, records_from, size_of}

-- the number in the `width` bytes at a place
unfoldable pub number_at : ℕ → ℕ → List ℕ → ℕ
number_at width at bytes = little_number width (drop at bytes)

-- the first fault of a list of tests
abbrev pub first_fault : List (Bool × PupFault) → Option PupFault
first_fault [] = None
first_fault (test ∷ more) = if test.0 then Some test.1 else first_fault more

-- ---- a record

-- how many iterations are completed in the record that begins these bytes
abbrev pub done_in : List ℕ → ℕ
done_in bytes = number_at 8 6 bytes

-- the record that begins these bytes is at element e's place
abbrev pub is_placed : Plan → ℕ → List ℕ → Bool
is_placed p e bytes = number_at 2 0 bytes == (place_of p e).array && number_at 4 2 bytes == (place_of p e).index

abbrev pub is_first : Option ℕ → ℕ → Bool
is_first None done = true
is_first (Some first) done = done == first

-- no more iterations are completed than the plan has, and as many as in the first record, if this is another
abbrev pub is_timely : Plan → Option ℕ → List ℕ → Bool
is_timely p first bytes = nat_le (done_in bytes) p.iterations && is_first first (done_in bytes)

-- none, or of a kind from 1 to 3, of one of the steps, in a completed iteration
abbrev pub is_slip : ℕ → ℕ → ℕ → ℕ → ℕ → Bool
is_slip steps done kind step iteration =
    if kind == 0 then step == 0 && iteration == 0 else nat_le kind 3 && nat_lt step steps && nat_lt iteration done

abbrev pub slip_fits : Plan → ℕ → List ℕ → Bool
slip_fits p e bytes = is_slip (length (steps_of p e)) (done_in bytes) (number_at 1 14 bytes) (number_at 1 15 bytes) (number_at 8 16 bytes)

-- What can be wrong with the record of element e that begins these bytes, at this place. The first record's iterations
-- are given, where this is another.
abbrev pub record_tests : Plan → ℕ → Option ℕ → ℕ → List ℕ → List (Bool × PupFault)
record_tests p e first at bytes =
    (nat_lt (length bytes) 28, Short at)
    ∷ (not (is_placed p e bytes), Order at)
    ∷ (not (is_timely p first bytes), Iteration (at + 6))
    ∷ (not (slip_fits p e bytes), SlipKind (at + 14))
    ∷ (not (number_at 4 24 bytes == cells_of p e), Layout (at + 24))
    ∷ (nat_lt (length bytes) (size_of p e), Short (at + 28))
    ∷ []

-- what is first wrong with it
unfoldable pub record_fault : Plan → ℕ → Option ℕ → ℕ → List ℕ → Option PupFault
record_fault p e first at bytes = first_fault (record_tests p e first at bytes)

-- the one thing that is wrong with the record of element e that should begin at a place of the bytes
abbrev pub RecordCause : Plan → ℕ → List ℕ → ℕ → PupFault → Type 0
RecordCause p e bytes at fault = record_fault p e None at (drop at bytes) ≡ Some fault

-- ---- a checkpoint

-- what can be wrong with what stands before the records
abbrev pub head_tests : Plan → List ℕ → List (Bool × PupFault)
head_tests p bytes =
    (nat_lt (length bytes) 4, Short 0)
    ∷ (not (bytes_eq (take 4 bytes) (codes "ACR1")), Magic)
    ∷ (nat_lt (length bytes) 8, Short 4)
    ∷ (not (number_at 4 4 bytes == elements p), Count (number_at 4 4 bytes))
    ∷ []

-- what is first wrong with it
unfoldable pub head_fault : Plan → List ℕ → Option PupFault
head_fault p bytes = first_fault (head_tests p bytes)

-- lawful states of the elements from e on, after `done` completed iterations
abbrev pub LawfulFrom : Plan → ℕ → ℕ → List Cells → Type 0
LawfulFrom p done e [] = Unit {0}
LawfulFrom p done e (cells ∷ more) = Lawful p e done cells × LawfulFrom p done (suc e) more

-- the iterations of the first record, if there is one
abbrev pub first_done : ℕ → List Cells → Option ℕ
first_done done [] = None
first_done done (cells ∷ more) = Some done

-- The records of the elements in front are as they should be, and the rest of the bytes begins behind them.
pub record Reaches (p : Plan) (bytes : List ℕ) (done : ℕ) (front : List Cells) (rest : List ℕ) : Type 0 where
  pub spelled : bytes ≡ head (elements p) ++ (records_from p done 0 front ++ rest)
  pub lawful : LawfulFrom p done 0 front

-- the first record that isn't as it should be, and what is wrong with it
pub record InRecord (p : Plan) (bytes : List ℕ) (fault : PupFault) : Type 0 where
  pub done : ℕ
  pub front : List Cells
  pub rest : List ℕ
  pub reached : Reaches p bytes done front rest
  pub more : length front < elements p
  pub wrong : record_fault p (length front) (first_done done front) (length bytes - length rest) rest ≡ Some fault

-- all records are as they should be, and bytes follow them
pub record Behind (p : Plan) (bytes : List ℕ) (fault : PupFault) : Type 0 where
  pub done : ℕ
  pub front : List Cells
  pub rest : List ℕ
  pub reached : Reaches p bytes done front rest
  pub all : length front ≡ elements p
  pub some : 0 < length rest
  pub is : fault ≡ Trailing (length bytes - length rest)

-- the one thing that is wrong with the bytes as a checkpoint
abbrev pub Cause : Plan → List ℕ → PupFault → Type 0
Cause p bytes fault = (head_fault p bytes ≡ Some fault) ⊎ (InRecord p bytes fault ⊎ Behind p bytes fault)

-- Reading from left to right.
use Rattle.std.specs.Prelude.{◌≡◌, ℕ, zero, suc, ◌+◌, ◌==◌, nat_lt, ℤ, if◌then◌else◌, List, [], ◌∷◌, length, drop, Option, Some, None, Result, Ok, Err}
use Rattle.std.specs.Option.{option_or}
use Rattle.std.specs.Int.{w64, cast_signed}
use Rattle.chare_base.specs.declared.cells.Cells.{Cells}
use Rattle.chare_base.specs.declared.plan.Place.{Place}
use Rattle.chare_base.specs.declared.plan.Plan.{Plan}
use Rattle.chare_base.specs.Elements.{elements, cells_of}
use Rattle.pup_state.specs.declared.fault.PupFault.{PupFault}
use Rattle.pup_state.specs.declared.fault.PupFault.TheVariants.{Memory, Trailing}
use Rattle.pup_state.specs.declared.unpack.Image.{Image}
use Rattle.pup_state.specs.declared.unpack.Unpacked.{Unpacked}
use Rattle.pup_state.specs.Faults.{done_in, head_fault, number_at, record_fault}
use Rattle.pup_state.specs.Packs.{IsPack, IsRecord}
use Rattle.pup_state.specs.Spelling.{size_of}

-- where the element stands whose record begins these bytes, if a record's fixed fields are there
abbrev pub front_place : List ℕ → Option Place
front_place bytes = if nat_lt (length bytes) 28 then None else Some (record { array = number_at 2 0 bytes; index = number_at 4 2 bytes })

-- cells one after another
abbrev pub numbers_in : ℕ → List ℕ → List ℤ
numbers_in zero bytes = []
numbers_in (suc n) bytes = cast_signed w64 (number_at 8 0 bytes) ∷ numbers_in n (drop 8 bytes)

-- the state in the record of element e that begins these bytes
abbrev pub cells_in : Plan → ℕ → List ℕ → Cells
cells_in p e bytes = record {
  numbers = numbers_in (cells_of p e) (drop 28 bytes);
  slip = record { kind = number_at 1 14 bytes; step = number_at 1 15 bytes; iteration = number_at 8 16 bytes };
}

-- what is wrong with the records of n elements from e on, or behind them
abbrev pub faults_from : Plan → ℕ → ℕ → Option ℕ → ℕ → List ℕ → Option PupFault
faults_from p zero e first at bytes = if length bytes == 0 then None else Some (Trailing at)
faults_from p (suc n) e first at bytes =
    option_or (record_fault p e first at bytes) (faults_from p n (suc e) (Some (done_in bytes)) (at + size_of p e) (drop (size_of p e) bytes))

-- what is wrong with a checkpoint
unfoldable pub pack_fault : Plan → List ℕ → Option PupFault
pack_fault p bytes = option_or (head_fault p bytes) (faults_from p (elements p) 0 None 8 (drop 8 bytes))

-- how many bytes the records of n elements from e on have
abbrev pub sizes_from : Plan → ℕ → ℕ → ℕ
sizes_from p zero e = 0
sizes_from p (suc n) e = size_of p e + sizes_from p n (suc e)

-- the states in the records of n elements from e on
abbrev pub states_from : Plan → ℕ → ℕ → List ℕ → List Cells
states_from p zero e bytes = []
states_from p (suc n) e bytes = cells_in p e bytes ∷ states_from p n (suc e) (drop (size_of p e) bytes)

-- ---- answers

-- this state, unless memory runs out
abbrev pub ReadsState : ℕ → List Cells → Result Image PupFault → Type 0
ReadsState done all (Ok image) = (image.done ≡ done) × (image.all ≡ all)
ReadsState done all (Err fault) = fault ≡ Memory

-- the state that the bytes are the checkpoint of, if they are one
abbrev pub GivesState : Plan → List ℕ → Result Image PupFault → Type 0
GivesState p bytes result = (done : ℕ) (all : List Cells) → IsPack p bytes done all → ReadsState done all result

-- this state and the place behind its record, unless memory runs out
abbrev pub ReadsRecord : ℕ → Cells → ℕ → Result Unpacked PupFault → Type 0
ReadsRecord done cells next (Ok u) = (u.done ≡ done) × (u.cells ≡ cells) × (u.next ≡ next)
ReadsRecord done cells next (Err fault) = fault ≡ Memory

-- the state whose record stands at a place of the bytes, if one does
abbrev pub GivesRecord : Plan → ℕ → List ℕ → ℕ → Result Unpacked PupFault → Type 0
GivesRecord p e bytes at result =
    (done : ℕ) (cells : Cells) (next : ℕ) → IsRecord p e bytes at done cells next → ReadsRecord done cells next result

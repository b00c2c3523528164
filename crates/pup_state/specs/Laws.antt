-- Laws of the format.
use Rattle.std.specs.Prelude.{◌≡◌, ℕ, ◌+◌, ◌*◌, ◌<◌, ◌≤◌, ◌^◌, ◌⊎◌, List, [], ◌∷◌, ◌++◌, length, Some, FitsSigned}
use Rattle.std.specs.List.{AllByRecursion}
use Rattle.std.specs.Int.{w64}
use Rattle.chare_base.specs.declared.cells.Cells.{Cells}
use Rattle.chare_base.specs.declared.plan.Plan.{Plan}
use Rattle.chare_base.specs.Elements.{elements, place_of}
use Rattle.chare_base.specs.Shape.{Shaped}
use Rattle.pup_state.specs.declared.fault.PupFault.{PupFault}
use Rattle.pup_state.specs.declared.fault.PupFault.TheVariants.{Memory}
use Rattle.pup_state.specs.Faults.{Cause, RecordCause}
use Rattle.pup_state.specs.Packs.{IsPack, IsRecord, LawfulState}
use Rattle.pup_state.specs.Reading.{front_place}
use Rattle.pup_state.specs.Spelling.{cells_at, field, pack, record_spelling, records_of, size_of}

-- a number takes as many bytes as its field has
abbrev pub FieldLength : Type 0
FieldLength = (width x : ℕ) → length (field width x) ≡ width

-- an element's record has 28 bytes, and 8 for each cell
abbrev pub RecordLength : Type 0
RecordLength = (p : Plan) (e done : ℕ) (cells : Cells) →
    length (record_spelling p e done cells) ≡ 28 + 8 * length cells.numbers

-- an element's numbers are within their types
pub record CellsFit (cells : Cells) : Type 0 where
  pub numbers : AllByRecursion (FitsSigned w64) cells.numbers
  pub kind : cells.slip.kind < 2 ^ 8
  pub step : cells.slip.step < 2 ^ 8
  pub iteration : cells.slip.iteration < 2 ^ 64

-- states that a program can hold for a plan
pub record Fits (p : Plan) (all : List Cells) : Type 0 where
  pub shape : Shaped p all
  pub each : AllByRecursion CellsFit all

-- equal checkpoints are of equal states, after equally many iterations
abbrev pub OneSpelling : Type 0
OneSpelling = (p : Plan) (j k : ℕ) (a b : List Cells) → j < 2 ^ 64 → k < 2 ^ 64 → Fits p a → Fits p b →
    pack p j a ≡ pack p k b → (a ≡ b) × (j ≡ k)

-- a record tells where its element stands
abbrev pub RecordTellsPlace : Type 0
RecordTellsPlace = (p : Plan) (e done : ℕ) (cells : Cells) (rest : List ℕ) → e < elements p →
    front_place (record_spelling p e done cells ++ rest) ≡ Some (place_of p e)

-- a lawful state is one that a program can hold for the plan
abbrev pub LawfulFits : Type 0
LawfulFits = (p : Plan) (done : ℕ) (all : List Cells) → LawfulState p done all → Fits p all

-- bytes are the checkpoint of one state
abbrev pub OneState : Type 0
OneState = (p : Plan) (bytes : List ℕ) (j k : ℕ) (a b : List Cells) → IsPack p bytes j a → IsPack p bytes k b → (a ≡ b) × (j ≡ k)

-- a proper prefix of a checkpoint is no checkpoint
abbrev pub NoPrefix : Type 0
NoPrefix = (p : Plan) (bytes more : List ℕ) (j k : ℕ) (a b : List Cells) → IsPack p (bytes ++ more) j a → IsPack p bytes k b → more ≡ []

-- a state that the bytes are the checkpoint of
pub record State (p : Plan) (bytes : List ℕ) : Type 0 where
  pub done : ℕ
  pub all : List Cells
  pub is : IsPack p bytes done all

-- what is wrong with the bytes
pub record Fault (p : Plan) (bytes : List ℕ) : Type 0 where
  pub fault : PupFault
  pub is : Cause p bytes fault

-- bytes are a checkpoint, or have a cause of a fault
abbrev pub AlwaysOne : Type 0
AlwaysOne = (p : Plan) (bytes : List ℕ) → AllByRecursion (λ b. b < 2 ^ 8) bytes → State p bytes ⊎ Fault p bytes

-- no checkpoint has a cause of a fault
abbrev pub NeverBoth : Type 0
NeverBoth = (p : Plan) (bytes : List ℕ) (done : ℕ) (all : List Cells) (fault : PupFault) → IsPack p bytes done all → Cause p bytes fault → ⊥

-- and no bytes have two
abbrev pub OneCause : Type 0
OneCause = (p : Plan) (bytes : List ℕ) (f g : PupFault) → Cause p bytes f → Cause p bytes g → f ≡ g

-- want of memory is no cause: it says nothing of the bytes
abbrev pub NeverMemory : Type 0
NeverMemory = (p : Plan) (bytes : List ℕ) → Cause p bytes Memory → ⊥

abbrev pub NoRecordsMemory : Type 0
NoRecordsMemory = (p : Plan) (e at : ℕ) (bytes : List ℕ) → RecordCause p e bytes at Memory → ⊥

-- The records of these elements stand one after another from a place of the bytes on, and the bytes end behind them.
abbrev pub StandFrom : Plan → ℕ → List Cells → List ℕ → List ℕ → ℕ → Type 0
StandFrom p done all [] bytes at = at ≡ length bytes
StandFrom p done all (e ∷ more) bytes at =
    IsRecord p e bytes at done (cells_at all e) (at + size_of p e) × StandFrom p done all more bytes (at + size_of p e)

-- Reading a piece element by element, from its first byte on, gives back each element's state.
abbrev pub PiecesReadBack : Type 0
PiecesReadBack = (p : Plan) (done : ℕ) (all : List Cells) (members : List ℕ) → LawfulState p done all → AllByRecursion (λ e. e < elements p) members →
    StandFrom p done all members (records_of p done all members) 0

-- pieces and checkpoints are far smaller than what can be read
abbrev pub PiecesAreSmall : Type 0
PiecesAreSmall = (p : Plan) (done : ℕ) (all : List Cells) (members : List ℕ) → LawfulState p done all → AllByRecursion (λ e. e < elements p) members →
    length members ≤ elements p → length (records_of p done all members) < 2 ^ 28

abbrev pub PacksAreSmall : Type 0
PacksAreSmall = (p : Plan) (bytes : List ℕ) (done : ℕ) (all : List Cells) → IsPack p bytes done all → length bytes < 2 ^ 28

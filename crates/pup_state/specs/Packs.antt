-- Which bytes are the checkpoint of a state, and which are an element's record.
use Rattle.std.specs.Prelude.{◌≡◌, ℕ, ◌+◌, ◌<◌, ◌≤◌, ◌⊎◌, List, ◌++◌, drop, length, FitsSigned, slice_index_or}
use Rattle.std.specs.List.{AllByRecursion}
use Rattle.std.specs.Int.{w64}
use Rattle.chare_base.specs.declared.cells.Cells.{Cells}
use Rattle.chare_base.specs.declared.cells.Slip.{Slip}
use Rattle.chare_base.specs.declared.plan.Plan.{Plan}
use Rattle.chare_base.specs.Elements.{elements, cells_of, steps_of}
use Rattle.pup_state.specs.Spelling.{pack, record_spelling, size_of}

-- a slip of one of the steps, in a completed iteration
pub record Noted (steps done : ℕ) (slip : Slip) : Type 0 where
  pub some : 1 ≤ slip.kind
  pub kinds : slip.kind ≤ 3
  pub step : slip.step < steps
  pub iteration : slip.iteration < done

-- none, or one that could be noted
abbrev pub LawfulSlip : ℕ → ℕ → Slip → Type 0
LawfulSlip steps done slip = (slip ≡ record { kind = 0; step = 0; iteration = 0 }) ⊎ Noted steps done slip

-- a state that element e can have after `done` completed iterations
pub record Lawful (p : Plan) (e done : ℕ) (cells : Cells) : Type 0 where
  pub time : done ≤ p.iterations
  pub count : length cells.numbers ≡ cells_of p e
  pub numbers : AllByRecursion (FitsSigned w64) cells.numbers
  pub slip : LawfulSlip (length (steps_of p e)) done cells.slip

-- states that all elements can have after `done` completed iterations
pub record LawfulState (p : Plan) (done : ℕ) (all : List Cells) : Type 0 where
  pub count : length all ≡ elements p
  pub each : (e : ℕ) (none : Cells) → e < length all → Lawful p e done (slice_index_or all e none)

-- the bytes are the checkpoint of this state
pub record IsPack (p : Plan) (bytes : List ℕ) (done : ℕ) (all : List Cells) : Type 0 where
  pub spelled : bytes ≡ pack p done all
  pub lawful : LawfulState p done all

-- at a place of the bytes stands the record of element e in this state, and `next` is the place behind it
pub record IsRecord (p : Plan) (e : ℕ) (bytes : List ℕ) (at done : ℕ) (cells : Cells) (next : ℕ) : Type 0 where
  pub spelled : drop at bytes ≡ record_spelling p e done cells ++ drop next bytes
  pub lawful : Lawful p e done cells
  pub behind : next ≡ at + size_of p e

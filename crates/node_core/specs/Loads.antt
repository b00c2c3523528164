-- A node's objects from its piece.
use Rattle.std.specs.Prelude.{◌≡◌, ℕ, ◌≤◌, ◌==◌, ◌&&◌, Bool, if◌then◌else◌, List, [], ◌∷◌, length, drop, Option, Some, None, is_none}
use Rattle.chare_base.specs.declared.cells.Cells.{Cells}
use Rattle.chare_base.specs.declared.plan.Plan.{Plan}
use Rattle.chare_base.specs.Elements.{elements}
use Rattle.chare_base.specs.Flip.{Flip}
use Rattle.chare_base.specs.Placing.{members}
use Rattle.chare_eval.specs.Fold.{fold}
use Rattle.chare_eval.specs.Stage.{state_at}
use Rattle.letter_post.specs.Truth.{node_records}
use Rattle.object_steps.specs.Objects.{Progress, started}
use Rattle.pup_state.specs.Faults.{done_in, record_fault}
use Rattle.pup_state.specs.Reading.{cells_in}
use Rattle.pup_state.specs.Spelling.{size_of}

-- the record of element e after k iterations begins these bytes
abbrev pub begins_with : Plan → ℕ → ℕ → List ℕ → Bool
begins_with p e k bytes = is_none (record_fault p e None 0 bytes) && done_in bytes == k

-- the element's object between two iterations, where its record does
abbrev pub object_in : Plan → ℕ → ℕ → List ℕ → Option Progress
object_in p e k bytes = if begins_with p e k bytes then Some (started p e (cells_in p e bytes) k) else None

abbrev pub in_front : Option Progress → Option (List Progress) → Option (List Progress)
in_front (Some o) (Some more) = Some (o ∷ more)
in_front (Some o) None = None
in_front None more = None

-- The objects of these elements after k iterations, where the bytes are the elements' records and nothing follows them.
unfoldable pub loaded : Plan → List ℕ → ℕ → List ℕ → Option (List Progress)
loaded p [] k bytes = if length bytes == 0 then Some [] else None
loaded p (e ∷ more) k bytes = in_front (object_in p e k bytes) (loaded p more k (drop (size_of p e) bytes))

-- the objects of these elements after k iterations, where all elements have these states
abbrev pub opened : Plan → List Cells → ℕ → List ℕ → List Progress
opened p all k [] = []
opened p all k (e ∷ more) = started p e (state_at all e) k ∷ opened p all k more

-- A node's true piece is loaded as its elements between two iterations of the fold.
abbrev pub LoadsBack : Type 0
LoadsBack = (p : Plan) (place : List ℕ) (lines : List Flip) (k j : ℕ) → length place ≡ elements p → k ≤ p.iterations →
    loaded p (members place j) k (node_records p place lines k j) ≡ Some (opened p (fold p lines k) k (members place j))

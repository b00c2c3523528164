-- What all nodes' verdicts say.
use Rattle.std.specs.Prelude.{ℕ, zero, suc, nat_lt, if◌then◌else◌, List, [], ◌∷◌, ◌++◌, Option, Some, None}
use Rattle.chare_base.specs.declared.plan.ElementId.{ElementId}
use Rattle.pup_state.specs.declared.compare.Verdict.{Verdict}
use Rattle.pup_state.specs.declared.compare.Verdict.TheVariants as verdicts
use Rattle.pup_state.specs.declared.piece.Piece.{Piece}

-- the element that a verdict names
abbrev pub difference_in : Option Verdict → Option ElementId
difference_in None = None
difference_in (Some verdicts.Equal) = None
difference_in (Some (verdicts.Differ element)) = Some element

-- the lesser of two elements, where there are two
abbrev pub lesser : Option ElementId → Option ElementId → Option ElementId
lesser None other = other
lesser (Some e) None = Some e
lesser (Some e) (Some other) = if nat_lt other.0 e.0 then Some other else Some e

-- the least of an element that was found and those that verdicts name
abbrev pub least_from : Option ElementId → List (Option Verdict) → Option ElementId
least_from found [] = found
least_from found (verdict ∷ more) = least_from (lesser found (difference_in verdict)) more

-- the least element that verdicts name
abbrev pub least_difference : List (Option Verdict) → Option ElementId
least_difference verdicts = least_from None verdicts

-- a place for the piece of each of n nodes
abbrev pub no_pieces : ℕ → List Piece
no_pieces zero = []
no_pieces (suc n) = no_pieces n ++ record { node = n; iteration = 0; bytes = [] } ∷ []

-- What a store keeps.
use Rattle.std.specs.Prelude.{◌≡◌, ℕ, ◌==◌, if◌then◌else◌, Option, Some, None, MatchOption}
use Rattle.pup_state.specs.declared.piece.Piece.{Piece}

pub record StoreState : Type 0 where
  -- the node's part of the run's base
  pub base : Option Piece
  -- its part of the checkpoint that is being taken
  pub fresh : Option Piece

-- a piece, where it is there and at an iteration, else another
abbrev pub at_or : ℕ → Option Piece → Option Piece → Option Piece
at_or k None other = other
at_or k (Some piece) other = if piece.iteration == k then Some piece else other

-- the piece at an iteration, the base where both are
abbrev pub piece_at : ℕ → StoreState → Option Piece
piece_at k s = at_or k s.base (at_or k s.fresh None)

-- there is a fresh piece, and it is at an iteration
abbrev pub HasFreshAt : ℕ → StoreState → Type 0
HasFreshAt k s = MatchOption s.fresh ⊥ (λ piece. piece.iteration ≡ k)

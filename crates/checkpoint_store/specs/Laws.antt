-- Laws of pieces.
use Rattle.std.specs.Prelude.{◌≡◌, ℕ, List, length}
use Rattle.chare_base.specs.declared.plan.Plan.{Plan}
use Rattle.chare_base.specs.Elements.{elements}
use Rattle.chare_base.specs.Flip.{Flip}
use Rattle.chare_base.specs.Placing.{Covers}
use Rattle.chare_eval.specs.Fold.{fold}
use Rattle.pup_state.specs.declared.piece.Piece.{Piece}
use Rattle.pup_state.specs.Spelling.{pack}
use Rattle.checkpoint_store.specs.Assembled.{ArePieces, assembled}

-- pieces of the definition make its checkpoint
abbrev pub PiecesMakeTheCheckpoint : Type 0
PiecesMakeTheCheckpoint = (p : Plan) (place : List ℕ) (lines : List Flip) (k : ℕ) (pieces : List Piece) →
    length place ≡ elements p → Covers place (length pieces) → ArePieces p place lines k pieces →
    assembled p place pieces ≡ pack p k (fold p lines k)

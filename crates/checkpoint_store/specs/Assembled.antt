-- The checkpoint of the pieces of all nodes.
use Rattle.std.specs.Prelude.{◌≡◌, ℕ, zero, suc, ◌+◌, ◌*◌, ◌<◌, List, [], ◌∷◌, ◌++◌, length, map, take, drop, slice_index_or, slice_set}
use Rattle.chare_base.specs.declared.plan.Plan.{Plan}
use Rattle.chare_base.specs.Elements.{cells_of, elements}
use Rattle.chare_base.specs.Flip.{Flip}
use Rattle.pup_state.specs.declared.piece.Piece.{Piece}
use Rattle.pup_state.specs.Spelling.{head}
use Rattle.letter_post.specs.Truth.{node_records}

-- how many bytes an element's record has
abbrev pub record_size : Plan → ℕ → ℕ
record_size p e = 28 + 8 * cells_of p e

-- what is left of a node's piece
abbrev pub rest_at : List (List ℕ) → ℕ → List ℕ
rest_at rests j = slice_index_or rests j []

-- the records of the elements from e on, which live on these nodes, each from the front of what is left of its node's piece
abbrev pub merged : Plan → ℕ → List ℕ → List (List ℕ) → List ℕ
merged p e [] rests = []
merged p e (j ∷ more) rests =
    take (record_size p e) (rest_at rests j) ++ merged p (suc e) more (slice_set rests j (drop (record_size p e) (rest_at rests j)))

abbrev pub bytes_of : Piece → List ℕ
bytes_of piece = piece.bytes

-- the checkpoint that the pieces of all nodes make
unfoldable pub assembled : Plan → List ℕ → List Piece → List ℕ
assembled p place pieces = head (elements p) ++ merged p 0 place (map bytes_of pieces)

-- the bytes of the piece of node j
abbrev pub bytes_at : List Piece → ℕ → List ℕ
bytes_at pieces j = rest_at (map bytes_of pieces) j

-- each piece is the records of its node's elements after k iterations
abbrev pub ArePieces : Plan → List ℕ → List Flip → ℕ → List Piece → Type 0
ArePieces p place lines k pieces = (j : ℕ) → j < length pieces → bytes_at pieces j ≡ node_records p place lines k j

-- ---- in code, by how many bytes of each piece were taken

abbrev pub rests : List Piece → List ℕ → List (List ℕ)
rests [] ends = []
rests (piece ∷ more) [] = []
rests (piece ∷ more) (end ∷ ends) = drop end piece.bytes ∷ rests more ends

abbrev pub zeros : ℕ → List ℕ
zeros zero = []
zeros (suc n) = zeros n ++ 0 ∷ []

-- Pieces make the checkpoint.
use Rattle.std.proofs.Common.{◌≡◌, ◌≢◌, ℕ, zero, suc, ◌+◌, ◌*◌, ◌<◌, Bool, true, false, cond, List, [], ◌∷◌, ◌++◌, length, take, drop, Some, refl, ap, sym, ◌∙◌, arith, subst}
use Rattle.std.specs.Prelude.{◌==◌, map, min, slice_get, slice_index_or, slice_set}
use Rattle.std.specs.List.{AllByRecursion}
use Rattle.std.proofs.Math.Seq.{take-append_seam, drop-append_seam}
use Rattle.std.proofs.lemmas.List.{get_or-set_same, get_or-set_other, length-append, length-set}
use Rattle.std.proofs.lemmas.Bool.{eqb-true}
use Rattle.std.proofs.lemmas.Bool.Decides.{Decides-eqb}
use Rattle.chare_base.specs.declared.cells.Cells.{Cells}
use Rattle.chare_base.specs.declared.plan.Plan.{Plan}
use Rattle.chare_base.specs.Elements.{elements}
use Rattle.chare_base.specs.Placing.{members_from}
use Rattle.chare_base.specs.Shape.{Shaped}
use Rattle.chare_eval.specs.Fold.{fold}
use Rattle.chare_eval.specs.Laws.{FoldIsShaped}
use Rattle.pup_state.specs.declared.piece.Piece.{Piece}
use Rattle.pup_state.specs.Laws.{RecordLength}
use Rattle.pup_state.specs.Spelling.{cells_at, head, pack, record_spelling, records_from, records_of}
use Rattle.checkpoint_store.specs.Assembled.{assembled, bytes_of, merged, record_size, rest_at, rests, zeros}
use Rattle.checkpoint_store.specs.Laws.{PiecesMakeTheCheckpoint}

abbrev none : Cells
none = record { numbers = []; slip = record { kind = 0; step = 0; iteration = 0 } }

same_test : (j : ℕ) → (j == j) ≡ true
same_test j = (Decides-eqb j j).1 refl

other_test : (i j : ℕ) → i ≢ j → (i == j) ≡ false
other_test i j other = by (i == j) refl
  where
    by : (b : Bool) → (i == j) ≡ b → b ≡ false
    by true h = absurd (other (eqb-true i j h))
    by false h = refl

-- the states of the elements from e on
behind : (e : ℕ) (all : List Cells) → e < length all → drop e all ≡ cells_at all e ∷ drop (suc e) all
behind e [] h = absurd (omega (arith, h))
behind zero (x ∷ xs) h = refl
behind (suc e) (x ∷ xs) h = behind e xs (omega (arith, h))

past : (e : ℕ) (all : List Cells) → length all ≡ e → drop e all ≡ []
past zero [] h = refl
past zero (x ∷ xs) h = absurd (omega (arith, h))
past (suc e) [] h = absurd (omega (arith, h))
past (suc e) (x ∷ xs) h = past e xs (omega (arith, h))

module _ (p : Plan) (k : ℕ) (all : List Cells) (shaped : Shaped p all) (lengths : RecordLength) where
  sized : (e : ℕ) → e < elements p → length (record_spelling p e k (cells_at all e)) ≡ record_size p e
  sized e h = lengths p e k (cells_at all e) ∙ ap (λ n. 28 + 8 * n) (shaped.cells e none (omega (arith, h, shaped.count)))

  -- what is left of each piece are the records of its node's elements from e on
  abbrev Left : ℕ → List ℕ → List (List ℕ) → Type 0
  Left e place left = (j : ℕ) → j < length left → rest_at left j ≡ records_of p k all (members_from e place j)

  left_next : (j : ℕ) (more : List ℕ) (e : ℕ) (left : List (List ℕ)) (i : ℕ) → j < length left → i < length left → (new : List ℕ) → new ≡ records_of p k all (members_from (suc e) more j) →
      Left e (j ∷ more) left → rest_at (slice_set left j new) i ≡ records_of p k all (members_from (suc e) more i)
  left_next j more e left i hj hi new is all_left = by (j == i) refl
    where
      by : (b : Bool) → (j == i) ≡ b → rest_at (slice_set left j new) i ≡ records_of p k all (members_from (suc e) more i)
      by true h =
          let same : j ≡ i = eqb-true j i h in
          ap (λ x. rest_at (slice_set left j new) x) (sym same) ∙ get_or-set_same left j new [] hj ∙ is ∙ ap (λ x. records_of p k all (members_from (suc e) more x)) same
      by false h =
          let other : i ≢ j = λ same. absurd (let t : (j == i) ≡ true = ap (λ x. j == x) same ∙ same_test j in let q : true ≡ false = sym t ∙ h in cc) in
          get_or-set_other left j i new [] other ∙ all_left i hi ∙ ap (λ b. records_of p k all (cond b (e ∷ members_from (suc e) more i) (members_from (suc e) more i))) h

  merged_is : (place : List ℕ) (e : ℕ) (left : List (List ℕ)) → e + length place ≡ elements p → AllByRecursion (λ j. j < length left) place → Left e place left →
      merged p e place left ≡ records_from p k e (drop e all)
  merged_is [] e left end within all_left = ap (records_from p k e) (sym (past e all (omega (arith, end, shaped.count))))
  merged_is (j ∷ more) e left end within all_left =
      let there : e < elements p = omega (arith, end) in
      let size : ℕ = record_size p e in
      let others : List ℕ = records_of p k all (members_from (suc e) more j) in
      let mine : rest_at left j ≡ record_spelling p e k (cells_at all e) ++ others =
      all_left j within.0 ∙ ap (λ b. records_of p k all (cond b (e ∷ members_from (suc e) more j) (members_from (suc e) more j))) (same_test j) in
      let taken : take size (rest_at left j) ≡ record_spelling p e k (cells_at all e) =
      ap (take size) mine ∙ ap (λ n. take n (record_spelling p e k (cells_at all e) ++ others)) (sym (sized e there)) ∙ take-append_seam (record_spelling p e k (cells_at all e)) others in
      let dropped : drop size (rest_at left j) ≡ others =
      ap (drop size) mine ∙ ap (λ n. drop n (record_spelling p e k (cells_at all e) ++ others)) (sym (sized e there)) ∙ drop-append_seam (record_spelling p e k (cells_at all e)) others in
      let after : List (List ℕ) = slice_set left j (drop size (rest_at left j)) in
      let count : length after ≡ length left = length-set left j (drop size (rest_at left j)) in
      let rest = merged_is more (suc e) after (omega (arith, end)) (subst (λ n. AllByRecursion (λ i. i < n) more) (sym count) within.1)
      (λ i h. left_next j more e left i within.0 (omega (arith, h, count)) (drop size (rest_at left j)) dropped all_left) in
      ap (λ xs. xs ++ merged p (suc e) more after) taken
      ∙ ap (λ xs. record_spelling p e k (cells_at all e) ++ xs) rest
      ∙ ap (records_from p k e) (sym (behind e all (omega (arith, there, shaped.count))))

length_map : (pieces : List Piece) → length (map bytes_of pieces) ≡ length pieces
length_map [] = refl
length_map (x ∷ xs) = ap suc (length_map xs)

pub pieces_make : FoldIsShaped → RecordLength → PiecesMakeTheCheckpoint
unfolding assembled pack
pieces_make shaped lengths p place lines k pieces count covers are =
    let all : List Cells = fold p lines k in
    let n : length (map bytes_of pieces) ≡ length pieces = length_map pieces in
    let is : merged p 0 place (map bytes_of pieces) ≡ records_from p k 0 all =
    merged_is p k all (shaped p lines k) lengths place 0 (map bytes_of pieces) (omega (arith, count)) (subst (λ m. AllByRecursion (λ j. j < m) place) (sym n) covers.within)
    (λ j h. are j (omega (arith, h, n))) in
    ap (λ m. head m ++ merged p 0 place (map bytes_of pieces)) (sym (shaped p lines k).count) ∙ ap (λ xs. head (length all) ++ xs) is

-- ---- one element's record more

drop_none : (n : ℕ) → drop {A = ℕ} n [] ≡ []
drop_none zero = refl
drop_none (suc n) = refl

pub drop_min : (n : ℕ) (xs : List ℕ) → drop (min n (length xs)) xs ≡ drop n xs
drop_min n [] = drop_none (min n 0) ∙ sym (drop_none n)
drop_min zero (x ∷ xs) = ap (λ m. drop m (x ∷ xs)) (let q : min 0 (suc (length xs)) ≡ 0 = omega arith in q)
drop_min (suc n) (x ∷ xs) = ap (λ m. drop m (x ∷ xs)) (let q : min (suc n) (suc (length xs)) ≡ suc (min n (length xs)) = omega arith in q) ∙ drop_min n xs

from_here : (xs : List ℕ) (i x : ℕ) → slice_get xs i ≡ Some x → drop i xs ≡ x ∷ drop (suc i) xs
from_here [] i x h = absurd cc
from_here (y ∷ ys) zero x h = let same : y ≡ x = cc in ap (λ z. z ∷ ys) same
from_here (y ∷ ys) (suc i) x h = from_here ys i x h

-- what is left of one piece, and of all where more was taken of this one
rest_of : (pieces : List Piece) (ends : List ℕ) (j : ℕ) (piece : Piece) (end : ℕ) → slice_get pieces j ≡ Some piece → slice_get ends j ≡ Some end → rest_at (rests pieces ends) j ≡ drop end piece.bytes
rest_of [] ends j piece end there at = absurd cc
rest_of (x ∷ more) [] j piece end there at = absurd cc
rest_of (x ∷ more) (n ∷ ends) zero piece end there at = let a : x ≡ piece = cc in let b : n ≡ end = cc in ap (λ m. drop m x.bytes) b ∙ ap (λ (y : Piece). drop end y.bytes) a
rest_of (x ∷ more) (n ∷ ends) (suc j) piece end there at = rest_of more ends j piece end there at

rests_set : (pieces : List Piece) (ends : List ℕ) (j : ℕ) (piece : Piece) (new : ℕ) → slice_get pieces j ≡ Some piece → rests pieces (slice_set ends j new) ≡ slice_set (rests pieces ends) j (drop new piece.bytes)
rests_set [] ends j piece new there = absurd cc
rests_set (x ∷ more) [] j piece new there = refl
rests_set (x ∷ more) (n ∷ ends) zero piece new there = let a : x ≡ piece = cc in ap (λ (y : Piece). drop new y.bytes ∷ rests more ends) a
rests_set (x ∷ more) (n ∷ ends) (suc j) piece new there = ap (λ xs. drop n x.bytes ∷ xs) (rests_set more ends j piece new there)

pub merge_next : (p : Plan) (place : List ℕ) (e next node : ℕ) (pieces : List Piece) (ends : List ℕ) (piece : Piece) (end new size : ℕ) → next ≡ suc e → slice_get place e ≡ Some node →
    slice_get pieces node ≡ Some piece → slice_get ends node ≡ Some end → size ≡ record_size p e → drop new piece.bytes ≡ drop size (drop end piece.bytes) →
    merged p e (drop e place) (rests pieces ends) ≡ take size (drop end piece.bytes) ++ merged p next (drop next place) (rests pieces (slice_set ends node new))
merge_next p place e next node pieces ends piece end new size n is there at sized left =
    let all : List (List ℕ) = rests pieces ends in
    ap (λ nodes. merged p e nodes all) (from_here place e node is)
    ∙ ap (λ s. take s (rest_at all node) ++ merged p (suc e) (drop (suc e) place) (slice_set all node (drop s (rest_at all node)))) (sym sized)
    ∙ ap (λ xs. take size xs ++ merged p (suc e) (drop (suc e) place) (slice_set all node (drop size xs))) (rest_of pieces ends node piece end there at)
    ∙ ap (λ xs. take size (drop end piece.bytes) ++ merged p (suc e) (drop (suc e) place) (slice_set all node xs)) (sym left)
    ∙ ap (λ xs. take size (drop end piece.bytes) ++ merged p (suc e) (drop (suc e) place) xs) (sym (rests_set pieces ends node piece new there))
    ∙ ap (λ m. take size (drop end piece.bytes) ++ merged p m (drop m place) (rests pieces (slice_set ends node new))) (sym n)

pub set_get : {A : Type 0} (xs : List A) (i : ℕ) (x : A) → i < length xs → x ≡ slice_index_or xs i x → slice_get xs i ≡ Some x
set_get [] i x h is = absurd (omega (arith, h))
set_get (y ∷ ys) zero x h is = ap Some (sym is)
set_get (y ∷ ys) (suc i) x h is = set_get ys i x (omega (arith, h)) is

-- ---- at first nothing is taken

pub zeros_count : (n : ℕ) → length (zeros n) ≡ n
zeros_count zero = refl
zeros_count (suc n) = length-append (zeros n) (0 ∷ []) ∙ omega (arith, zeros_count n)

zeros_behind : (xs : List ℕ) → AllByRecursion (λ x. x ≡ 0) xs → AllByRecursion (λ x. x ≡ 0) (xs ++ 0 ∷ [])
zeros_behind [] all = (refl, tt)
zeros_behind (x ∷ xs) all = (all.0, zeros_behind xs all.1)

all_zero : (n : ℕ) → AllByRecursion (λ x. x ≡ 0) (zeros n)
all_zero zero = tt
all_zero (suc n) = zeros_behind (zeros n) (all_zero n)

whole_rests : (pieces : List Piece) (ends : List ℕ) → length ends ≡ length pieces → AllByRecursion (λ x. x ≡ 0) ends → rests pieces ends ≡ map bytes_of pieces
whole_rests [] ends count all = refl
whole_rests (x ∷ more) [] count all = absurd (let q : 0 ≡ suc (length more) = count in cc)
whole_rests (x ∷ more) (n ∷ ends) count all =
    ap (λ m. drop m x.bytes ∷ rests more ends) all.0 ∙ ap (λ xs. x.bytes ∷ xs) (whole_rests more ends (omega (arith, count)) all.1)

pub whole : (pieces : List Piece) (n : ℕ) → length pieces ≡ n → rests pieces (zeros n) ≡ map bytes_of pieces
whole pieces n count = whole_rests pieces (zeros n) (zeros_count n ∙ sym count) (all_zero n)

pub told : (p : Plan) (place : List ℕ) (pieces : List Piece) (ends start headed out : List ℕ) (n count : ℕ) → length pieces ≡ n → ends ≡ zeros n → start ≡ [] → count ≡ elements p →
    headed ≡ start ++ head count → out ≡ headed ++ merged p 0 place (rests pieces ends) → out ≡ assembled p place pieces
unfolding assembled
told p place pieces ends start headed out n count number none_taken empty all head_put is =
    is
    ∙ ap (λ xs. xs ++ merged p 0 place (rests pieces ends)) head_put
    ∙ ap (λ xs. (xs ++ head count) ++ merged p 0 place (rests pieces ends)) empty
    ∙ ap (λ m. head m ++ merged p 0 place (rests pieces ends)) all
    ∙ ap (λ xs. head (elements p) ++ merged p 0 place (rests pieces xs)) none_taken
    ∙ ap (λ xs. head (elements p) ++ merged p 0 place xs) (whole pieces n number)

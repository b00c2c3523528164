-- Record by record.
use Rattle.std.proofs.Common.{◌≡◌, ℕ, zero, suc, ◌+◌, ◌-◌, ◌*◌, ◌<◌, ◌≤◌, Bool, true, false, cond, List, [], ◌∷◌, ◌++◌, length, take, drop, refl, ap, sym, ◌∙◌, arith, Option, Some, None}
use Rattle.std.specs.List.{AllByRecursion}
use Rattle.std.specs.Option.{option_map_or}
use Rattle.std.specs.Str.{bytes_eq}
use Rattle.std.proofs.Math.Seq.{take-append_seam, drop-append_seam}
use Rattle.std.proofs.lemmas.Bool.{lt-ltb}
use Rattle.std.proofs.lemmas.List.{length-append, take-append-drop}
use Rattle.std.proofs.lemmas.Slice.Eq.{bytes_eq-Decides}
use Rattle.chare_base.specs.declared.cells.Cells.{Cells}
use Rattle.chare_base.specs.declared.plan.Place.{Place}
use Rattle.chare_base.specs.declared.plan.Plan.{Plan}
use Rattle.chare_base.specs.Elements.{elements}
use Rattle.chare_base.specs.Entries.{first_of, id_of}
use Rattle.chare_base.specs.Shape.{Shaped}
use Rattle.chare_base.proofs.Neighbours.{element_is}
use Rattle.pup_state.specs.declared.compare.Verdict.{Verdict}
use Rattle.pup_state.specs.declared.compare.Verdict.TheVariants.{Equal, Differ}
use Rattle.pup_state.specs.Spelling.{cells_at, record_spelling, records_of, size_of}
use Rattle.pup_state.proofs.Lengths.{record_length}
use Rattle.pup_state.proofs.Records.{tells_place}
use Rattle.buddy_compare.specs.Comparing.{element_if, front_element, rest_verdict, verdict_at, verdict_of, walked}
use Rattle.buddy_compare.specs.Laws.{EqualExactly, record_in}

-- ---- equal exactly where the bytes are

rest_tells : (a b : List ℕ) → rest_verdict a b ≡ Equal → a ≡ b
rest_tells a b h = by (bytes_eq a b) refl h
  where
    by : (t : Bool) → bytes_eq a b ≡ t → cond t Equal (Differ (id_of 0)) ≡ Equal → a ≡ b
    by true t k = (bytes_eq-Decides a b).0 t
    by false t k = absurd cc

same_test : (a : List ℕ) → bytes_eq a a ≡ true
same_test a = (bytes_eq-Decides a a).1 refl

rest_same : (a : List ℕ) → rest_verdict a a ≡ Equal
rest_same a = ap (λ t. cond t Equal (Differ (id_of 0))) (same_test a)

walked_tells : (p : Plan) (n : ℕ) (a b : List ℕ) → walked p n a b ≡ Equal → a ≡ b
walked_tells p zero a b h = rest_tells a b h
walked_tells p (suc n) a b h = by (front_element p a) h (λ e. walked_tells p n (drop (size_of p e) a) (drop (size_of p e) b))
  where
    same : (e : ℕ) (t : Bool) → bytes_eq (take (size_of p e) a) (take (size_of p e) b) ≡ t →
        cond t (walked p n (drop (size_of p e) a) (drop (size_of p e) b)) (Differ (id_of e)) ≡ Equal → (walked p n (drop (size_of p e) a) (drop (size_of p e) b) ≡ Equal → drop (size_of p e) a ≡ drop (size_of p e) b) → a ≡ b
    same e true t k rest =
        let front : take (size_of p e) a ≡ take (size_of p e) b = (bytes_eq-Decides (take (size_of p e) a) (take (size_of p e) b)).0 t in
        sym (take-append-drop (size_of p e) a) ∙ ap (λ xs. xs ++ drop (size_of p e) a) front ∙ ap (λ xs. take (size_of p e) b ++ xs) (rest k) ∙ take-append-drop (size_of p e) b
    same e false t k rest = absurd cc

    by : (o : Option ℕ) → verdict_at p (walked p n) a b o ≡ Equal →
        ((e : ℕ) → walked p n (drop (size_of p e) a) (drop (size_of p e) b) ≡ Equal → drop (size_of p e) a ≡ drop (size_of p e) b) → a ≡ b
    by None k rest = rest_tells a b k
    by (Some e) k rest = same e (bytes_eq (take (size_of p e) a) (take (size_of p e) b)) refl k (rest e)

walked_same : (p : Plan) (n : ℕ) (a : List ℕ) → walked p n a a ≡ Equal
walked_same p zero a = rest_same a
walked_same p (suc n) a = by (front_element p a) (λ e. walked_same p n (drop (size_of p e) a))
  where
    by : (o : Option ℕ) → ((e : ℕ) → walked p n (drop (size_of p e) a) (drop (size_of p e) a) ≡ Equal) → verdict_at p (walked p n) a a o ≡ Equal
    by None rest = rest_same a
    by (Some e) rest =
        ap (λ t. cond t (walked p n (drop (size_of p e) a) (drop (size_of p e) a)) (Differ (id_of e))) (same_test (take (size_of p e) a)) ∙ rest e

pub equal_exactly : EqualExactly
unfolding verdict_of
equal_exactly p a b = (walked_tells p (length a) a b, λ same. ap (walked p (length a) a) (sym same) ∙ walked_same p (length a) a)

-- ---- the records of some elements

front_is : (p : Plan) (e k : ℕ) (cells : Cells) (more : List ℕ) → e < elements p → front_element p (record_spelling p e k cells ++ more) ≡ Some e
front_is p e k cells more there =
    ap (λ o. option_map_or (λ (place : Place). element_if (elements p) (first_of p.arrays place.array + place.index)) o None) (tells_place p e k cells more there)
    ∙ ap (element_if (elements p)) (element_is p e there)
    ∙ ap (λ b. cond b (Some e) None) (lt-ltb e (elements p) there)

-- the first of these elements whose records differ
abbrev pub first_of_these : Plan → ℕ → List Cells → List Cells → List ℕ → Verdict
first_of_these p k x y [] = Equal
first_of_these p k x y (e ∷ more) = cond (bytes_eq (record_in p k x e) (record_in p k y e)) (first_of_these p k x y more) (Differ (id_of e))

module _ (p : Plan) (k : ℕ) (x y : List Cells) (sx : Shaped p x) (sy : Shaped p y) where
  sized : (all : List Cells) (e : ℕ) → Shaped p all → e < elements p → length (record_in p k all e) ≡ size_of p e
  sized all e shaped h =
      record_length p e k (cells_at all e)
      ∙ ap (λ n. 28 + 8 * n) (shaped.cells e (record { numbers = []; slip = record { kind = 0; step = 0; iteration = 0 } }) (omega (arith, h, shaped.count)))

  front : (e : ℕ) (r s : List ℕ) → length r ≡ size_of p e → take (size_of p e) (r ++ s) ≡ r
  front e r s is = ap (λ m. take m (r ++ s)) (sym is) ∙ take-append_seam r s

  back : (e : ℕ) (r s : List ℕ) → length r ≡ size_of p e → drop (size_of p e) (r ++ s) ≡ s
  back e r s is = ap (λ m. drop m (r ++ s)) (sym is) ∙ drop-append_seam r s

  one_more : (e n : ℕ) (r r' s s' : List ℕ) → length r ≡ size_of p e → length r' ≡ size_of p e → front_element p (r ++ s) ≡ Some e →
      walked p (suc n) (r ++ s) (r' ++ s') ≡ cond (bytes_eq r r') (walked p n s s') (Differ (id_of e))
  one_more e n r r' s s' is is' found =
      ap (verdict_at p (walked p n) (r ++ s) (r' ++ s')) found
      ∙ ap (λ t. cond (bytes_eq t (take (size_of p e) (r' ++ s'))) (walked p n (drop (size_of p e) (r ++ s)) (drop (size_of p e) (r' ++ s'))) (Differ (id_of e))) (front e r s is)
      ∙ ap (λ t. cond (bytes_eq r t) (walked p n (drop (size_of p e) (r ++ s)) (drop (size_of p e) (r' ++ s'))) (Differ (id_of e))) (front e r' s' is')
      ∙ ap (λ t. cond (bytes_eq r r') (walked p n t (drop (size_of p e) (r' ++ s'))) (Differ (id_of e))) (back e r s is)
      ∙ ap (λ t. cond (bytes_eq r r') (walked p n s t) (Differ (id_of e))) (back e r' s' is')

  walks : (es : List ℕ) (n : ℕ) → length es ≤ n → AllByRecursion (λ e. e < elements p) es → walked p n (records_of p k x es) (records_of p k y es) ≡ first_of_these p k x y es
  walks [] n h all = walked_same p n []
  walks (e ∷ more) zero h all = absurd (omega (arith, h))
  walks (e ∷ more) (suc n) h all =
      one_more e n (record_in p k x e) (record_in p k y e) (records_of p k x more) (records_of p k y more) (sized x e sx all.0) (sized y e sy all.0)
      (front_is p e k (cells_at x e) (records_of p k x more) all.0)
      ∙ ap (λ v. cond (bytes_eq (record_in p k x e) (record_in p k y e)) v (Differ (id_of e))) (walks more n (omega (arith, h)) all.1)

  enough : (es : List ℕ) → length es ≤ length (records_of p k x es)
  enough [] = omega arith
  enough (e ∷ more) = omega (arith, enough more, length-append (record_in p k x e) (records_of p k x more), record_length p e k (cells_at x e))

  pub first_differing : (es : List ℕ) → AllByRecursion (λ e. e < elements p) es → verdict_of p (records_of p k x es) (records_of p k y es) ≡ first_of_these p k x y es
  unfolding verdict_of
  first_differing es all = walks es (length (records_of p k x es)) (enough es) all

-- ---- one turn of the loop

walked_next : (p : Plan) (len i : ℕ) (a b : List ℕ) → i < len → walked p (len - i) a b ≡ verdict_at p (walked p (len - (i + 1))) a b (front_element p a)
walked_next p len i a b h = let n : len - i ≡ suc (len - (i + 1)) = omega (arith, h) in ap (λ k. walked p k a b) n

pub ends : (p : Plan) (len i : ℕ) (a b left other : List ℕ) → i < len → walked p (len - i) left other ≡ walked p len a b → front_element p left ≡ None → rest_verdict left other ≡ walked p len a b
ends p len i a b left other h told none = sym (sym told ∙ walked_next p len i left other h ∙ ap (verdict_at p (walked p (len - (i + 1))) left other) none)

pub differs : (p : Plan) (len i e : ℕ) (a b left other : List ℕ) → i < len → walked p (len - i) left other ≡ walked p len a b → front_element p left ≡ Some e →
    bytes_eq (take (size_of p e) left) (take (size_of p e) other) ≡ false → Differ (id_of e) ≡ walked p len a b
differs p len i e a b left other h told some unlike =
    sym (sym told ∙ walked_next p len i left other h ∙ ap (verdict_at p (walked p (len - (i + 1))) left other) some
    ∙ ap (λ t. cond t (walked p (len - (i + 1)) (drop (size_of p e) left) (drop (size_of p e) other)) (Differ (id_of e))) unlike)

pub goes_on : (p : Plan) (len i e : ℕ) (a b left other : List ℕ) → i < len → walked p (len - i) left other ≡ walked p len a b → front_element p left ≡ Some e →
    bytes_eq (take (size_of p e) left) (take (size_of p e) other) ≡ true → walked p (len - (i + 1)) (drop (size_of p e) left) (drop (size_of p e) other) ≡ walked p len a b
goes_on p len i e a b left other h told some same =
    sym (ap (verdict_at p (walked p (len - (i + 1))) left other) some ∙ ap (λ t. cond t (walked p (len - (i + 1)) (drop (size_of p e) left) (drop (size_of p e) other)) (Differ (id_of e))) same)
    ∙ sym (walked_next p len i left other h) ∙ told

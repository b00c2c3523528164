-- The nodes on which elements of an array live.
use Rattle.std.proofs.Common.{◌≡◌, ℕ, zero, suc, ◌<◌, inl, inr, Bool, true, false, cond, List, [], ◌∷◌, ◌++◌, length, refl, ap, sym, ◌∙◌, arith, subst, Some, None}
use Rattle.std.specs.Prelude.{◌⊎◌, ◌==◌, nat_lt, slice_get, slice_index_or}
use Rattle.std.proofs.lemmas.Bool.{eq-eqb, eqb-true, ltb-true}
use Rattle.std.proofs.lemmas.Bool.Decides.{nat_tests}
use Rattle.std.proofs.lemmas.List.{length-append}
use Rattle.std.proofs.lemmas.Option.{same_Some}
use Rattle.chare_base.specs.declared.plan.Plan.{Plan}
use Rattle.chare_base.specs.Elements.{place_of}
use Rattle.chare_base.specs.Placing.{members}
use Rattle.letter_post.specs.Truth.{in_array}
use Rattle.node_core.specs.Mail.{In}
use Rattle.node_core.specs.Rosters.{count_in, node_count, nodes_with, number_in, roster_of, sharers_of, sharers_to, shares}
use Rattle.node_core.proofs.Seats.{end_at}
use Rattle.node_core.proofs.Within.{in_left, in_right}

sharers_count : (p : Plan) (place : List ℕ) (nodes n : ℕ) → length (sharers_to p place nodes n) ≡ n
sharers_count p place nodes zero = refl
sharers_count p place nodes (suc n) = let rest = sharers_count p place nodes n in length-append (sharers_to p place nodes n) (nodes_with p place n nodes ∷ []) ∙ omega (arith, rest)

sharers_at : (p : Plan) (place : List ℕ) (nodes n a : ℕ) → a < n → slice_index_or (sharers_to p place nodes n) a [] ≡ nodes_with p place a nodes
sharers_at p place nodes zero a h = absurd (omega (arith, h))
sharers_at p place nodes (suc n) a h = end_at (sharers_to p place nodes n) (nodes_with p place n nodes) [] a ∙ by (a == length (sharers_to p place nodes n)) refl (sharers_at p place nodes n a)
  where
    count : length (sharers_to p place nodes n) ≡ n
    count = sharers_count p place nodes n

    by : (b : Bool) → (a == length (sharers_to p place nodes n)) ≡ b → (a < n → slice_index_or (sharers_to p place nodes n) a [] ≡ nodes_with p place a nodes) →
        cond b (nodes_with p place n nodes) (slice_index_or (sharers_to p place nodes n) a []) ≡ nodes_with p place a nodes
    by true is rest = ap (λ m. nodes_with p place m nodes) (sym (eqb-true a (length (sharers_to p place nodes n)) is ∙ count))
    by false is rest = let other : a ≡ length (sharers_to p place nodes n) → ⊥ = λ e. let q : true ≡ false = sym (eq-eqb a (length (sharers_to p place nodes n)) e) ∙ is in cc in rest (below (λ e. other (e ∙ sym count)))
      where
        below : (a ≡ n → ⊥) → a < n
        below other = which (nat_lt a n) refl
          where
            which : (c : Bool) → nat_lt a n ≡ c → a < n
            which true t = ltb-true a n t
            which false t = absurd (other (grind (arith, nat_tests, t, h)))

-- node 0 knows them
pub sharers_known : (p : Plan) (place : List ℕ) (a : ℕ) → a < length p.arrays → sharers_of (roster_of p place 0) a ≡ nodes_with p place a (node_count place)
unfolding roster_of
sharers_known p place a h = sharers_at p place (node_count place) (length p.arrays) a h

-- an element of an array among others
pub record OfArray (p : Plan) (es : List ℕ) (array : ℕ) : Type 0 where
  pub at : ℕ
  pub element : ℕ
  pub there : slice_get es at ≡ Some element
  pub own : (place_of p element).array ≡ array

counted_one : (p : Plan) (es : List ℕ) (array : ℕ) → 0 < count_in p array es → OfArray p es array
counted_one p [] array h = absurd (omega (arith, h))
counted_one p (e ∷ more) array h = by ((place_of p e).array == array) refl h (counted_one p more array)
  where
    by : (b : Bool) → ((place_of p e).array == array) ≡ b → 0 < length (cond b (e ∷ in_array p array more) (in_array p array more)) → (0 < count_in p array more → OfArray p more array) → OfArray p (e ∷ more) array
    by true is some rest = record { at = 0; element = e; there = refl; own = eqb-true (place_of p e).array array is }
    by false is some rest = let r = rest some in record { at = suc r.at; element = r.element; there = r.there; own = r.own }

one_counted : (p : Plan) (es : List ℕ) (array i e : ℕ) → slice_get es i ≡ Some e → (place_of p e).array ≡ array → 0 < count_in p array es
one_counted p [] array i e h own = absurd (let q : None ≡ Some e = h in cc)
one_counted p (x ∷ more) array i e h own = by ((place_of p x).array == array) refl i h (λ j g. one_counted p more array j e g own)
  where
    by : (b : Bool) → ((place_of p x).array == array) ≡ b → (i : ℕ) → slice_get (x ∷ more) i ≡ Some e → ((j : ℕ) → slice_get more j ≡ Some e → 0 < count_in p array more) → 0 < length (cond b (x ∷ in_array p array more) (in_array p array more))
    by true is i g rest = omega arith
    by false is zero g rest = absurd (let same : x ≡ e = same_Some x e g in let q : true ≡ false = sym (eq-eqb (place_of p x).array array (ap (λ y. (place_of p y).array) same ∙ own)) ∙ is in cc)
    by false is (suc j) g rest = rest j g

-- a sharer is one of the nodes, and has an element of the array
pub sharer_has : (p : Plan) (place : List ℕ) (array n j : ℕ) → In j (nodes_with p place array n) → (j < n) × OfArray p (members place j) array
sharer_has p place array zero j h = absurd h
sharer_has p place array (suc n) j h = by (shares p place array n) refl h (sharer_has p place array n j)
  where
    later : (j < n) × OfArray p (members place j) array → (j < suc n) × OfArray p (members place j) array
    later r = let less = r.0 in (omega (arith, less), r.1)

    last : (xs : List ℕ) → In j (xs ++ n ∷ []) → In j xs ⊎ (j ≡ n)
    last [] (inl q) = inr q
    last [] (inr q) = absurd q
    last (x ∷ xs) (inl q) = inl (inl q)
    last (x ∷ xs) (inr q) = which (last xs q)
      where
        which : In j xs ⊎ (j ≡ n) → In j (x ∷ xs) ⊎ (j ≡ n)
        which (inl r) = inl (inr r)
        which (inr r) = inr r

    none : (xs : List ℕ) → In j (xs ++ []) → In j xs
    none [] q = q
    none (x ∷ xs) (inl q) = inl q
    none (x ∷ xs) (inr q) = inr (none xs q)

    by : (b : Bool) → shares p place array n ≡ b → In j (nodes_with p place array n ++ cond b (n ∷ []) []) → (In j (nodes_with p place array n) → (j < n) × OfArray p (members place j) array) → (j < suc n) × OfArray p (members place j) array
    by false is q rest = later (rest (none (nodes_with p place array n) q))
    by true is q rest = which (last (nodes_with p place array n) q)
      where
        which : In j (nodes_with p place array n) ⊎ (j ≡ n) → (j < suc n) × OfArray p (members place j) array
        which (inl r) = later (rest r)
        which (inr r) = (omega (arith, r), subst (λ m. OfArray p (members place m) array) (sym r) (counted_one p (members place n) array (ltb-true 0 (count_in p array (members place n)) is)))

-- and each node with an element of the array is one
pub has_sharer : (p : Plan) (place : List ℕ) (array n j i e : ℕ) → j < n → slice_get (members place j) i ≡ Some e → (place_of p e).array ≡ array → In j (nodes_with p place array n)
has_sharer p place array zero j i e h there own = absurd (omega (arith, h))
has_sharer p place array (suc n) j i e h there own = by (j == n) refl (has_sharer p place array n j i e)
  where
    by : (b : Bool) → (j == n) ≡ b → (j < n → slice_get (members place j) i ≡ Some e → (place_of p e).array ≡ array → In j (nodes_with p place array n)) →
        In j (nodes_with p place array n ++ cond (shares p place array n) (n ∷ []) [])
    by false is rest = in_left j (nodes_with p place array n) (cond (shares p place array n) (n ∷ []) []) (rest (grind (arith, nat_tests, is, h)) there own)
    by true is rest =
        let same = eqb-true j n is in
        let some : shares p place array n ≡ true = let c = subst (λ m. 0 < count_in p array (members place m)) same (one_counted p (members place j) array i e there own) in grind (arith, nat_tests, c) in
        subst (λ b. In j (nodes_with p place array n ++ cond b (n ∷ []) [])) (sym some) (in_right j (nodes_with p place array n) (n ∷ []) (inl same))

-- what is in a list has a number
pub in_number : (i : ℕ) (xs : List ℕ) (j : ℕ) → In j xs → (m : ℕ) × (number_in i xs j ≡ Some m)
in_number i [] j h = absurd h
in_number i (x ∷ xs) j h = by (x == j) refl h (in_number (suc i) xs j)
  where
    by : (b : Bool) → (x == j) ≡ b → In j (x ∷ xs) → (In j xs → (m : ℕ) × (number_in (suc i) xs j ≡ Some m)) → (m : ℕ) × (cond b (Some i) (number_in (suc i) xs j) ≡ Some m)
    by true is q rest = (i, refl)
    by false is (inl q) rest = absurd (let z : true ≡ false = sym (eq-eqb x j (sym q)) ∙ is in cc)
    by false is (inr q) rest = rest q

-- Ranks and counts of a node's elements, one element after another.
use Rattle.std.proofs.Common.{◌≡◌, ℕ, zero, suc, ◌+◌, ◌<◌, ◌≤◌, Bool, true, false, cond, List, [], ◌∷◌, ◌++◌, length, take, refl, ap, sym, ◌∙◌, arith, append_assoc, subst, Some, None}
use Rattle.std.specs.Prelude.{◌==◌, replicate, slice_get, slice_index_or, slice_set}
use Rattle.std.proofs.lemmas.Bool.{eqb-true, eq-eqb}
use Rattle.std.proofs.lemmas.List.{append-nil, length-append, length-set}
use Rattle.std.proofs.lemmas.Option.{same_Some}
use Rattle.chare_base.specs.declared.plan.Plan.{Plan}
use Rattle.chare_base.specs.Elements.{place_of}
use Rattle.chare_base.specs.Placing.{members_from}
use Rattle.letter_post.specs.Truth.{in_array}
use Rattle.node_core.specs.Rosters.{count_in, counts_to, ranks_after, with_ranked}
use Rattle.node_core.proofs.Seats.{at_last, before_last, counts_length, in_behind}

abbrev pub here : Bool → ℕ → List ℕ
here b e = cond b (e ∷ []) []

-- the first k elements, and one more
members_next : (e : ℕ) (place : List ℕ) (k node j : ℕ) → slice_get place k ≡ Some node → members_from e (take (suc k) place) j ≡ members_from e (take k place) j ++ here (node == j) (e + k)
members_next e [] k node j h = absurd (let q : None ≡ Some node = h in cc)
members_next e (x ∷ more) zero node j h = ap (λ y. cond (y == j) (e ∷ []) []) (same_Some x node h) ∙ ap (here (node == j)) (omega arith)
members_next e (x ∷ more) (suc k) node j h = by (x == j) (members_next (suc e) more k node j h ∙ ap (λ m. members_from (suc e) (take k more) j ++ here (node == j) m) (omega arith))
  where
    by : (b : Bool) → members_from (suc e) (take (suc k) more) j ≡ members_from (suc e) (take k more) j ++ here (node == j) (e + suc k) →
        cond b (e ∷ members_from (suc e) (take (suc k) more) j) (members_from (suc e) (take (suc k) more) j) ≡
        cond b (e ∷ members_from (suc e) (take k more) j) (members_from (suc e) (take k more) j) ++ here (node == j) (e + suc k)
    by true rest = ap (λ es. e ∷ es) rest
    by false rest = rest

-- ---- counts

pub one_more : (p : Plan) (es : List ℕ) (e a : ℕ) → count_in p a (es ++ e ∷ []) ≡ count_in p a es + length (in_array p a (e ∷ []))
one_more p es e a = ap length (in_behind p a es (e ∷ [])) ∙ length-append (in_array p a es) (in_array p a (e ∷ []))

pub own_more : (p : Plan) (es : List ℕ) (e a : ℕ) → (place_of p e).array ≡ a → count_in p a (es ++ e ∷ []) ≡ suc (count_in p a es)
own_more p es e a is =
    let one : length (in_array p a (e ∷ [])) ≡ 1 = ap (λ b. length (cond b (e ∷ []) [])) (eq-eqb (place_of p e).array a is) in
    one_more p es e a ∙ omega (arith, one)

pub other_same : (p : Plan) (es : List ℕ) (e a : ℕ) → ((place_of p e).array ≡ a → ⊥) → count_in p a (es ++ e ∷ []) ≡ count_in p a es
other_same p es e a other = by ((place_of p e).array == a) refl
  where
    by : (b : Bool) → ((place_of p e).array == a) ≡ b → count_in p a (es ++ e ∷ []) ≡ count_in p a es
    by true is = absurd (other (eqb-true (place_of p e).array a is))
    by false is = let none : length (in_array p a (e ∷ [])) ≡ 0 = ap (λ b. length (cond b (e ∷ []) [])) is in one_more p es e a ∙ omega (arith, none)

-- those of the arrays before it stay
counts_before : (p : Plan) (es : List ℕ) (e n : ℕ) → n ≤ (place_of p e).array → counts_to p (es ++ e ∷ []) n ≡ counts_to p es n
counts_before p es e zero h = refl
counts_before p es e (suc n) h =
    ap (λ l. l ++ count_in p n (es ++ e ∷ []) ∷ []) (counts_before p es e n (omega (arith, h)))
    ∙ ap (λ c. counts_to p es n ++ c ∷ []) (other_same p es e n (λ is. omega (arith, is, h)))

set_last : (xs : List ℕ) (x y a : ℕ) → a ≡ length xs → slice_set (xs ++ x ∷ []) a y ≡ xs ++ y ∷ []
set_last [] x y zero h = refl
set_last [] x y (suc a) h = absurd (omega (arith, h))
set_last (z ∷ xs) x y zero h = absurd (omega (arith, h))
set_last (z ∷ xs) x y (suc a) h = ap (λ l. z ∷ l) (set_last xs x y a (omega (arith, h)))

set_before : (xs : List ℕ) (x y a : ℕ) → a < length xs → slice_set (xs ++ x ∷ []) a y ≡ slice_set xs a y ++ x ∷ []
set_before [] x y a h = absurd (omega (arith, h))
set_before (z ∷ xs) x y zero h = refl
set_before (z ∷ xs) x y (suc a) h = ap (λ l. z ∷ l) (set_before xs x y a (omega (arith, h)))

counts_next : (p : Plan) (es : List ℕ) (e n a : ℕ) → (place_of p e).array ≡ a → a < n → counts_to p (es ++ e ∷ []) n ≡ slice_set (counts_to p es n) a (suc (count_in p a es))
counts_next p es e zero a is h = absurd (omega (arith, h))
counts_next p es e (suc n) a is h = by (a == n) refl (counts_next p es e n a is)
  where
    by : (b : Bool) → (a == n) ≡ b → (a < n → counts_to p (es ++ e ∷ []) n ≡ slice_set (counts_to p es n) a (suc (count_in p a es))) →
        counts_to p (es ++ e ∷ []) n ++ count_in p n (es ++ e ∷ []) ∷ [] ≡ slice_set (counts_to p es n ++ count_in p n es ∷ []) a (suc (count_in p a es))
    by true same rest =
        let q : a ≡ n = eqb-true a n same in
        ap (λ l. l ++ count_in p n (es ++ e ∷ []) ∷ []) (counts_before p es e n (omega (arith, q, is)))
        ∙ ap (λ m. counts_to p es n ++ count_in p m (es ++ e ∷ []) ∷ []) (sym q) ∙ ap (λ c. counts_to p es n ++ c ∷ []) (own_more p es e a is)
        ∙ sym (set_last (counts_to p es n) (count_in p n es) (suc (count_in p a es)) a (q ∙ sym (counts_length p es n)))
    by false same rest =
        let differs : a ≡ n → ⊥ = λ q. let z : true ≡ false = sym (eq-eqb a n q) ∙ same in cc in
        let below : a < n = less a n differs (omega (arith, h)) in
        ap (λ l. l ++ count_in p n (es ++ e ∷ []) ∷ []) (rest below)
        ∙ ap (λ c. slice_set (counts_to p es n) a (suc (count_in p a es)) ++ c ∷ []) (other_same p es e n (λ at. differs (sym is ∙ at)))
        ∙ sym (set_before (counts_to p es n) (count_in p n es) (suc (count_in p a es)) a (let l = counts_length p es n in omega (arith, below, l)))
      where
        less : (x y : ℕ) → (x ≡ y → ⊥) → x ≤ y → x < y
        less x y d l = omega (arith, d, l)

pub count_at : (p : Plan) (es : List ℕ) (n a : ℕ) → a < n → slice_index_or (counts_to p es n) a 0 ≡ count_in p a es
count_at p es zero a h = absurd (omega (arith, h))
count_at p es (suc n) a h = by (a == n) refl (count_at p es n a)
  where
    by : (b : Bool) → (a == n) ≡ b → (a < n → slice_index_or (counts_to p es n) a 0 ≡ count_in p a es) → slice_index_or (counts_to p es n ++ count_in p n es ∷ []) a 0 ≡ count_in p a es
    by true same rest =
        let q : a ≡ n = eqb-true a n same in
        at_last (counts_to p es n) (count_in p n es) 0 a (q ∙ sym (counts_length p es n)) ∙ ap (λ m. count_in p m es) (sym q)
    by false same rest =
        let differs : a ≡ n → ⊥ = λ q. let z : true ≡ false = sym (eq-eqb a n q) ∙ same in cc in
        before_last (counts_to p es n) (count_in p n es) 0 a (λ q. differs (q ∙ counts_length p es n)) ∙ rest (less a n differs (omega (arith, h)))
      where
        less : (x y : ℕ) → (x ≡ y → ⊥) → x ≤ y → x < y
        less x y d l = omega (arith, d, l)

pub no_counts : (p : Plan) (n : ℕ) → counts_to p [] n ≡ replicate n 0
no_counts p zero = refl
no_counts p (suc n) = ap (λ (l : List ℕ). l ++ 0 ∷ []) (no_counts p n) ∙ again n 0
  where
    again : (m x : ℕ) → replicate m x ++ x ∷ [] ≡ replicate (suc m) x
    again zero x = refl
    again (suc m) x = ap (λ l. x ∷ l) (again m x)

few_in : (p : Plan) (a : ℕ) (es : List ℕ) → count_in p a es ≤ length es
few_in p a [] = omega arith
few_in p a (e ∷ more) = by ((place_of p e).array == a) (few_in p a more)
  where
    by : (b : Bool) → count_in p a more ≤ length more → length (cond b (e ∷ in_array p a more) (in_array p a more)) ≤ suc (length more)
    by true rest = omega (arith, rest)
    by false rest = omega (arith, rest)

few_members : (e : ℕ) (xs : List ℕ) (j : ℕ) → length (members_from e xs j) ≤ length xs
few_members e [] j = omega arith
few_members e (x ∷ more) j = by (x == j) (few_members (suc e) more j)
  where
    by : (b : Bool) → length (members_from (suc e) more j) ≤ length more → length (cond b (e ∷ members_from (suc e) more j) (members_from (suc e) more j)) ≤ suc (length more)
    by true rest = omega (arith, rest)
    by false rest = omega (arith, rest)

-- ---- ranks

ranks_next : (p : Plan) (before es : List ℕ) (e : ℕ) → ranks_after p before (es ++ e ∷ []) ≡ ranks_after p before es ++ count_in p (place_of p e).array (before ++ es) ∷ []
ranks_next p before [] e = ap (λ l. count_in p (place_of p e).array l ∷ []) (sym (append-nil before))
ranks_next p before (x ∷ more) e =
    ap (λ l. count_in p (place_of p x).array before ∷ l) (ranks_next p (before ++ x ∷ []) more e)
    ∙ ap (λ l. count_in p (place_of p x).array before ∷ (ranks_after p (before ++ x ∷ []) more ++ count_in p (place_of p e).array l ∷ [])) (append_assoc before (x ∷ []) more)

-- ---- one element more

-- the ranks and counts of the first e elements
pub record Told (p : Plan) (place : List ℕ) (j e : ℕ) (ranks counts : List ℕ) : Type 0 where
  pub ranks_are : ranks ≡ ranks_after p [] (members_from 0 (take e place) j)
  pub counts_are : counts ≡ counts_to p (members_from 0 (take e place) j) (length p.arrays)

pub few_told : (p : Plan) (place : List ℕ) (j e : ℕ) (ranks counts : List ℕ) (a : ℕ) → Told p place j e ranks counts → e ≤ length place → a < length p.arrays → slice_index_or counts a 0 ≤ e
few_told p place j e ranks counts a told few h =
    let es = members_from 0 (take e place) j in
    let is : slice_index_or counts a 0 ≡ count_in p a es = ap (λ l. slice_index_or l a 0) told.counts_are ∙ count_at p es (length p.arrays) a h in
    let taken : length (take e place) ≤ e = took e place in
    omega (arith, is, few_in p a es, few_members 0 (take e place) j, taken)
  where
    took : (n : ℕ) (xs : List ℕ) → length (take n xs) ≤ n
    took zero xs = omega arith
    took (suc n) [] = omega arith
    took (suc n) (x ∷ xs) = let rest = took n xs in omega (arith, rest)

pub told_next : (p : Plan) (place : List ℕ) (j e next node : ℕ) (is_here : Bool) (ranks counts ranks' counts' : List ℕ) → next ≡ suc e → slice_get place e ≡ Some node → is_here ≡ (node == j) → (place_of p e).array < length p.arrays →
    Told p place j e ranks counts → (ranks' ≡ (with_ranked p e is_here ranks counts).0) × (counts' ≡ (with_ranked p e is_here ranks counts).1) → Told p place j next ranks' counts'
told_next p place j e next node is_here ranks counts ranks' counts' n is test within told h =
    subst (λ m. Told p place j m ranks' counts') (sym n) (by is_here refl h)
  where
    es : List ℕ
    es = members_from 0 (take e place) j

    more : (b : Bool) → is_here ≡ b → members_from 0 (take (suc e) place) j ≡ members_from 0 (take e place) j ++ here b e
    more b q = members_next 0 place e node j is ∙ ap (λ c. members_from 0 (take e place) j ++ here c (0 + e)) (sym test ∙ q) ∙ ap (λ m. members_from 0 (take e place) j ++ here b m) (omega arith)

    by : (b : Bool) → is_here ≡ b → (ranks' ≡ (with_ranked p e is_here ranks counts).0) × (counts' ≡ (with_ranked p e is_here ranks counts).1) → Told p place j (suc e) ranks' counts'
    by false q g =
        let same : members_from 0 (take (suc e) place) j ≡ members_from 0 (take e place) j = more false q ∙ append-nil (members_from 0 (take e place) j) in
        record {
          ranks_are = g.0 ∙ ap (λ c. (with_ranked p e c ranks counts).0) q ∙ told.ranks_are ∙ ap (ranks_after p []) (sym same);
          counts_are = g.1 ∙ ap (λ c. (with_ranked p e c ranks counts).1) q ∙ told.counts_are ∙ ap (λ l. counts_to p l (length p.arrays)) (sym same);
        }
    by true q g =
        let old = members_from 0 (take e place) j in
        let a = (place_of p e).array in
        let rank : slice_index_or counts a 0 ≡ count_in p a old = ap (λ l. slice_index_or l a 0) told.counts_are ∙ count_at p old (length p.arrays) a within in
        record {
          ranks_are =
              g.0 ∙ ap (λ c. (with_ranked p e c ranks counts).0) q ∙ ap (λ l. l ++ slice_index_or counts a 0 ∷ []) told.ranks_are ∙ ap (λ c. ranks_after p [] old ++ c ∷ []) rank
              ∙ sym (ranks_next p [] old e) ∙ ap (ranks_after p []) (sym (more true q));
          counts_are =
              g.1 ∙ ap (λ c. (with_ranked p e c ranks counts).1) q ∙ ap (λ c. slice_set counts a (suc c)) rank ∙ ap (λ l. slice_set l a (suc (count_in p a old))) told.counts_are
              ∙ sym (counts_next p old e (length p.arrays) a refl within) ∙ ap (λ l. counts_to p l (length p.arrays)) (sym (more true q));
        }

pub ranked_length : (p : Plan) (e : ℕ) (b : Bool) (ranks counts : List ℕ) → length (with_ranked p e b ranks counts).1 ≡ length counts
ranked_length p e false ranks counts = refl
ranked_length p e true ranks counts = length-set counts (place_of p e).array (suc (slice_index_or counts (place_of p e).array 0))

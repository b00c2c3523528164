-- What a roster says of the placement.
use Rattle.std.proofs.Common.{◌≡◌, ℕ, zero, suc, ◌+◌, ◌<◌, ◌≤◌, Bool, true, false, cond, List, [], ◌∷◌, ◌++◌, length, drop, refl, ap, sym, ◌∙◌, arith, append_assoc, subst, Option, Some, None}
use Rattle.std.specs.Prelude.{◌&&◌, ◌==◌, nat_lt, slice_get, slice_index_or}
use Rattle.std.specs.List.{AllByRecursion}
use Rattle.std.proofs.lemmas.Bool.{eqb-true, eq-eqb}
use Rattle.std.proofs.lemmas.List.{length-append}
use Rattle.std.proofs.lemmas.Option.{same_Some}
use Rattle.chare_base.specs.declared.plan.Plan.{Plan}
use Rattle.chare_base.specs.Elements.{place_of}
use Rattle.chare_base.specs.Placing.{Covers, members, members_from}
use Rattle.letter_post.specs.Truth.{in_array}
use Rattle.node_core.specs.Rosters.{FewNodes, count_in, counts_to, node_count, nodes_with, number_in, ranks_after, roster_of, seat_of, seats_from, sharers_to, shares}

-- ---- seats

-- the seat of an element names its place among the node's elements
seated_from : (i e : ℕ) (place : List ℕ) (j x n : ℕ) → slice_index_or (seats_from i place j) x None ≡ Some n → (at : ℕ) × (n ≡ i + at) × (slice_get (members_from e place j) at ≡ Some (e + x))
seated_from i e [] j x n h = absurd (let q : None ≡ Some n = h in cc)
seated_from i e (node ∷ more) j x n h = by (node == j) x h (λ y g. seated_from (suc i) (suc e) more j y n g) (λ y g. seated_from i (suc e) more j y n g)
  where
    by : (b : Bool) (x : ℕ) → slice_index_or (cond b (Some i ∷ seats_from (suc i) more j) (None ∷ seats_from i more j)) x None ≡ Some n →
        ((y : ℕ) → slice_index_or (seats_from (suc i) more j) y None ≡ Some n → (at : ℕ) × (n ≡ suc i + at) × (slice_get (members_from (suc e) more j) at ≡ Some (suc e + y))) →
        ((y : ℕ) → slice_index_or (seats_from i more j) y None ≡ Some n → (at : ℕ) × (n ≡ i + at) × (slice_get (members_from (suc e) more j) at ≡ Some (suc e + y))) →
        (at : ℕ) × (n ≡ i + at) × (slice_get (cond b (e ∷ members_from (suc e) more j) (members_from (suc e) more j)) at ≡ Some (e + x))
    by true zero h here there = let is : i ≡ n = same_Some i n h in (0, omega (arith, is), ap Some (omega arith))
    by true (suc y) h here there = let r = here y h in (suc r.0, omega (arith, r.1), r.2 ∙ ap Some (omega arith))
    by false zero h here there = absurd (let q : None ≡ Some n = h in cc)
    by false (suc y) h here there = let r = there y h in (r.0, r.1, r.2 ∙ ap Some (omega arith))

pub seated : (p : Plan) (place : List ℕ) (j e i : ℕ) → seat_of (roster_of p place j) e ≡ Some i → slice_get (members place j) i ≡ Some e
unfolding roster_of
seated p place j e i h =
    let r = seated_from 0 0 place j e i h in
    subst (λ n. slice_get (members place j) n ≡ Some e) (omega (arith, r.1)) (r.2 ∙ ap Some (omega arith))

-- ---- ranks

pub in_behind : (p : Plan) (array : ℕ) (xs ys : List ℕ) → in_array p array (xs ++ ys) ≡ in_array p array xs ++ in_array p array ys
in_behind p array [] ys = refl
in_behind p array (x ∷ xs) ys = by ((place_of p x).array == array) (in_behind p array xs ys)
  where
    by : (b : Bool) → in_array p array (xs ++ ys) ≡ in_array p array xs ++ in_array p array ys →
        cond b (x ∷ in_array p array (xs ++ ys)) (in_array p array (xs ++ ys)) ≡ cond b (x ∷ in_array p array xs) (in_array p array xs) ++ in_array p array ys
    by true rest = ap (λ zs. x ∷ zs) rest
    by false rest = rest

got_behind : (xs ys : List ℕ) (x : ℕ) → slice_get (xs ++ x ∷ ys) (length xs) ≡ Some x
got_behind [] ys x = refl
got_behind (z ∷ xs) ys x = got_behind xs ys x

-- where an element stands among those of its array
ranked_from : (p : Plan) (before es : List ℕ) (i e : ℕ) → slice_get es i ≡ Some e →
    slice_get (in_array p (place_of p e).array (before ++ es)) (slice_index_or (ranks_after p before es) i 0) ≡ Some e
ranked_from p before [] i e h = absurd (let q : None ≡ Some e = h in cc)
ranked_from p before (x ∷ more) zero e h =
    let same : x ≡ e = same_Some x e h in
    subst (λ y. slice_get (in_array p (place_of p y).array (before ++ x ∷ more)) (count_in p (place_of p x).array before) ≡ Some y) same here
  where
    first : in_array p (place_of p x).array (x ∷ more) ≡ x ∷ in_array p (place_of p x).array more
    first = ap (λ b. cond b (x ∷ in_array p (place_of p x).array more) (in_array p (place_of p x).array more)) (eq-eqb (place_of p x).array (place_of p x).array refl)

    here : slice_get (in_array p (place_of p x).array (before ++ x ∷ more)) (count_in p (place_of p x).array before) ≡ Some x
    here =
        ap (λ l. slice_get l (count_in p (place_of p x).array before)) (in_behind p (place_of p x).array before (x ∷ more) ∙ ap (λ l. in_array p (place_of p x).array before ++ l) first)
        ∙ got_behind (in_array p (place_of p x).array before) (in_array p (place_of p x).array more) x
ranked_from p before (x ∷ more) (suc i) e h =
    ap (λ l. slice_get (in_array p (place_of p e).array l) (slice_index_or (ranks_after p (before ++ x ∷ []) more) i 0)) (sym (append_assoc before (x ∷ []) more))
    ∙ ranked_from p (before ++ x ∷ []) more i e h

pub ranked : (p : Plan) (place : List ℕ) (j i e array : ℕ) → slice_get (members place j) i ≡ Some e → (place_of p e).array ≡ array →
    slice_get (in_array p array (members place j)) (slice_index_or (roster_of p place j).ranks i 0) ≡ Some e
unfolding roster_of
ranked p place j i e array h is = subst (λ a. slice_get (in_array p a (members place j)) (slice_index_or (ranks_after p [] (members place j)) i 0) ≡ Some e) is (ranked_from p [] (members place j) i e h)

-- ---- counts

pub at_last : {A : Type 0} (xs : List A) (x d : A) (a : ℕ) → a ≡ length xs → slice_index_or (xs ++ x ∷ []) a d ≡ x
at_last [] x d zero h = refl
at_last [] x d (suc a) h = absurd (omega (arith, h))
at_last (y ∷ xs) x d zero h = absurd (omega (arith, h))
at_last (y ∷ xs) x d (suc a) h = at_last xs x d a (omega (arith, h))

pub before_last : {A : Type 0} (xs : List A) (x d : A) (a : ℕ) → (a ≡ length xs → ⊥) → slice_index_or (xs ++ x ∷ []) a d ≡ slice_index_or xs a d
before_last [] x d zero h = absurd (h refl)
before_last [] x d (suc a) h = refl
before_last (y ∷ xs) x d zero h = refl
before_last (y ∷ xs) x d (suc a) h = before_last xs x d a (λ e. h (omega (arith, e)))

pub end_at : {A : Type 0} (xs : List A) (x d : A) (a : ℕ) → slice_index_or (xs ++ x ∷ []) a d ≡ cond (a == length xs) x (slice_index_or xs a d)
end_at xs x d a = by (a == length xs) refl
  where
    by : (b : Bool) → (a == length xs) ≡ b → slice_index_or (xs ++ x ∷ []) a d ≡ cond b x (slice_index_or xs a d)
    by true is = at_last xs x d a (eqb-true a (length xs) is)
    by false is = before_last xs x d a (λ e. let q : true ≡ false = sym (eq-eqb a (length xs) e) ∙ is in cc)

pub counts_length : (p : Plan) (es : List ℕ) (n : ℕ) → length (counts_to p es n) ≡ n
counts_length p es zero = refl
counts_length p es (suc n) = let rest = counts_length p es n in length-append (counts_to p es n) (count_in p n es ∷ []) ∙ omega (arith, rest)

count_there : (p : Plan) (es : List ℕ) (n a : ℕ) → 0 < slice_index_or (counts_to p es n) a 0 → slice_index_or (counts_to p es n) a 0 ≡ count_in p a es
count_there p es zero a h = absurd (omega (arith, h))
count_there p es (suc n) a h = by (a == length (counts_to p es n)) refl (count_there p es n a)
  where
    whole : slice_index_or (counts_to p es n ++ count_in p n es ∷ []) a 0 ≡ cond (a == length (counts_to p es n)) (count_in p n es) (slice_index_or (counts_to p es n) a 0)
    whole = end_at (counts_to p es n) (count_in p n es) 0 a

    by : (b : Bool) → (a == length (counts_to p es n)) ≡ b → (0 < slice_index_or (counts_to p es n) a 0 → slice_index_or (counts_to p es n) a 0 ≡ count_in p a es) →
        slice_index_or (counts_to p es n ++ count_in p n es ∷ []) a 0 ≡ count_in p a es
    by true is rest =
        let same : a ≡ n = eqb-true a (length (counts_to p es n)) is ∙ counts_length p es n in
        whole ∙ ap (λ b. cond b (count_in p n es) (slice_index_or (counts_to p es n) a 0)) is ∙ ap (λ m. count_in p m es) (sym same)
    by false is rest =
        let e : slice_index_or (counts_to p es n ++ count_in p n es ∷ []) a 0 ≡ slice_index_or (counts_to p es n) a 0 = whole ∙ ap (λ b. cond b (count_in p n es) (slice_index_or (counts_to p es n) a 0)) is in
        e ∙ rest (subst (λ m. 0 < m) e h)

pub count_is : (p : Plan) (place : List ℕ) (j a : ℕ) → 0 < slice_index_or (roster_of p place j).counts a 0 → slice_index_or (roster_of p place j).counts a 0 ≡ count_in p a (members place j)
unfolding roster_of
count_is p place j a h = count_there p (members place j) (length p.arrays) a h

-- ---- sharers

sharers_length : (p : Plan) (place : List ℕ) (nodes m : ℕ) → length (sharers_to p place nodes m) ≡ m
sharers_length p place nodes zero = refl
sharers_length p place nodes (suc m) = let rest = sharers_length p place nodes m in length-append (sharers_to p place nodes m) (nodes_with p place m nodes ∷ []) ∙ omega (arith, rest)

-- a list of sharers is none, or that of the placement
sharers_there : (p : Plan) (place : List ℕ) (nodes n a j rank : ℕ) → number_in 0 (slice_index_or (sharers_to p place nodes n) a []) j ≡ Some rank →
    slice_index_or (sharers_to p place nodes n) a [] ≡ nodes_with p place a nodes
sharers_there p place nodes zero a j rank h = absurd (let q : None ≡ Some rank = h in cc)
sharers_there p place nodes (suc n) a j rank h = by (a == length (sharers_to p place nodes n)) refl (sharers_there p place nodes n a j rank)
  where
    whole : slice_index_or (sharers_to p place nodes n ++ nodes_with p place n nodes ∷ []) a [] ≡
        cond (a == length (sharers_to p place nodes n)) (nodes_with p place n nodes) (slice_index_or (sharers_to p place nodes n) a [])
    whole = end_at (sharers_to p place nodes n) (nodes_with p place n nodes) [] a

    by : (b : Bool) → (a == length (sharers_to p place nodes n)) ≡ b →
        (number_in 0 (slice_index_or (sharers_to p place nodes n) a []) j ≡ Some rank → slice_index_or (sharers_to p place nodes n) a [] ≡ nodes_with p place a nodes) →
        slice_index_or (sharers_to p place nodes n ++ nodes_with p place n nodes ∷ []) a [] ≡ nodes_with p place a nodes
    by true is rest =
        let same : a ≡ n = eqb-true a (length (sharers_to p place nodes n)) is ∙ sharers_length p place nodes n in
        whole ∙ ap (λ b. cond b (nodes_with p place n nodes) (slice_index_or (sharers_to p place nodes n) a [])) is ∙ ap (λ m. nodes_with p place m nodes) (sym same)
    by false is rest =
        let e : slice_index_or (sharers_to p place nodes n ++ nodes_with p place n nodes ∷ []) a [] ≡ slice_index_or (sharers_to p place nodes n) a [] =
        whole ∙ ap (λ b. cond b (nodes_with p place n nodes) (slice_index_or (sharers_to p place nodes n) a [])) is in
        e ∙ rest (subst (λ l. number_in 0 l j ≡ Some rank) e h)

pub sharers_are : (p : Plan) (place : List ℕ) (own a j rank : ℕ) → number_in 0 (slice_index_or (roster_of p place own).sharers a []) j ≡ Some rank →
    (slice_index_or (roster_of p place own).sharers a [] ≡ nodes_with p place a (node_count place)) × (own ≡ 0)
unfolding roster_of
sharers_are p place own a j rank h = by (own == 0) refl h
  where
    by : (b : Bool) → (own == 0) ≡ b → number_in 0 (slice_index_or (cond b (sharers_to p place (node_count place) (length p.arrays)) []) a []) j ≡ Some rank →
        (slice_index_or (cond b (sharers_to p place (node_count place) (length p.arrays)) []) a [] ≡ nodes_with p place a (node_count place)) × (own ≡ 0)
    by true is g = (sharers_there p place (node_count place) (length p.arrays) a j rank g, eqb-true own 0 is)
    by false is g = absurd (let q : None ≡ Some rank = g in cc)

-- a node that has a number in a list stands there
numbered_from : (i : ℕ) (nodes : List ℕ) (j rank : ℕ) → number_in i nodes j ≡ Some rank → (at : ℕ) × (rank ≡ i + at) × (slice_get nodes at ≡ Some j)
numbered_from i [] j rank h = absurd (let q : None ≡ Some rank = h in cc)
numbered_from i (node ∷ more) j rank h = by (node == j) refl h (λ g. numbered_from (suc i) more j rank g)
  where
    by : (b : Bool) → (node == j) ≡ b → cond b (Some i) (number_in (suc i) more j) ≡ Some rank → (number_in (suc i) more j ≡ Some rank → (at : ℕ) × (rank ≡ suc i + at) × (slice_get more at ≡ Some j)) →
        (at : ℕ) × (rank ≡ i + at) × (slice_get (node ∷ more) at ≡ Some j)
    by true is g rest = let here : i ≡ rank = same_Some i rank g in (0, omega (arith, here), ap Some (eqb-true node j is))
    by false is g rest = let r = rest g in (suc r.0, omega (arith, r.1), r.2)

pub numbered : (nodes : List ℕ) (j rank : ℕ) → number_in 0 nodes j ≡ Some rank → slice_get nodes rank ≡ Some j
numbered nodes j rank h = let r = numbered_from 0 nodes j rank h in subst (λ n. slice_get nodes n ≡ Some j) (omega (arith, r.1)) r.2

-- ---- nodes

-- each element's node is below the number of nodes
pub within_count : (place : List ℕ) → AllByRecursion (λ j. j < node_count place) place
within_count place = all_below place (node_count place) (omega arith)
  where
    all_below : (xs : List ℕ) (n : ℕ) → node_count xs ≤ n → AllByRecursion (λ j. j < n) xs
    all_below [] n h = tt
    all_below (j ∷ more) n h = (omega (arith, h), all_below more n (omega (arith, h)))

-- the number of nodes of a placement that leaves none bare
pub count_covered : (place : List ℕ) (nodes : ℕ) → Covers place nodes → node_count place ≡ nodes
count_covered place nodes covers = antisym (below place nodes covers.within) (above nodes covers)
  where
    below : (xs : List ℕ) (n : ℕ) → AllByRecursion (λ j. j < n) xs → node_count xs ≤ n
    below [] n h = omega arith
    below (j ∷ more) n h = let rest = below more n h.1 in let here = h.0 in omega (arith, rest, here)

    there : (xs : List ℕ) (e j : ℕ) → slice_get xs e ≡ Some j → suc j ≤ node_count xs
    there [] e j h = absurd (let q : None ≡ Some j = h in cc)
    there (x ∷ more) zero j h = let same : x ≡ j = same_Some x j h in omega (arith, same)
    there (x ∷ more) (suc e) j h = let rest = there more e j h in omega (arith, rest)

    above : (n : ℕ) → Covers place n → n ≤ node_count place
    above zero c = omega arith
    above (suc n) c = let last = c.inhabited n (omega arith) in there place last.element n last.lives

    antisym : {a b : ℕ} → a ≤ b → b ≤ a → a ≡ b
    antisym x y = omega (arith, x, y)

-- ---- few nodes

pub few_at : (all : List (List ℕ)) (i : ℕ) (nodes : List ℕ) → FewNodes all → nodes ≡ slice_index_or all i nodes → i < length all → length nodes ≤ 65535
few_at [] i nodes few is h = absurd (omega (arith, h))
few_at (x ∷ more) zero nodes few is h = subst (λ (l : List ℕ). length l ≤ 65535) (sym is) few.0
few_at (x ∷ more) (suc i) nodes few is h = few_at more i nodes few.1 is (omega (arith, h))

pub few_more : (all : List (List ℕ)) (nodes : List ℕ) → FewNodes all → length nodes ≤ 65535 → FewNodes (all ++ nodes ∷ [])
few_more [] nodes few h = (h, tt)
few_more (x ∷ more) nodes few h = (few.0, few_more more nodes few.1 h)

pub few_with : (p : Plan) (place : List ℕ) (array n : ℕ) → length (nodes_with p place array n) ≤ n
few_with p place array zero = omega arith
few_with p place array (suc n) = by (shares p place array n) (few_with p place array n)
  where
    by : (b : Bool) → length (nodes_with p place array n) ≤ n → length (nodes_with p place array n ++ cond b (n ∷ []) []) ≤ suc n
    by true rest = let l = length-append (nodes_with p place array n) (n ∷ []) in omega (arith, l, rest)
    by false rest = let l = length-append {A = ℕ} (nodes_with p place array n) [] in omega (arith, l, rest)

-- ---- sharing

pub from_here : (xs : List ℕ) (i x : ℕ) → slice_get xs i ≡ Some x → drop i xs ≡ x ∷ drop (suc i) xs
from_here [] i x h = absurd (let q : None ≡ Some x = h in cc)
from_here (y ∷ ys) zero x h = ap (λ z. z ∷ ys) (same_Some y x h)
from_here (y ∷ ys) (suc i) x h = from_here ys i x h

-- whether elements from one on share
abbrev pub shares_from : Plan → List ℕ → ℕ → ℕ → ℕ → Bool
shares_from p place array j e = nat_lt 0 (count_in p array (members_from e (drop e place) j))

some_lt : (n : ℕ) → nat_lt 0 (suc n) ≡ true
some_lt n = grind arith

pub share_here : (p : Plan) (place : List ℕ) (array j e node : ℕ) → slice_get place e ≡ Some node → (node == j) ≡ true → (place_of p e).array ≡ array → shares_from p place array j e ≡ true
share_here p place array j e node is here at =
    ap (λ l. nat_lt 0 (count_in p array (members_from e l j))) (from_here place e node is)
    ∙ ap (λ b. nat_lt 0 (count_in p array (cond b (e ∷ members_from (suc e) (drop (suc e) place) j) (members_from (suc e) (drop (suc e) place) j)))) here
    ∙ ap (λ b. nat_lt 0 (length (cond b (e ∷ in_array p array (members_from (suc e) (drop (suc e) place) j)) (in_array p array (members_from (suc e) (drop (suc e) place) j))))) (eq-eqb (place_of p e).array array at)
    ∙ some_lt (length (in_array p array (members_from (suc e) (drop (suc e) place) j)))

pub share_later : (p : Plan) (place : List ℕ) (array j e next node : ℕ) → next ≡ suc e → slice_get place e ≡ Some node → ((node == j) && ((place_of p e).array == array)) ≡ false →
    shares_from p place array j e ≡ shares_from p place array j next
share_later p place array j e next node n is other =
    ap (λ l. nat_lt 0 (count_in p array (members_from e l j))) (from_here place e node is) ∙ by (node == j) ((place_of p e).array == array) refl other ∙ ap (shares_from p place array j) (sym n)
  where
    by : (b c : Bool) → ((place_of p e).array == array) ≡ c → (b && c) ≡ false →
        nat_lt 0 (count_in p array (cond b (e ∷ members_from (suc e) (drop (suc e) place) j) (members_from (suc e) (drop (suc e) place) j))) ≡ shares_from p place array j (suc e)
    by false c q h = refl
    by true false q h = ap (λ d. nat_lt 0 (length (cond d (e ∷ in_array p array (members_from (suc e) (drop (suc e) place) j)) (in_array p array (members_from (suc e) (drop (suc e) place) j))))) q
    by true true q h = absurd (let z : true ≡ false = h in cc)

-- ---- seats

pub seat_next : (i e next : ℕ) (place : List ℕ) (j node : ℕ) (here : Bool) → next ≡ suc e → slice_get place e ≡ Some node → here ≡ (node == j) →
    seats_from i (drop e place) j ≡ (cond here (Some i) None) ∷ seats_from (cond here (i + 1) i) (drop next place) j
seat_next i e next place j node here n is test =
    ap (λ l. seats_from i l j) (from_here place e node is) ∙ by (node == j)
    ∙ ap (λ b. (cond b (Some i) None) ∷ seats_from (cond b (i + 1) i) (drop (suc e) place) j) (sym test)
    ∙ ap (λ m. (cond here (Some i) None) ∷ seats_from (cond here (i + 1) i) (drop m place) j) (sym n)
  where
    by : (b : Bool) → cond b (Some i ∷ seats_from (suc i) (drop (suc e) place) j) (None ∷ seats_from i (drop (suc e) place) j) ≡
        (cond b (Some i) None) ∷ seats_from (cond b (i + 1) i) (drop (suc e) place) j
    by true = let one : suc i ≡ i + 1 = omega arith in ap (λ m. Some i ∷ seats_from m (drop (suc e) place) j) one
    by false = refl

pub seat_told : (place : List ℕ) (j e next node i after : ℕ) (is_here : Bool) (seats seats' : List (Option ℕ)) (x : Option ℕ) → next ≡ suc e → slice_get place e ≡ Some node → is_here ≡ (node == j) →
    x ≡ cond is_here (Some i) None → after ≡ cond is_here (i + 1) i → seats' ≡ seats ++ x ∷ [] → seats ++ seats_from i (drop e place) j ≡ seats_from 0 place j →
    seats' ++ seats_from after (drop next place) j ≡ seats_from 0 place j
seat_told place j e next node i after is_here seats seats' x n is test x_is after_is made told =
    ap (λ l. l ++ seats_from after (drop next place) j) made ∙ append_assoc seats (x ∷ []) (seats_from after (drop next place) j)
    ∙ ap (λ y. seats ++ (y ∷ seats_from after (drop next place) j)) x_is ∙ ap (λ m. seats ++ ((cond is_here (Some i) None) ∷ seats_from m (drop next place) j)) after_is
    ∙ ap (λ l. seats ++ l) (sym (seat_next i e next place j node is_here n is test)) ∙ told

pub seat_few : (i e after : ℕ) (is_here : Bool) → after ≡ cond is_here (i + 1) i → i ≤ e → after ≤ e + 1
seat_few i e after true is h = omega (arith, is, h)
seat_few i e after false is h = omega (arith, is, h)

-- where an element stands its seat says
seats_back : (i e : ℕ) (place : List ℕ) (j m x : ℕ) → slice_get (members_from e place j) m ≡ Some x → (at : ℕ) × (x ≡ e + at) × (slice_index_or (seats_from i place j) at None ≡ Some (i + m))
seats_back i e [] j m x h = absurd (let q : None ≡ Some x = h in cc)
seats_back i e (node ∷ more) j m x h = by (node == j) m h (λ k g. seats_back (suc i) (suc e) more j k x g) (λ k g. seats_back i (suc e) more j k x g)
  where
    by : (b : Bool) (m : ℕ) → slice_get (cond b (e ∷ members_from (suc e) more j) (members_from (suc e) more j)) m ≡ Some x →
        ((k : ℕ) → slice_get (members_from (suc e) more j) k ≡ Some x → (at : ℕ) × (x ≡ suc e + at) × (slice_index_or (seats_from (suc i) more j) at None ≡ Some (suc i + k))) →
        ((k : ℕ) → slice_get (members_from (suc e) more j) k ≡ Some x → (at : ℕ) × (x ≡ suc e + at) × (slice_index_or (seats_from i more j) at None ≡ Some (i + k))) →
        (at : ℕ) × (x ≡ e + at) × (slice_index_or (cond b (Some i ∷ seats_from (suc i) more j) (None ∷ seats_from i more j)) at None ≡ Some (i + m))
    by true zero g here there = let is : e ≡ x = same_Some e x g in (0, omega (arith, is), ap Some (omega arith))
    by true (suc k) g here there = let r = here k g in (suc r.0, omega (arith, r.1), r.2 ∙ ap Some (omega arith))
    by false k g here there = let r = there k g in (suc r.0, omega (arith, r.1), r.2)

pub seat_back : (p : Plan) (place : List ℕ) (j m e : ℕ) → slice_get (members place j) m ≡ Some e → seat_of (roster_of p place j) e ≡ Some m
unfolding roster_of
seat_back p place j m e h =
    let r = seats_back 0 0 place j m e h in
    let at : e ≡ r.0 = let q : e ≡ 0 + r.0 = r.1 in omega (arith, q) in
    ap (λ n. slice_index_or (seats_from 0 place j) n None) at ∙ r.2 ∙ ap Some (omega arith)

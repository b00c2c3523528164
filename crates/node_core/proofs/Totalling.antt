-- The shares of all nodes make the total of all elements.
use Rattle.std.proofs.Common.{◌≡◌, ℕ, zero, suc, ◌+◌, ◌-◌, ◌*◌, ◌<◌, ◌≤◌, ℤ, Bool, true, false, cond, List, [], ◌∷◌, ◌++◌, length, map, refl, ap, sym, ◌∙◌, arith, append_assoc, subst, Option, Some, None}
use Rattle.std.specs.Prelude.{◌==◌, nat_lt, slice_get}
use Rattle.std.specs.List.{AllByRecursion}
use Rattle.std.specs.Option.{option_map_or}
use Rattle.std.proofs.lemmas.Bool.{eqb-true, eq-eqb}
use Rattle.std.proofs.lemmas.List.{append-nil}
use Rattle.chare_base.specs.declared.plan.Array.{Array}
use Rattle.chare_base.specs.declared.plan.Place.{Place}
use Rattle.chare_base.specs.declared.plan.Plan.{Plan}
use Rattle.chare_base.specs.declared.plan.Reduction.{Reduction}
use Rattle.chare_base.specs.Elements.{elements, place_of}
use Rattle.chare_base.specs.Entries.{first_of, reduction_of}
use Rattle.chare_base.specs.Flip.{Flip}
use Rattle.chare_base.specs.Placing.{members_from}
use Rattle.chare_base.specs.Placing as placing
use Rattle.chare_base.specs.Sizes.{size_of}
use Rattle.chare_base.specs.Total.{joined_to}
use Rattle.chare_base.proofs.Exchanges as arrays_there
use Rattle.chare_base.proofs.Neighbours.{element_is, place_is, place_within, size_at}
use Rattle.chare_eval.specs.Laws.{contribution_of, contributions_from, first_member, some_number}
use Rattle.chare_eval.specs.Stage as stages
use Rattle.letter_post.specs.Truth.{IsTotal, contributions_of, in_array}
use Rattle.object_steps.specs.Partial.{total_of, values}
use Rattle.object_steps.specs.Totals.{Made, NodesMakeWhole, made_at, node_total, node_totals}
use Rattle.node_core.specs.Keeps.{share_of}
use Rattle.node_core.specs.Rosters.{node_count, nodes_with, shares}
use Rattle.node_core.proofs.Gathering.{collected}
use Rattle.node_core.proofs.Seats.{in_behind, within_count}

-- ---- numbers of members

collected_behind : (own : ℕ → Option ℤ) (xs ys : List ℕ) → collected own (xs ++ ys) ≡ collected own xs ++ collected own ys
collected_behind own [] ys = refl
collected_behind own (x ∷ xs) ys = ap (λ vs. some_number (own x) ++ vs) (collected_behind own xs ys) ∙ sym (append_assoc (some_number (own x)) (collected own xs) (collected own ys))

pub contributions_are : (p : Plan) (lines : List Flip) (k r : ℕ) (es : List ℕ) → contributions_of p lines k r es ≡ collected (contribution_of p lines k r) es
contributions_are p lines k r [] = refl
contributions_are p lines k r (e ∷ more) = ap (λ vs. some_number (contribution_of p lines k r e) ++ vs) (contributions_are p lines k r more)

-- n elements, from e on
abbrev upto : ℕ → ℕ → List ℕ
upto e zero = []
upto e (suc n) = e ∷ upto (suc e) n

upto_both : (e m n : ℕ) → upto e (m + n) ≡ upto e m ++ upto (e + m) n
upto_both e zero n = let same : zero + n ≡ n = omega arith in let there : e ≡ e + zero = omega arith in ap (upto e) same ∙ ap (λ i. upto i n) there
upto_both e (suc m) n =
    let same : suc m + n ≡ suc (m + n) = omega arith in
    let there : suc e + m ≡ e + suc m = omega arith in
    ap (upto e) same ∙ ap (λ l. e ∷ l) (upto_both (suc e) m n) ∙ ap (λ i. e ∷ (upto (suc e) m ++ upto i n)) there

from_are : (p : Plan) (lines : List Flip) (k r e n : ℕ) → contributions_from p lines k r e n ≡ collected (contribution_of p lines k r) (upto e n)
from_are p lines k r e zero = refl
from_are p lines k r e (suc n) = ap (λ vs. some_number (contribution_of p lines k r e) ++ vs) (from_are p lines k r (suc e) n)

-- ---- the elements of an array

module _ (p : Plan) (array : ℕ) where
  none_in : (e n : ℕ) → ((f : ℕ) → e ≤ f → f < e + n → (place_of p f).array ≡ array → ⊥) → in_array p array (upto e n) ≡ []
  none_in e zero h = refl
  none_in e (suc n) h = by ((place_of p e).array == array) refl (none_in (suc e) n (λ f low high. h f (omega (arith, low)) (omega (arith, high))))
    where
      by : (b : Bool) → ((place_of p e).array == array) ≡ b → in_array p array (upto (suc e) n) ≡ [] → cond b (e ∷ in_array p array (upto (suc e) n)) (in_array p array (upto (suc e) n)) ≡ []
      by true is rest = absurd (h e (omega arith) (omega arith) (eqb-true (place_of p e).array array is))
      by false is rest = rest

  all_in : (e n : ℕ) → ((f : ℕ) → e ≤ f → f < e + n → (place_of p f).array ≡ array) → in_array p array (upto e n) ≡ upto e n
  all_in e zero h = refl
  all_in e (suc n) h =
      ap (λ b. cond b (e ∷ in_array p array (upto (suc e) n)) (in_array p array (upto (suc e) n))) (eq-eqb (place_of p e).array array (h e (omega arith) (omega arith)))
      ∙ ap (λ l. e ∷ l) (all_in (suc e) n (λ f low high. h f (omega (arith, low)) (omega (arith, high))))

size_there : (o : Option Array) → option_map_or size_of o 0 ≡ option_map_or (λ (a : Array). a.rows) o 0 * option_map_or (λ (a : Array). a.cols) o 0
size_there (Some a) = refl
size_there None = refl

module _ (p : Plan) (r : ℕ) (x : Reduction) (is : reduction_of p r ≡ Some x) where
  abbrev first : ℕ
  first = first_of p.arrays x.owner

  abbrev count : ℕ
  count = size_at p.arrays x.owner

  fits : first + count ≤ elements p
  fits = (arrays_there.members p r x is).fits

  member_at : (f : ℕ) → first ≤ f → f < first + count → (place_of p f).array ≡ x.owner
  member_at f low high =
      let same : first + (f - first) ≡ f = omega arith in
      subst (λ n. (place_of p n).array ≡ x.owner) same (ap (λ (place : Place). place.array) (place_is p x.owner (f - first) (omega arith)))

  record Numbered (f : ℕ) : Type 0 where
    low : first ≤ f
    high : f < first + count

  numbered : (f : ℕ) → f < elements p → (place_of p f).array ≡ x.owner → Numbered f
  numbered f h at =
      let index = (place_of p f).index in
      let whole : first + index ≡ f = ap (λ n. first_of p.arrays n + index) (sym at) ∙ element_is p f h in
      let within : index < count = subst (λ n. index < size_at p.arrays n) at (place_within p f h) in
      record { low = omega (arith, whole); high = omega (arith, whole, within) }

  -- the elements of the array are those from its first on
  owned : in_array p x.owner (upto 0 (elements p)) ≡ upto first count
  owned =
      let rest : ℕ = elements p - (first + count) in
      let whole : first + (count + rest) ≡ elements p = omega (arith, fits) in
      let start : 0 + first ≡ first = omega arith in
      let none : in_array p x.owner (upto 0 first) ≡ [] =
      none_in p x.owner 0 first (λ f low high at. let n = numbered f (omega (arith, high, fits)) at in omega (arith, n.low, high)) in
      let beyond : in_array p x.owner (upto (first + count) rest) ≡ [] =
      none_in p x.owner (first + count) rest (λ f low high at. let n = numbered f (omega (arith, high, whole)) at in omega (arith, n.high, low)) in
      let own : in_array p x.owner (upto first count) ≡ upto first count = all_in p x.owner first count member_at in
      ap (λ n. in_array p x.owner (upto 0 n)) (sym whole) ∙ ap (in_array p x.owner) (upto_both 0 first (count + rest) ∙ ap (λ i. upto 0 first ++ upto i (count + rest)) start)
      ∙ in_behind p x.owner (upto 0 first) (upto first (count + rest)) ∙ ap (λ l. l ++ in_array p x.owner (upto first (count + rest))) none
      ∙ ap (in_array p x.owner) (upto_both first count rest) ∙ in_behind p x.owner (upto first count) (upto (first + count) rest)
      ∙ ap (λ l. in_array p x.owner (upto first count) ++ l) beyond ∙ append-nil (in_array p x.owner (upto first count)) ∙ own

  members_are : stages.members p r ≡ count
  members_are = ap (stages.members_in p.arrays) is ∙ size_there (slice_get p.arrays x.owner)

  first_is : first_member p r ≡ first
  first_is = ap (λ o. option_map_or (λ (y : Reduction). first_of p.arrays y.owner) o 0) is

-- ---- contributions by node

module _ (p : Plan) (own : ℕ → Option ℤ) (array : ℕ) where
  abbrev made_of : ℕ → Option ℤ → List Made
  made_of node None = []
  made_of node (Some v) = record { node = node; value = v } ∷ []

  -- what the elements of the array contribute, and where
  abbrev made_from : ℕ → List ℕ → List Made
  made_from e [] = []
  made_from e (node ∷ more) = cond ((place_of p e).array == array) (made_of node (own e) ++ made_from (suc e) more) (made_from (suc e) more)

  all_values : (e : ℕ) (place : List ℕ) → map (λ (m : Made). m.value) (made_from e place) ≡ collected own (in_array p array (upto e (length place)))
  all_values e [] = refl
  all_values e (node ∷ more) = by ((place_of p e).array == array) (own e) refl (all_values (suc e) more)
    where
      by : (b : Bool) (o : Option ℤ) → own e ≡ o → map (λ (m : Made). m.value) (made_from (suc e) more) ≡ collected own (in_array p array (upto (suc e) (length more))) →
          map (λ (m : Made). m.value) (cond b (made_of node (own e) ++ made_from (suc e) more) (made_from (suc e) more)) ≡
          collected own (cond b (e ∷ in_array p array (upto (suc e) (length more))) (in_array p array (upto (suc e) (length more))))
      by false o is rest = rest
      by true None is rest =
          ap (λ q. map (λ (m : Made). m.value) (made_of node q ++ made_from (suc e) more)) is ∙ rest
          ∙ ap (λ q. some_number q ++ collected own (in_array p array (upto (suc e) (length more)))) (sym is)
      by true (Some v) is rest =
          ap (λ q. map (λ (m : Made). m.value) (made_of node q ++ made_from (suc e) more)) is ∙ ap (λ vs. v ∷ vs) rest
          ∙ ap (λ q. some_number q ++ collected own (in_array p array (upto (suc e) (length more)))) (sym is)

  node_values : (e : ℕ) (place : List ℕ) (j : ℕ) → made_at j (made_from e place) ≡ collected own (in_array p array (members_from e place j))
  node_values e [] j = refl
  node_values e (node ∷ more) j = by ((place_of p e).array == array) refl (node == j) refl (own e) refl (node_values (suc e) more j)
    where
      by : (b : Bool) → ((place_of p e).array == array) ≡ b → (c : Bool) → (node == j) ≡ c → (o : Option ℤ) → own e ≡ o →
          made_at j (made_from (suc e) more) ≡ collected own (in_array p array (members_from (suc e) more j)) →
          made_at j (cond b (made_of node (own e) ++ made_from (suc e) more) (made_from (suc e) more)) ≡
          collected own (in_array p array (cond c (e ∷ members_from (suc e) more j) (members_from (suc e) more j)))
      by false inb false inc o is rest = rest
      by false inb true inc o is rest = rest ∙ ap (λ b. collected own (cond b (e ∷ in_array p array (members_from (suc e) more j)) (in_array p array (members_from (suc e) more j)))) (sym inb)
      by true inb c inc None is rest = ap (λ q. made_at j (made_of node q ++ made_from (suc e) more)) is ∙ rest ∙ sym (skipped c)
        where
          skipped : (c : Bool) → collected own (in_array p array (cond c (e ∷ members_from (suc e) more j) (members_from (suc e) more j))) ≡ collected own (in_array p array (members_from (suc e) more j))
          skipped false = refl
          skipped true =
              ap (λ b. collected own (cond b (e ∷ in_array p array (members_from (suc e) more j)) (in_array p array (members_from (suc e) more j)))) inb
              ∙ ap (λ q. some_number q ++ collected own (in_array p array (members_from (suc e) more j))) is
      by true inb false inc (Some v) is rest =
          ap (λ q. made_at j (made_of node q ++ made_from (suc e) more)) is ∙ ap (λ c. cond c (v ∷ made_at j (made_from (suc e) more)) (made_at j (made_from (suc e) more))) inc ∙ rest
      by true inb true inc (Some v) is rest =
          ap (λ q. made_at j (made_of node q ++ made_from (suc e) more)) is ∙ ap (λ c. cond c (v ∷ made_at j (made_from (suc e) more)) (made_at j (made_from (suc e) more))) inc
          ∙ ap (λ vs. v ∷ vs) rest ∙ ap (λ q. some_number q ++ collected own (in_array p array (members_from (suc e) more j))) (sym is)
          ∙ ap (λ b. collected own (cond b (e ∷ in_array p array (members_from (suc e) more j)) (in_array p array (members_from (suc e) more j)))) (sym inb)

  made_within : (e : ℕ) (place : List ℕ) (n : ℕ) → AllByRecursion (λ j. j < n) place → AllByRecursion (λ (m : Made). m.node < n) (made_from e place)
  made_within e [] n h = tt
  made_within e (node ∷ more) n h = by ((place_of p e).array == array) (own e) (made_within (suc e) more n h.1)
    where
      by : (b : Bool) (o : Option ℤ) → AllByRecursion (λ (m : Made). m.node < n) (made_from (suc e) more) →
          AllByRecursion (λ (m : Made). m.node < n) (cond b (made_of node o ++ made_from (suc e) more) (made_from (suc e) more))
      by false o rest = rest
      by true None rest = rest
      by true (Some v) rest = (h.0, rest)

-- ---- the total

values_behind : (xs : List (Option ℤ)) (o : Option ℤ) → values (xs ++ o ∷ []) ≡ values xs ++ some_number o
values_behind [] None = refl
values_behind [] (Some v) = refl
values_behind (None ∷ xs) o = values_behind xs o
values_behind (Some v ∷ xs) o = ap (λ vs. v ∷ vs) (values_behind xs o)

module _ (law : NodesMakeWhole) (p : Plan) (place : List ℕ) (lines : List Flip) (k r : ℕ) (x : Reduction) (is : reduction_of p r ≡ Some x) (there : length place ≡ elements p) where
  abbrev own : ℕ → Option ℤ
  own = contribution_of p lines k r

  abbrev share : ℕ → Option ℤ
  share = share_of p place lines x r k

  abbrev all : List Made
  all = made_from p own x.owner 0 place

  share_is : (j : ℕ) → node_total x.how all j ≡ share j
  share_is j =
      ap (λ vs. joined_to x.how None vs)
      (node_values p own x.owner 0 place j ∙ sym (contributions_are p lines k r (in_array p x.owner (placing.members place j))))

  -- a node without elements of the array has no share
  none_shared : (j : ℕ) → shares p place x.owner j ≡ false → share j ≡ None
  none_shared j h = ap (λ es. joined_to x.how None (contributions_of p lines k r es)) (none (in_array p x.owner (placing.members place j)) h)
    where
      none : (es : List ℕ) → nat_lt 0 (length es) ≡ false → es ≡ []
      none [] g = refl
      none (e ∷ more) g = absurd (let q : nat_lt 0 (suc (length more)) ≡ true = grind arith in let z : true ≡ false = sym q ∙ g in cc)

  shares_are : (n : ℕ) → values (node_totals x.how all n) ≡ collected share (nodes_with p place x.owner n)
  shares_are zero = refl
  shares_are (suc n) =
      values_behind (node_totals x.how all n) (node_total x.how all n) ∙ ap (λ vs. vs ++ some_number (node_total x.how all n)) (shares_are n)
      ∙ ap (λ o. collected share (nodes_with p place x.owner n) ++ some_number o) (share_is n) ∙ ap (λ vs. collected share (nodes_with p place x.owner n) ++ vs) (by (shares p place x.owner n) refl)
      ∙ sym (collected_behind share (nodes_with p place x.owner n) (cond (shares p place x.owner n) (n ∷ []) []))
    where
      by : (b : Bool) → shares p place x.owner n ≡ b → some_number (share n) ≡ collected share (cond b (n ∷ []) [])
      by true here = sym (append-nil (some_number (share n)))
      by false here = ap some_number (none_shared n here)

  pub total_is : (value : ℤ) → joined_to x.how None (collected share (nodes_with p place x.owner (node_count place))) ≡ Some value → IsTotal p lines r k value
  total_is value h =
      let n = node_count place in
      let whole : total_of x.how (node_totals x.how all n) ≡ joined_to x.how None (map (λ (m : Made). m.value) all) = law x.how all n (made_within p own x.owner 0 place n (within_count place)) in
      let mine : map (λ (m : Made). m.value) all ≡ contributions_from p lines k r (first_member p r) (stages.members p r) =
      all_values p own x.owner 0 place ∙ ap (λ m. collected own (in_array p x.owner (upto 0 m))) there ∙ ap (collected own) (owned p r x is)
      ∙ sym (from_are p lines k r (first p r x is) (count p r x is)) ∙ ap (λ m. contributions_from p lines k r m (count p r x is)) (sym (first_is p r x is))
      ∙ ap (contributions_from p lines k r (first_member p r)) (sym (members_are p r x is)) in
      record {
        reduction = x;
        there = is;
        total = ap (λ vs. joined_to x.how None vs) (sym mine) ∙ sym whole ∙ ap (λ vs. joined_to x.how None vs) (shares_are n) ∙ h;
      }

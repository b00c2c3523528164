-- Messages in two parts, of which all in the one come before all in the other: what a call on one part makes of both together.
use Rattle.std.proofs.Common.{subst, ◌≡◌, ℕ, zero, suc, ◌<◌, Bool, true, false, cond, List, [], ◌∷◌, ◌++◌, length, take, drop, Option, Some, None, Bor, refl, ap, sym, ◌∙◌, arith, nat_le, Ordering, Less, Equal, Greater}
use Rattle.std.proofs.lemmas.List.{append-nil}
use Rattle.std.specs.Prelude.{MatchOption, is_some, option_map, slice_index_or}
use Rattle.std.specs.BTreeMap.{insert_entry}
use Rattle.std.specs.Cmp.{IsTotalOrder}
use Rattle.std.specs.List.{AllByRecursion, insert, remove}
use Rattle.std.specs.List.Sorted.{IsStrictlySortedBy}
use Rattle.std.specs.Map.{keys_of, lookup, remove_entry}
use Rattle.std.specs.Option.{option_copied, option_or}
use Rattle.std.specs.Ordering.{is_eq, match_ordering, ordering_reverse}
use Rattle.chare_base.specs.declared.message.Payload.{Payload}
use Rattle.ref_messages.specs.declared.key.RefKey.{RefKey}
use Rattle.ref_messages.specs.Places.{above, is_less, place_of, precedes}
use Rattle.ref_messages.specs.Queue.{key_order, not_before, same_key}

abbrev pub Entries : Type 0
Entries = List (RefKey × Payload)

abbrev pub Sorted : Entries → Type 0
Sorted es = IsStrictlySortedBy key_order (keys_of es)

-- ---- what is found

both : (f : RefKey → Bool) (xs ys : Entries) → lookup f (xs ++ ys) ≡ option_or (lookup f xs) (lookup f ys)
both f [] ys = refl
both f (e ∷ xs) ys = by (f e.0) (both f xs ys)
  where
    by : (b : Bool) → lookup f (xs ++ ys) ≡ option_or (lookup f xs) (lookup f ys) → cond b (Some e.1) (lookup f (xs ++ ys)) ≡ option_or (cond b (Some e.1) (lookup f xs)) (lookup f ys)
    by true rest = refl
    by false rest = rest

next_place : (o : Option ℕ) → option_map suc o ≡ None → o ≡ None
next_place None h = refl
next_place (Some i) h = absurd (let q : Some (suc i) ≡ None = h in cc)

zero_place : (o : Option ℕ) → option_map suc o ≡ Some 0 → ⊥
zero_place None h = let q : ◌≡◌ {A = Option ℕ} None (Some 0) = h in cc
zero_place (Some i) h = let q : ◌≡◌ {A = Option ℕ} (Some (suc i)) (Some 0) = h in let z : suc i ≡ 0 = cc in omega (arith, z)

before_place : (o : Option ℕ) (i : ℕ) → option_map suc o ≡ Some (suc i) → o ≡ Some i
before_place None i h = absurd (let q : None ≡ Some (suc i) = h in cc)
before_place (Some j) i h = let q : suc j ≡ suc i = cc in ap Some (omega (arith, q))

none_there : (key : RefKey) (xs : Entries) → place_of key xs ≡ None → lookup (same_key key) xs ≡ None
none_there key [] h = refl
none_there key (e ∷ xs) h = by (same_key key e.0) h (λ q. none_there key xs q)
  where
    by : (b : Bool) → cond b (Some 0) (option_map suc (place_of key xs)) ≡ None → (place_of key xs ≡ None → lookup (same_key key) xs ≡ None) → cond b (Some e.1) (lookup (same_key key) xs) ≡ None
    by true h rest = absurd (let q : Some 0 ≡ None = h in cc)
    by false h rest = rest (next_place (place_of key xs) h)

some_there : (key : RefKey) (xs : Entries) (i : ℕ) (d : RefKey × Payload) → place_of key xs ≡ Some i → lookup (same_key key) xs ≡ Some (slice_index_or xs i d).1
some_there key [] i d h = absurd (let q : None ≡ Some i = h in cc)
some_there key (e ∷ xs) zero d h = by (same_key key e.0) h
  where
    by : (b : Bool) → cond b (Some 0) (option_map suc (place_of key xs)) ≡ Some 0 → cond b (Some e.1) (lookup (same_key key) xs) ≡ Some e.1
    by true h = refl
    by false h = absurd (zero_place (place_of key xs) h)
some_there key (e ∷ xs) (suc i) d h = by (same_key key e.0) h (λ q. some_there key xs i d q)
  where
    by : (b : Bool) → cond b (Some 0) (option_map suc (place_of key xs)) ≡ Some (suc i) → (place_of key xs ≡ Some i → lookup (same_key key) xs ≡ Some (slice_index_or xs i d).1) →
        cond b (Some e.1) (lookup (same_key key) xs) ≡ Some (slice_index_or xs i d).1
    by true h rest = absurd (let q : Some 0 ≡ Some (suc i) = h in let z : 0 ≡ suc i = cc in omega (arith, z))
    by false h rest = rest (before_place (place_of key xs) i h)

pub found_first : (key : RefKey) (xs ys : Entries) (i : ℕ) (x : RefKey × Payload) → Some i ≡ place_of key xs → x ≡ slice_index_or xs i x → Some x.1 ≡ lookup (same_key key) (xs ++ ys)
found_first key xs ys i x at is =
    ap (λ (y : RefKey × Payload). Some y.1) is ∙ sym (both (same_key key) xs ys ∙ ap (λ o. option_or o (lookup (same_key key) ys)) (some_there key xs i x (sym at)))

pub found_rest : (key : RefKey) (xs ys : Entries) (r : Option Payload) → None ≡ place_of key xs → r ≡ lookup (same_key key) ys → r ≡ lookup (same_key key) (xs ++ ys)
found_rest key xs ys r none is = is ∙ sym (both (same_key key) xs ys ∙ ap (λ o. option_or o (lookup (same_key key) ys)) (none_there key xs (sym none)))

some_next : (o : Option ℕ) → is_some (option_map suc o) ≡ is_some o
some_next None = refl
some_next (Some i) = refl

some_place : (key : RefKey) (xs : Entries) → is_some (place_of key xs) ≡ is_some (lookup (same_key key) xs)
some_place key [] = refl
some_place key (e ∷ xs) = by (same_key key e.0) (some_next (place_of key xs) ∙ some_place key xs)
  where
    by : (b : Bool) → is_some (option_map suc (place_of key xs)) ≡ is_some (lookup (same_key key) xs) →
        is_some (cond b (Some 0) (option_map suc (place_of key xs))) ≡ is_some (cond b (Some e.1) (lookup (same_key key) xs))
    by true rest = refl
    by false rest = rest

some_or : (a b : Option Payload) → is_some a ≡ true → is_some (option_or a b) ≡ true
some_or None b h = absurd cc
some_or (Some x) b h = refl

none_or : (a b : Option Payload) → is_some a ≡ false → is_some (option_or a b) ≡ is_some b
none_or None b h = refl
none_or (Some x) b h = absurd cc

pub has_first : (key : RefKey) (xs ys : Entries) (r : Bool) → r ≡ is_some (place_of key xs) → r ≡ true → r ≡ is_some (lookup (same_key key) (xs ++ ys))
has_first key xs ys r is there =
    there ∙ sym (ap is_some (both (same_key key) xs ys) ∙ some_or (lookup (same_key key) xs) (lookup (same_key key) ys) (sym (some_place key xs) ∙ sym is ∙ there))

pub has_rest : (key : RefKey) (xs ys : Entries) (r : Bool) → is_some (place_of key xs) ≡ false → r ≡ is_some (lookup (same_key key) ys) → r ≡ is_some (lookup (same_key key) (xs ++ ys))
has_rest key xs ys r none is =
    is ∙ sym (ap is_some (both (same_key key) xs ys) ∙ none_or (lookup (same_key key) xs) (lookup (same_key key) ys) (sym (some_place key xs) ∙ none))

-- the same of a message that is lent
pub held_first : (key : RefKey) (xs ys : Entries) (i : ℕ) (x : RefKey × Payload) → Some i ≡ place_of key xs → x ≡ slice_index_or xs i x → lookup (same_key key) (xs ++ ys) ≡ Some x.1
held_first key xs ys i x at is = sym (found_first key xs ys i x at is)

pub held_rest : (key : RefKey) (xs ys : Entries) (r : Option (Bor Payload)) → None ≡ place_of key xs → option_copied r ≡ lookup (same_key key) ys →
    MatchOption r (lookup (same_key key) (xs ++ ys) ≡ None) (λ payload. lookup (same_key key) (xs ++ ys) ≡ Some payload.now)
held_rest key xs ys None none is = sym (found_rest key xs ys None none is)
held_rest key xs ys (Some payload) none is = sym (found_rest key xs ys (Some payload.now) none is)

-- ---- a message more

-- a key that isn't there is above or below each that is
apart : (key : RefKey) (e : RefKey × Payload) (es : Entries) → lookup (same_key key) (e ∷ es) ≡ None → key_order key e.0 ≡ Equal → ⊥
apart key e es none same = let h : cond (is_eq (key_order key e.0)) (Some e.1) (lookup (same_key key) es) ≡ None = none in
    let q : Some e.1 ≡ None = sym (ap (λ o. cond (is_eq o) (Some e.1) (lookup (same_key key) es)) same) ∙ h in cc

absent_behind : (key : RefKey) (e : RefKey × Payload) (es : Entries) → lookup (same_key key) (e ∷ es) ≡ None → lookup (same_key key) es ≡ None
absent_behind key e es none = by (same_key key e.0) none
  where
    by : (b : Bool) → cond b (Some e.1) (lookup (same_key key) es) ≡ None → lookup (same_key key) es ≡ None
    by true h = absurd (let q : Some e.1 ≡ None = h in cc)
    by false h = h

module _ (key : RefKey) (payload : Payload) (ys : Entries) where
  abbrev with_it : Entries → Entries
  with_it es = insert_entry key_order es key payload

  pub into_first : (xs : Entries) (i : ℕ) → Some i ≡ above key xs → lookup (same_key key) (xs ++ ys) ≡ None → insert xs i (key, payload) ++ ys ≡ with_it (xs ++ ys)
  into_first [] i at none = absurd (let q : Some i ≡ None = at in cc)
  into_first (e ∷ xs) zero at none = by (key_order key e.0) refl (sym at)
    where
      by : (o : Ordering) → key_order key e.0 ≡ o → cond (is_less o) (Some 0) (option_map suc (above key xs)) ≡ Some 0 →
          (key, payload) ∷ e ∷ (xs ++ ys) ≡ match_ordering o ((key, payload) ∷ e ∷ (xs ++ ys)) ((e.0, payload) ∷ (xs ++ ys)) (e ∷ with_it (xs ++ ys))
      by Less is h = refl
      by Equal is h = absurd (apart key e (xs ++ ys) none is)
      by Greater is h = absurd (zero_place (above key xs) h)
  into_first (e ∷ xs) (suc i) at none = by (key_order key e.0) refl (sym at) (λ q. into_first xs i (sym q) (absent_behind key e (xs ++ ys) none))
    where
      by : (o : Ordering) → key_order key e.0 ≡ o → cond (is_less o) (Some 0) (option_map suc (above key xs)) ≡ Some (suc i) → (above key xs ≡ Some i → insert xs i (key, payload) ++ ys ≡ with_it (xs ++ ys)) →
          e ∷ (insert xs i (key, payload) ++ ys) ≡ match_ordering o ((key, payload) ∷ e ∷ (xs ++ ys)) ((e.0, payload) ∷ (xs ++ ys)) (e ∷ with_it (xs ++ ys))
      by Less is h rest = absurd (let q : Some 0 ≡ Some (suc i) = h in let z : 0 ≡ suc i = cc in omega (arith, z))
      by Equal is h rest = absurd (apart key e (xs ++ ys) none is)
      by Greater is h rest = ap (λ (es : Entries). e ∷ es) (rest (before_place (above key xs) i h))

  pub into_rest : (xs : Entries) → None ≡ above key xs → lookup (same_key key) (xs ++ ys) ≡ None → xs ++ with_it ys ≡ with_it (xs ++ ys)
  into_rest [] at none = refl
  into_rest (e ∷ xs) at none = by (key_order key e.0) refl (sym at) (λ q. into_rest xs (sym q) (absent_behind key e (xs ++ ys) none))
    where
      by : (o : Ordering) → key_order key e.0 ≡ o → cond (is_less o) (Some 0) (option_map suc (above key xs)) ≡ None → (above key xs ≡ None → xs ++ with_it ys ≡ with_it (xs ++ ys)) →
          e ∷ (xs ++ with_it ys) ≡ match_ordering o ((key, payload) ∷ e ∷ (xs ++ ys)) ((e.0, payload) ∷ (xs ++ ys)) (e ∷ with_it (xs ++ ys))
      by Less is h rest = absurd (let q : Some 0 ≡ None = h in cc)
      by Equal is h rest = absurd (apart key e (xs ++ ys) none is)
      by Greater is h rest = ap (λ (es : Entries). e ∷ es) (rest (next_place (above key xs) h))

-- ---- a message less

module _ (key : RefKey) (ys : Entries) where
  abbrev less : Entries → Entries
  less es = remove_entry (same_key key) es

  pub out_of_first : (xs : Entries) (i : ℕ) → Some i ≡ place_of key xs → remove xs i ++ ys ≡ less (xs ++ ys)
  out_of_first [] i at = absurd (let q : Some i ≡ None = at in cc)
  out_of_first (e ∷ xs) zero at = by (same_key key e.0) (sym at)
    where
      by : (b : Bool) → cond b (Some 0) (option_map suc (place_of key xs)) ≡ Some 0 → xs ++ ys ≡ cond b (xs ++ ys) (e ∷ less (xs ++ ys))
      by true h = refl
      by false h = absurd (zero_place (place_of key xs) h)
  out_of_first (e ∷ xs) (suc i) at = by (same_key key e.0) (sym at) (λ q. out_of_first xs i (sym q))
    where
      by : (b : Bool) → cond b (Some 0) (option_map suc (place_of key xs)) ≡ Some (suc i) → (place_of key xs ≡ Some i → remove xs i ++ ys ≡ less (xs ++ ys)) →
          e ∷ (remove xs i ++ ys) ≡ cond b (xs ++ ys) (e ∷ less (xs ++ ys))
      by true h rest = absurd (let q : Some 0 ≡ Some (suc i) = h in let z : 0 ≡ suc i = cc in omega (arith, z))
      by false h rest = ap (λ (es : Entries). e ∷ es) (rest (before_place (place_of key xs) i h))

  pub out_of_rest : (xs : Entries) → None ≡ place_of key xs → xs ++ less ys ≡ less (xs ++ ys)
  out_of_rest [] at = refl
  out_of_rest (e ∷ xs) at = by (same_key key e.0) (sym at) (λ q. out_of_rest xs (sym q))
    where
      by : (b : Bool) → cond b (Some 0) (option_map suc (place_of key xs)) ≡ None → (place_of key xs ≡ None → xs ++ less ys ≡ less (xs ++ ys)) → e ∷ (xs ++ less ys) ≡ cond b (xs ++ ys) (e ∷ less (xs ++ ys))
      by true h rest = absurd (let q : Some 0 ≡ None = h in cc)
      by false h rest = ap (λ (es : Entries). e ∷ es) (rest (next_place (place_of key xs) h))

-- ---- those from an iteration on

pub before_both : (k : ℕ) (xs ys : Entries) → not_before k xs ++ not_before k ys ≡ not_before k (xs ++ ys)
before_both k [] ys = refl
before_both k (e ∷ xs) ys = by (nat_le k e.0.iteration) (before_both k xs ys)
  where
    by : (b : Bool) → not_before k xs ++ not_before k ys ≡ not_before k (xs ++ ys) → cond b (e ∷ not_before k xs) (not_before k xs) ++ not_before k ys ≡ cond b (e ∷ not_before k (xs ++ ys)) (not_before k (xs ++ ys))
    by true rest = ap (λ (es : Entries). e ∷ es) rest
    by false rest = rest

-- ---- that the keys ascend

abbrev Below : RefKey → Entries → Type 0
Below k es = AllByRecursion (λ y. key_order k y ≡ Less) (keys_of es)

below_more : (k : RefKey) (es : Entries) (key : RefKey) (payload : Payload) → Below k es → key_order k key ≡ Less → Below k (insert_entry key_order es key payload)
below_more k [] key payload all new = (new, tt)
below_more k (e ∷ es) key payload all new = by (key_order key e.0) (below_more k es key payload all.1 new)
  where
    by : (o : Ordering) → Below k (insert_entry key_order es key payload) → Below k (match_ordering o ((key, payload) ∷ e ∷ es) ((e.0, payload) ∷ es) (e ∷ insert_entry key_order es key payload))
    by Less rest = (new, all)
    by Equal rest = all
    by Greater rest = (all.0, rest)

below_all : IsTotalOrder key_order → (a b : RefKey) (es : Entries) → key_order a b ≡ Less → Below b es → Below a es
below_all order a b [] h all = tt
below_all order a b (e ∷ es) h all = (order.trans a b e.0 h all.0, below_all order a b es h all.1)

pub sorted_more : IsTotalOrder key_order → (es : Entries) (key : RefKey) (payload : Payload) → Sorted es → lookup (same_key key) es ≡ None → Sorted (insert_entry key_order es key payload)
unfolding IsStrictlySortedBy
sorted_more order [] key payload sorted none = (tt, tt)
sorted_more order (e ∷ es) key payload sorted none = by (key_order key e.0) refl (sorted_more order es key payload sorted.1 (absent_behind key e es none))
  where
    by : (o : Ordering) → key_order key e.0 ≡ o → Sorted (insert_entry key_order es key payload) → Sorted (match_ordering o ((key, payload) ∷ e ∷ es) ((e.0, payload) ∷ es) (e ∷ insert_entry key_order es key payload))
    by Less is rest = ((is, below_all order key e.0 es is sorted.0), sorted)
    by Equal is rest = absurd (apart key e es none is)
    by Greater is rest = (below_more e.0 es key payload sorted.0 (order.antisymm e.0 key ∙ ap ordering_reverse is), rest)

below_less : (k : RefKey) (f : RefKey → Bool) (es : Entries) → Below k es → Below k (remove_entry f es)
below_less k f [] all = tt
below_less k f (e ∷ es) all = by (f e.0) (below_less k f es all.1)
  where
    by : (b : Bool) → Below k (remove_entry f es) → Below k (cond b es (e ∷ remove_entry f es))
    by true rest = all.1
    by false rest = (all.0, rest)

pub sorted_less : (f : RefKey → Bool) (es : Entries) → Sorted es → Sorted (remove_entry f es)
unfolding IsStrictlySortedBy
sorted_less f [] sorted = tt
sorted_less f (e ∷ es) sorted = by (f e.0) (sorted_less f es sorted.1)
  where
    by : (b : Bool) → Sorted (remove_entry f es) → Sorted (cond b es (e ∷ remove_entry f es))
    by true rest = sorted.1
    by false rest = (below_less e.0 f es sorted.0, rest)

below_from : (k : RefKey) (n : ℕ) (es : Entries) → Below k es → Below k (not_before n es)
below_from k n [] all = tt
below_from k n (e ∷ es) all = by (nat_le n e.0.iteration) (below_from k n es all.1)
  where
    by : (b : Bool) → Below k (not_before n es) → Below k (cond b (e ∷ not_before n es) (not_before n es))
    by true rest = (all.0, rest)
    by false rest = rest

pub sorted_from : (n : ℕ) (es : Entries) → Sorted es → Sorted (not_before n es)
unfolding IsStrictlySortedBy
sorted_from n [] sorted = tt
sorted_from n (e ∷ es) sorted = by (nat_le n e.0.iteration) (sorted_from n es sorted.1)
  where
    by : (b : Bool) → Sorted (not_before n es) → Sorted (cond b (e ∷ not_before n es) (not_before n es))
    by true rest = (below_from e.0 n es sorted.0, rest)
    by false rest = rest

-- those behind others
pub sorted_behind : (xs ys : Entries) → Sorted (xs ++ ys) → Sorted ys
unfolding IsStrictlySortedBy
sorted_behind [] ys sorted = sorted
sorted_behind (e ∷ xs) ys sorted = sorted_behind xs ys sorted.1

-- those before others
below_ahead : (k : RefKey) (xs ys : Entries) → Below k (xs ++ ys) → Below k xs
below_ahead k [] ys all = tt
below_ahead k (e ∷ xs) ys all = (all.0, below_ahead k xs ys all.1)

pub sorted_ahead : (xs ys : Entries) → Sorted (xs ++ ys) → Sorted xs
unfolding IsStrictlySortedBy
sorted_ahead [] ys sorted = tt
sorted_ahead (e ∷ xs) ys sorted = (below_ahead e.0 xs ys sorted.0, sorted_ahead xs ys sorted.1)

-- ---- as the calls make them

pub none_left : (es : Entries) → length es ≡ 0 → es ≡ []
none_left [] h = refl
none_left (e ∷ es) h = absurd (omega (arith, h))

module _ (key : RefKey) (payload : Payload) (xs ys : Entries) where
  abbrev Absent : Type 0
  Absent = lookup (same_key key) (xs ++ ys) ≡ None

  abbrev both_with : Entries
  both_with = insert_entry key_order (xs ++ ys) key payload

  pub more_first : (new : Entries) (i : ℕ) → Some i ≡ above key xs → Absent → new ≡ insert xs i (key, payload) → new ++ ys ≡ both_with
  more_first new i at none is = ap (λ (es : Entries). es ++ ys) is ∙ into_first key payload ys xs i at none

  pub more_last : (new : Entries) → None ≡ above key xs → Absent → ys ≡ [] → new ≡ xs ++ (key, payload) ∷ [] → new ++ ys ≡ both_with
  more_last new at none empty is =
      ap (λ (es : Entries). new ++ es) empty ∙ append-nil new ∙ is ∙ ap (λ (es : Entries). xs ++ insert_entry key_order es key payload) (sym empty) ∙ into_rest key payload ys xs at none

  pub more_rest : (new : Entries) → None ≡ above key xs → Absent → new ≡ insert_entry key_order ys key payload → xs ++ new ≡ both_with
  more_rest new at none is = ap (λ (es : Entries). xs ++ es) is ∙ into_rest key payload ys xs at none

  pub still_sorted : IsTotalOrder key_order → (new : Entries) → new ≡ both_with → Sorted (xs ++ ys) → Absent → Sorted new
  still_sorted order new is sorted none = subst Sorted (sym is) (sorted_more order (xs ++ ys) key payload sorted none)

module _ (key : RefKey) (xs ys : Entries) where
  pub less_first : (new : Entries) (i : ℕ) → Some i ≡ place_of key xs → new ≡ remove xs i → new ++ ys ≡ remove_entry (same_key key) (xs ++ ys)
  less_first new i at is = ap (λ (es : Entries). es ++ ys) is ∙ out_of_first key ys xs i at

  pub less_rest : (new : Entries) → None ≡ place_of key xs → new ≡ remove_entry (same_key key) ys → xs ++ new ≡ remove_entry (same_key key) (xs ++ ys)
  less_rest new at is = ap (λ (es : Entries). xs ++ es) is ∙ out_of_rest key ys xs at

  pub less_sorted : (new : Entries) → new ≡ remove_entry (same_key key) (xs ++ ys) → Sorted (xs ++ ys) → Sorted new
  less_sorted new is sorted = subst Sorted (sym is) (sorted_less (same_key key) (xs ++ ys) sorted)

pub kept_both : (k : ℕ) (xs ys new more : Entries) → new ≡ not_before k xs → more ≡ not_before k ys → new ++ more ≡ not_before k (xs ++ ys)
kept_both k xs ys new more first rest = ap (λ (es : Entries). es ++ more) first ∙ ap (λ (es : Entries). not_before k xs ++ es) rest ∙ before_both k xs ys

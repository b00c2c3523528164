-- Facts about the messages held: that none is of an iteration before a number, and which are.
use Rattle.std.proofs.Common.{◌≡◌, ℕ, ◌<◌, ◌≤◌, Bool, true, false, cond, List, [], ◌∷◌, refl, ap, ◌∙◌, arith, nat_lt, nat_le, ◌==◌, Ordering, Less, Equal, Greater}
use Rattle.std.proofs.lemmas.Bool.{ltb-true, leb-true}
use Rattle.std.proofs.lemmas.Bool.Decides.{nat_tests, Decides-eqb}
use Rattle.std.proofs.lemmas.Map.Keys.{sorted_head}
use Rattle.std.specs.BTreeMap.{insert_entry}
use Rattle.std.specs.List.{AllByRecursion}
use Rattle.std.specs.List.Sorted.{IsStrictlySortedBy}
use Rattle.std.specs.Map.{keys_of, remove_entry}
use Rattle.std.specs.Ordering.{match_ordering, ordering_then}
use Rattle.chare_base.specs.declared.message.Payload.{Payload}
use Rattle.ref_messages.specs.declared.key.RefKey.{RefKey}
use Rattle.ref_messages.specs.Queue.{key_order, not_before, begins_before}

abbrev pub Entries : Type 0
Entries = List (RefKey × Payload)

-- each message is of an iteration of at least a number
abbrev pub Bound : ℕ → List (RefKey × Payload) → Type 0
Bound now es = AllByRecursion (λ (e : RefKey × Payload). now ≤ e.0.iteration) es

-- ---- one message more, and one less
pub bound_insert : (now : ℕ) (es : Entries) (key : RefKey) (payload : Payload) → Bound now es → now ≤ key.iteration → Bound now (insert_entry key_order es key payload)
bound_insert now [] key payload old new = (new, tt)
bound_insert now (e ∷ es) key payload old new =
    elim (key_order key e.0) as (λ o. Bound now (match_ordering o ((key, payload) ∷ e ∷ es) ((e.0, payload) ∷ es) (e ∷ insert_entry key_order es key payload))) [ Less ↦ (new, old) | Equal ↦ (old.0, old.1) | Greater ↦ (old.0, bound_insert now es key payload old.1 new) ]

pub bound_remove : (now : ℕ) (test : RefKey → Bool) (es : Entries) → Bound now es → Bound now (remove_entry test es)
bound_remove now test [] old = tt
bound_remove now test (e ∷ es) old =
    elim (test e.0) as (λ b. Bound now (cond b es (e ∷ remove_entry test es))) [ true ↦ old.1 | false ↦ (old.0, bound_remove now test es old.1) ]

-- ---- the messages from an iteration on
pub bound_kept : (k : ℕ) (b : Bool) (e : RefKey × Payload) (es : Entries) → nat_le k e.0.iteration ≡ b → Bound k es → Bound k (cond b (e ∷ es) es)
bound_kept k true e es h rest = (leb-true k e.0.iteration h, rest)
bound_kept k false e es h rest = rest

pub bound_not_before : (k : ℕ) (es : Entries) → Bound k (not_before k es)
bound_not_before k [] = tt
bound_not_before k (e ∷ es) = bound_kept k (nat_le k e.0.iteration) e (not_before k es) refl (bound_not_before k es)

pub first_stays : (k n : ℕ) (xs ys : Entries) → k ≤ n → cond (nat_le k n) xs ys ≡ xs
first_stays k n xs ys h = grind (arith, nat_tests)

-- messages of no earlier iteration all stay
pub all_stay : (k : ℕ) (es : Entries) → Bound k es → not_before k es ≡ es
all_stay k [] h = refl
all_stay k (e ∷ es) h = first_stays k e.0.iteration (e ∷ not_before k es) (not_before k es) h.0 ∙ ap (λ (r : Entries). e ∷ r) (all_stay k es h.1)

-- ---- the order of keys
pub then_le : (x y : ℕ) (o : Ordering) (c d : Bool) → nat_lt x y ≡ c → (x == y) ≡ d → ordering_then (cond c Less (cond d Equal Greater)) o ≡ Less → x ≤ y
then_le x y o true d p q h = let l : x < y = ltb-true x y p in omega arith
then_le x y o false true p q h = let l : x ≡ y = (Decides-eqb x y).0 q in omega arith
then_le x y o false false p q h = absurd cc

pub iteration_le : (a b : RefKey) → key_order a b ≡ Less → a.iteration ≤ b.iteration
iteration_le a b h = then_le a.iteration b.iteration _ (nat_lt a.iteration b.iteration) (a.iteration == b.iteration) refl refl h

pub bound_above : (k : ℕ) (key : RefKey) (es : Entries) → k ≤ key.iteration → AllByRecursion (λ y. key_order key y ≡ Less) (keys_of es) → Bound k es
bound_above k key [] h above = tt
bound_above k key (e ∷ es) h above =
    let l : key.iteration ≤ e.0.iteration = iteration_le key e.0 above.0 in
    (omega arith, bound_above k key es h above.1)

-- where the first message is of no earlier iteration, none is
pub none_goes : (k : ℕ) (es : Entries) → IsStrictlySortedBy key_order (keys_of es) → begins_before k es ≡ false → not_before k es ≡ es
none_goes k [] sorted h = refl
none_goes k (e ∷ es) sorted h =
    let l : k ≤ e.0.iteration = grind (arith, nat_tests) in
    all_stay k (e ∷ es) (l, bound_above k e.0 es l (sorted_head key_order e.0 (keys_of es) sorted))

-- What is found under each key after a message more and a message less.
use Rattle.std.proofs.Common.{◌≡◌, Bool, true, false, cond, List, [], ◌∷◌, Option, Some, None, refl, ap, sym, ◌∙◌, Ordering, Less, Equal, Greater}
use Rattle.std.specs.BTreeMap.{insert_entry}
use Rattle.std.specs.List.{AllByRecursion}
use Rattle.std.specs.List.Sorted.{IsStrictlySortedBy}
use Rattle.std.specs.Map.{keys_of, lookup, remove_entry}
use Rattle.std.specs.Ordering.{is_eq, match_ordering}
use Rattle.chare_base.specs.declared.message.Payload.{Payload}
use Rattle.ref_messages.specs.declared.key.RefKey.{RefKey}
use Rattle.ref_messages.specs.Queue.{key_order, same_key}
use Rattle.ref_messages.proofs.Told.{told}

abbrev Entries : Type 0
Entries = List (RefKey × Payload)

-- tests of keys
pub same_is : (key : RefKey) → same_key key key ≡ true
same_is key = (told key key).1 refl

pub one_of : (a b : RefKey) → same_key a b ≡ true → a ≡ b
one_of a b h = (told a b).0 h

pub other_is : (a b : RefKey) → (a ≡ b → ⊥) → same_key a b ≡ false
other_is a b other = by (same_key a b) refl
  where
    by : (t : Bool) → same_key a b ≡ t → t ≡ false
    by true h = absurd (other (one_of a b h))
    by false h = refl

apart_of : (a b : RefKey) → same_key a b ≡ false → a ≡ b → ⊥
apart_of a b h same = let t : same_key a b ≡ true = (told a b).1 same in let q : true ≡ false = sym t ∙ h in cc

either_way : (a b : RefKey) → same_key a b ≡ same_key b a
either_way a b = by (same_key a b) refl
  where
    by : (t : Bool) → same_key a b ≡ t → t ≡ same_key b a
    by true h = sym ((told b a).1 (sym (one_of a b h)))
    by false h = sym (other_is b a (λ q. apart_of a b h (sym q)))

-- ---- a message more

twice : (b : Bool) (x y m : Option Payload) → cond b x m ≡ cond b x (cond b y m)
twice true x y m = refl
twice false x y m = refl

later : (a b : Bool) (x y m : Option Payload) → (a ≡ true → b ≡ true → ⊥) → cond b y (cond a x m) ≡ cond a x (cond b y m)
later true true x y m both = absurd (both refl refl)
later true false x y m both = refl
later false true x y m both = refl
later false false x y m both = refl

pub found_insert : (k key : RefKey) (payload : Payload) (es : Entries) → lookup (same_key k) (insert_entry key_order es key payload) ≡ cond (same_key k key) (Some payload) (lookup (same_key k) es)
found_insert k key payload [] = refl
found_insert k key payload (e ∷ es) = by (key_order key e.0) refl (found_insert k key payload es)
  where
    by : (o : Ordering) → key_order key e.0 ≡ o → lookup (same_key k) (insert_entry key_order es key payload) ≡ cond (same_key k key) (Some payload) (lookup (same_key k) es) →
        lookup (same_key k) (match_ordering o ((key, payload) ∷ e ∷ es) ((e.0, payload) ∷ es) (e ∷ insert_entry key_order es key payload))
        ≡ cond (same_key k key) (Some payload) (cond (same_key k e.0) (Some e.1) (lookup (same_key k) es))
    by Less h rest = refl
    by Equal h rest =
        let same : key ≡ e.0 = one_of key e.0 (ap is_eq h) in
        twice (same_key k e.0) (Some payload) (Some e.1) (lookup (same_key k) es)
        ∙ ap (λ q. cond (same_key k q) (Some payload) (cond (same_key k e.0) (Some e.1) (lookup (same_key k) es))) (sym same)
    by Greater h rest =
        ap (λ m. cond (same_key k e.0) (Some e.1) m) rest
        ∙ later (same_key k key) (same_key k e.0) (Some payload) (Some e.1) (lookup (same_key k) es)
        (λ a b. let same : key ≡ e.0 = sym (one_of k key a) ∙ one_of k e.0 b in let t : same_key key e.0 ≡ true = (told key e.0).1 same in let f : same_key key e.0 ≡ false = ap is_eq h in
        let q : true ≡ false = sym t ∙ f in cc)

pub found_more : (key k : RefKey) (payload : Payload) (es : Entries) → lookup (same_key k) (insert_entry key_order es key payload) ≡ cond (same_key key k) (Some payload) (lookup (same_key k) es)
found_more key k payload es = found_insert k key payload es ∙ ap (λ b. cond b (Some payload) (lookup (same_key k) es)) (either_way k key)

-- ---- a message less

-- none of those above a key is under it
none_above : (key : RefKey) (es : Entries) → AllByRecursion (λ y. key_order key y ≡ Less) (keys_of es) → lookup (same_key key) es ≡ None
none_above key [] all = refl
none_above key (e ∷ es) all = ap (λ o. cond (is_eq o) (Some e.1) (lookup (same_key key) es)) all.0 ∙ none_above key es all.1

pub found_less : (key k : RefKey) (es : Entries) → IsStrictlySortedBy key_order (keys_of es) → lookup (same_key k) (remove_entry (same_key key) es) ≡ cond (same_key key k) None (lookup (same_key k) es)
unfolding IsStrictlySortedBy
found_less key k [] sorted = by (same_key key k)
  where
    by : (b : Bool) → ◌≡◌ {A = Option Payload} None (cond b None None)
    by true = refl
    by false = refl
found_less key k (e ∷ es) sorted = by (same_key key e.0) refl (same_key key k) refl (found_less key k es sorted.1)
  where
    by : (t : Bool) → same_key key e.0 ≡ t → (b : Bool) → same_key key k ≡ b → lookup (same_key k) (remove_entry (same_key key) es) ≡ cond (same_key key k) None (lookup (same_key k) es) →
        lookup (same_key k) (cond t es (e ∷ remove_entry (same_key key) es)) ≡ cond b None (cond (same_key k e.0) (Some e.1) (lookup (same_key k) es))
    by true it true own rest =
        let same : e.0 ≡ k = sym (one_of key e.0 it) ∙ one_of key k own in
        ap (λ q. lookup (same_key q) es) (sym same) ∙ none_above e.0 es sorted.0
    by true it false other rest =
        let apart : same_key k e.0 ≡ false = other_is k e.0 (λ q. apart_of key k other (one_of key e.0 it ∙ sym q)) in
        sym (ap (λ b. cond b (Some e.1) (lookup (same_key k) es)) apart)
    by false it true own rest =
        let apart : same_key k e.0 ≡ false = other_is k e.0 (λ q. apart_of key e.0 it (one_of key k own ∙ q)) in
        ap (λ b. cond b (Some e.1) (lookup (same_key k) (remove_entry (same_key key) es))) apart ∙ rest ∙ ap (λ b. cond b None (lookup (same_key k) es)) own
    by false it false other rest = ap (λ m. cond (same_key k e.0) (Some e.1) m) (rest ∙ ap (λ b. cond b None (lookup (same_key k) es)) other)

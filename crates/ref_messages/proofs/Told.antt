-- That two keys are one exactly where they are equal.
use Rattle.std.proofs.Common.{◌≡◌, ℕ, Bool, true, false, cond, refl, ap, sym, ◌∙◌, arith, nat_lt, ◌==◌, Less, Equal, Greater, ◌↔◌, IsTrue, subst, None, List, nat_le}
use Rattle.std.proofs.lemmas.Bool.Decides.{nat_tests, Decides-eqb}
use Rattle.std.specs.Ordering.{is_eq, ordering_then, nat_cmp}
use Rattle.chare_base.specs.declared.message.Port.{Port}
use Rattle.chare_base.specs.declared.message.Port.TheVariants.{Entry, Total}
use Rattle.std.proofs.lemmas.Map.Entries.{lookup-filter-keys}
use Rattle.std.specs.Map.{lookup}
use Rattle.chare_base.specs.declared.message.Payload.{Payload}
use Rattle.ref_messages.specs.declared.key.RefKey.{RefKey}
use Rattle.ref_messages.specs.Queue.{same_key, not_before}

-- a key of an entry, and one of a reduction
abbrev pub key_at : ℕ → ℕ → RefKey
key_at iteration number = record { iteration = iteration; port = Entry (record { 0 = number }) }

abbrev pub total_at : ℕ → ℕ → RefKey
total_at iteration number = record { iteration = iteration; port = Total (record { 0 = number }) }

-- by cases on the four tests: only equal numbers compare as equal
pub same_parts : (m n a b : ℕ) (c d e f : Bool) → nat_lt m n ≡ c → (m == n) ≡ d → nat_lt a b ≡ e → (a == b) ≡ f → is_eq (ordering_then (cond c Less (cond d Equal Greater)) (cond e Less (cond f Equal Greater))) ≡ true → (m ≡ n) × (a ≡ b)
same_parts m n a b true d e f p q r s h = absurd cc
same_parts m n a b false false e f p q r s h = absurd cc
same_parts m n a b false true true f p q r s h = absurd cc
same_parts m n a b false true false false p q r s h = absurd cc
same_parts m n a b false true false true p q r s h = ((Decides-eqb m n).0 q, (Decides-eqb a b).0 s)

-- keys of which one is of an entry and one of a reduction differ
pub never_same : (c d : Bool) → is_eq (ordering_then (cond c Less (cond d Equal Greater)) Less) ≡ true → ⊥
never_same true d h = absurd cc
never_same false true h = absurd cc
never_same false false h = absurd cc

pub never_same_above : (c d : Bool) → is_eq (ordering_then (cond c Less (cond d Equal Greater)) Greater) ≡ true → ⊥
never_same_above true d h = absurd cc
never_same_above false true h = absurd cc
never_same_above false false h = absurd cc

-- a key compares as equal to itself
pub same_self : (m a : ℕ) → is_eq (ordering_then (nat_cmp m m) (nat_cmp a a)) ≡ true
same_self m a = grind (arith, nat_tests)

-- a key of any port
abbrev pub of_parts : ℕ → Port → RefKey
of_parts iteration port = record { iteration = iteration; port = port }

pub told_at : (m n : ℕ) (p r : Port) → IsTrue (same_key (of_parts m p) (of_parts n r)) → of_parts m p ≡ of_parts n r
told_at m n (Entry e) (Entry f) h =
    let parts : (m ≡ n) × (e.0 ≡ f.0) = same_parts m n e.0 f.0 (nat_lt m n) (m == n) (nat_lt e.0 f.0) (e.0 == f.0) refl refl refl refl h in
    ap (λ (x : ℕ). key_at x e.0) parts.0 ∙ ap (λ (y : ℕ). key_at n y) parts.1
told_at m n (Entry e) (Total r) h = absurd (never_same (nat_lt m n) (m == n) h)
told_at m n (Total r) (Entry e) h = absurd (never_same_above (nat_lt m n) (m == n) h)
told_at m n (Total e) (Total f) h =
    let parts : (m ≡ n) × (e.0 ≡ f.0) = same_parts m n e.0 f.0 (nat_lt m n) (m == n) (nat_lt e.0 f.0) (e.0 == f.0) refl refl refl refl h in
    ap (λ (x : ℕ). total_at x e.0) parts.0 ∙ ap (λ (y : ℕ). total_at n y) parts.1

pub self_at : (m : ℕ) (p : Port) → IsTrue (same_key (of_parts m p) (of_parts m p))
self_at m (Entry e) = same_self m e.0
self_at m (Total r) = same_self m r.0

-- the law, for all keys
pub told : (a b : RefKey) → IsTrue (same_key a b) ↔ (a ≡ b)
told a b = (told_at a.iteration b.iteration a.port b.port, λ (e : a ≡ b). let P : RefKey → Type 0 = λ x. IsTrue (same_key a x) in subst P e (self_at a.iteration a.port))

-- one key is of one iteration
pub same_iteration : (a b : RefKey) → same_key a b ≡ true → a.iteration ≡ b.iteration
same_iteration a b h = ap (λ (x : RefKey). x.iteration) ((told a b).0 h)

-- what is found among the messages from an iteration on
pub found_not_before : (k : ℕ) (key : RefKey) (es : List (RefKey × Payload)) → lookup (same_key key) (not_before k es) ≡ cond (nat_le k key.iteration) (lookup (same_key key) es) None
found_not_before k key es =
    lookup-filter-keys (same_key key) (λ q. nat_le k q.iteration) (nat_le k key.iteration) (λ q h. sym (ap (λ (n : ℕ). nat_le k n) (same_iteration key q h))) es

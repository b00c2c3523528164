-- Facts on lists.
use Rattle.std.proofs.Common.{◌≡◌, ℕ, zero, suc, ◌+◌, inl, inr, List, [], ◌∷◌, ◌++◌, length, map, refl, ap, sym, ◌∙◌, arith, subst, Some, None}
use Rattle.std.specs.Prelude.{◌⊎◌, slice_get, slice_set}
use Rattle.std.specs.List.{AllByRecursion}
use Rattle.std.proofs.lemmas.Option.{same_Some}
use Rattle.node_core.specs.Mail.{In}

pub append_nil : {A : Type 0} (xs : List A) → xs ++ [] ≡ xs
append_nil [] = refl
append_nil (x ∷ xs) = ap (λ l. x ∷ l) (append_nil xs)

-- what holds of all holds of one that is there
pub all_got : {A : Type 0} (P : A → Type 0) (xs : List A) (i : ℕ) (x : A) → AllByRecursion P xs → slice_get xs i ≡ Some x → P x
all_got P [] i x all h = absurd cc
all_got P (y ∷ xs) zero x all h = let same : y ≡ x = cc in subst P same all.0
all_got P (y ∷ xs) (suc i) x all h = all_got P xs i x all.1 h

-- and after a change at a place
pub all_set : {A : Type 0} (P : A → Type 0) (xs : List A) (i : ℕ) (x : A) → AllByRecursion P xs → P x → AllByRecursion P (slice_set xs i x)
all_set P [] i x all new = tt
all_set P (y ∷ xs) zero x all new = (new, all.1)
all_set P (y ∷ xs) (suc i) x all new = (all.0, all_set P xs i x all.1 new)

pub all_behind : {A : Type 0} (P : A → Type 0) (xs : List A) (x : A) → AllByRecursion P xs → P x → AllByRecursion P (xs ++ x ∷ [])
all_behind P [] x all new = (new, tt)
all_behind P (y ∷ xs) x all new = (all.0, all_behind P xs x all.1 new)

pub all_joined : {A : Type 0} (P : A → Type 0) (xs ys : List A) → AllByRecursion P xs → AllByRecursion P ys → AllByRecursion P (xs ++ ys)
all_joined P [] ys a b = b
all_joined P (x ∷ xs) ys a b = (a.0, all_joined P xs ys a.1 b)

-- what stands at a place after a change at one
pub set_get : {A : Type 0} (xs : List A) (i j : ℕ) (x y : A) → slice_get (slice_set xs i x) j ≡ Some y → ((j ≡ i) × (y ≡ x)) ⊎ (slice_get xs j ≡ Some y)
set_get [] i j x y h = inr h
set_get (z ∷ xs) zero zero x y h = inl (refl, sym (same_Some x y h))
set_get (z ∷ xs) zero (suc j) x y h = inr h
set_get (z ∷ xs) (suc i) zero x y h = inr h
set_get (z ∷ xs) (suc i) (suc j) x y h = by (set_get xs i j x y h)
  where
    by : ((j ≡ i) × (y ≡ x)) ⊎ (slice_get xs j ≡ Some y) → ((suc j ≡ suc i) × (y ≡ x)) ⊎ (slice_get xs j ≡ Some y)
    by (inl q) = inl (ap suc q.0, q.1)
    by (inr q) = inr q

pub set_same : {A : Type 0} (xs : List A) (i : ℕ) (x y : A) → slice_get (slice_set xs i x) i ≡ Some y → y ≡ x
set_same [] i x y h = absurd (let q : None ≡ Some y = h in cc)
set_same (z ∷ xs) zero x y h = sym (same_Some x y h)
set_same (z ∷ xs) (suc i) x y h = set_same xs i x y h

pub all_to : {A : Type 0} (P Q : A → Type 0) (xs : List A) → ((x : A) → P x → Q x) → AllByRecursion P xs → AllByRecursion Q xs
all_to P Q [] to all = tt
all_to P Q (x ∷ xs) to all = (to x all.0, all_to P Q xs to all.1)

pub all_pairs : {A : Type 0} (P Q R : A → Type 0) (xs : List A) → ((x : A) → P x → Q x → R x) → AllByRecursion P xs → AllByRecursion Q xs → AllByRecursion R xs
all_pairs P Q R [] to ps qs = tt
all_pairs P Q R (x ∷ xs) to ps qs = (to x ps.0 qs.0, all_pairs P Q R xs to ps.1 qs.1)

pub all_mapped : {A B : Type 0} (P : B → Type 0) (f : A → B) (xs : List A) → AllByRecursion (λ x. P (f x)) xs → AllByRecursion P (map f xs)
all_mapped P f [] all = tt
all_mapped P f (x ∷ xs) all = (all.0, all_mapped P f xs all.1)

pub all_unmapped : {A B : Type 0} (P : B → Type 0) (f : A → B) (xs : List A) → AllByRecursion P (map f xs) → AllByRecursion (λ x. P (f x)) xs
all_unmapped P f [] all = tt
all_unmapped P f (x ∷ xs) all = (all.0, all_unmapped P f xs all.1)

pub in_all : {A : Type 0} (P : A → Type 0) (xs : List A) (x : A) → AllByRecursion P xs → In x xs → P x
in_all P [] x all h = absurd h
in_all P (y ∷ xs) x all (inl h) = subst P (sym h) all.0
in_all P (y ∷ xs) x all (inr h) = in_all P xs x all.1 h

pub get_left : {A : Type 0} (xs ys : List A) (i : ℕ) (x : A) → slice_get xs i ≡ Some x → slice_get (xs ++ ys) i ≡ Some x
get_left [] ys i x h = absurd (let q : None ≡ Some x = h in cc)
get_left (z ∷ xs) ys zero x h = h
get_left (z ∷ xs) ys (suc i) x h = get_left xs ys i x h

pub get_right : {A : Type 0} (xs ys : List A) (n i : ℕ) (x : A) → n ≡ length xs + i → slice_get ys i ≡ Some x → slice_get (xs ++ ys) n ≡ Some x
get_right [] ys n i x is h = ap (slice_get ys) (omega (arith, is)) ∙ h
get_right (z ∷ xs) ys zero i x is h = absurd (omega (arith, is))
get_right (z ∷ xs) ys (suc n) i x is h = get_right xs ys n i x (omega (arith, is)) h

pub get_mapped : {A B : Type 0} (f : A → B) (xs : List A) (i : ℕ) (x : A) → slice_get xs i ≡ Some x → slice_get (map f xs) i ≡ Some (f x)
get_mapped f [] i x h = absurd (let q : None ≡ Some x = h in cc)
get_mapped f (z ∷ xs) zero x h = ap (λ y. Some (f y)) (same_Some z x h)
get_mapped f (z ∷ xs) (suc i) x h = get_mapped f xs i x h

pub get_unmapped : {A B : Type 0} (f : A → B) (xs : List A) (i : ℕ) (y : B) → slice_get (map f xs) i ≡ Some y → (x : A) × (slice_get xs i ≡ Some x) × (f x ≡ y)
get_unmapped f [] i y h = absurd (let q : None ≡ Some y = h in cc)
get_unmapped f (z ∷ xs) zero y h = (z, refl, same_Some (f z) y h)
get_unmapped f (z ∷ xs) (suc i) y h = get_unmapped f xs i y h

pub long_both : {A : Type 0} (xs ys : List A) → length (xs ++ ys) ≡ length xs + length ys
long_both [] ys = omega arith
long_both (x ∷ xs) ys = let rest = long_both xs ys in omega (arith, rest)

pub long_map : {A B : Type 0} (f : A → B) (xs : List A) → length (map f xs) ≡ length xs
long_map f [] = refl
long_map f (x ∷ xs) = ap suc (long_map f xs)

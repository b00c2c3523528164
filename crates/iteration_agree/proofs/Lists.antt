-- Lists of slots.
use Rattle.std.proofs.Common.{◌≡◌, ℕ, zero, suc, ◌<◌, List, [], ◌∷◌, ◌++◌, length, map, refl, ap, arith}
use Rattle.std.specs.Prelude.{slice_index_or, slice_set, replicate}
use Rattle.std.specs.List.{AllByRecursion}

pub at_place : {A : Type 0} (P : A → Type 0) (xs : List A) (i : ℕ) (none : A) → AllByRecursion P xs → i < length xs → P (slice_index_or xs i none)
at_place P [] i none all h = absurd (omega (arith, h))
at_place P (x ∷ xs) zero none all h = all.0
at_place P (x ∷ xs) (suc i) none all h = at_place P xs i none all.1 (omega (arith, h))

pub all_set : {A : Type 0} (P : A → Type 0) (xs : List A) (i : ℕ) (x : A) → AllByRecursion P xs → P x → AllByRecursion P (slice_set xs i x)
all_set P [] i x all new = tt
all_set P (y ∷ xs) zero x all new = (new, all.1)
all_set P (y ∷ xs) (suc i) x all new = (all.0, all_set P xs i x all.1 new)

pub all_to : {A : Type 0} (P Q : A → Type 0) (xs : List A) → ((x : A) → P x → Q x) → AllByRecursion P xs → AllByRecursion Q xs
all_to P Q [] to all = tt
all_to P Q (x ∷ xs) to all = (to x all.0, all_to P Q xs to all.1)

pub all_mapped : {A : Type 0} (P Q : A → Type 0) (f : A → A) (xs : List A) → ((x : A) → P x → Q (f x)) → AllByRecursion P xs → AllByRecursion Q (map f xs)
all_mapped P Q f [] to all = tt
all_mapped P Q f (x ∷ xs) to all = (to x all.0, all_mapped P Q f xs to all.1)

pub all_behind : {A : Type 0} (P : A → Type 0) (xs ys : List A) → AllByRecursion P xs → AllByRecursion P ys → AllByRecursion P (xs ++ ys)
all_behind P [] ys first more = more
all_behind P (x ∷ xs) ys first more = (first.0, all_behind P xs ys first.1 more)

pub all_replicate : {A : Type 0} (P : A → Type 0) (n : ℕ) (x : A) → P x → AllByRecursion P (replicate n x)
all_replicate P zero x h = tt
all_replicate P (suc n) x h = (h, all_replicate P n x h)

-- whatever stands there by default
pub same_default : {A : Type 0} (xs : List A) (i : ℕ) (x d : A) → i < length xs → x ≡ slice_index_or xs i x → x ≡ slice_index_or xs i d
same_default [] i x d h is = absurd (omega (arith, h))
same_default (y ∷ ys) zero x d h is = is
same_default (y ∷ ys) (suc i) x d h is = same_default ys i x d (omega (arith, h)) is

-- what stands at a place after one was set
pub set_there : {A : Type 0} (xs : List A) (i : ℕ) (x d : A) → i < length xs → slice_index_or (slice_set xs i x) i d ≡ x
set_there [] i x d h = absurd (omega (arith, h))
set_there (y ∷ ys) zero x d h = refl
set_there (y ∷ ys) (suc i) x d h = set_there ys i x d (omega (arith, h))

pub set_elsewhere : {A : Type 0} (xs : List A) (i j : ℕ) (x d : A) → (i ≡ j → ⊥) → slice_index_or (slice_set xs i x) j d ≡ slice_index_or xs j d
set_elsewhere [] i j x d other = refl
set_elsewhere (y ∷ ys) zero zero x d other = absurd (other refl)
set_elsewhere (y ∷ ys) zero (suc j) x d other = refl
set_elsewhere (y ∷ ys) (suc i) zero x d other = refl
set_elsewhere (y ∷ ys) (suc i) (suc j) x d other = set_elsewhere ys i j x d (λ same. other (ap (λ n. suc n) same))

-- a function that the new item leaves as it was
pub set_same : {A B : Type 0} (f : A → B) (xs : List A) (i j : ℕ) (x d : A) → f x ≡ f (slice_index_or xs i d) → f (slice_index_or (slice_set xs i x) j d) ≡ f (slice_index_or xs j d)
set_same f [] i j x d same = refl
set_same f (y ∷ ys) zero zero x d same = same
set_same f (y ∷ ys) zero (suc j) x d same = refl
set_same f (y ∷ ys) (suc i) zero x d same = refl
set_same f (y ∷ ys) (suc i) (suc j) x d same = set_same f ys i j x d same

pub mapped_same : {A B : Type 0} (f : A → B) (g : A → A) (xs : List A) (j : ℕ) (d : A) → ((x : A) → f (g x) ≡ f x) → f (slice_index_or (map g xs) j d) ≡ f (slice_index_or xs j d)
mapped_same f g [] j d same = refl
mapped_same f g (y ∷ ys) zero d same = same y
mapped_same f g (y ∷ ys) (suc j) d same = mapped_same f g ys j d same

pub mapped_there : {A : Type 0} (g : A → A) (xs : List A) (i : ℕ) (d : A) → i < length xs → slice_index_or (map g xs) i d ≡ g (slice_index_or xs i d)
mapped_there g [] i d h = absurd (omega (arith, h))
mapped_there g (y ∷ ys) zero d h = refl
mapped_there g (y ∷ ys) (suc i) d h = mapped_there g ys i d (omega (arith, h))

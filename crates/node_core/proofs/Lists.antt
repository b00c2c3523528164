-- Facts on lists.
use Rattle.std.proofs.Common.{◌≡◌, ℕ, zero, suc, List, [], ◌∷◌, ◌++◌, refl, ap, sym, ◌∙◌, arith, map, subst, Option, Some, None}
use Rattle.std.specs.Prelude.{slice_get, slice_set, IfSome}
use Rattle.std.specs.List.{AllByRecursion}
use Rattle.std.proofs.lemmas.Option.{same_Some}

-- what holds of all holds at a place
pub got_at : {A : Type 0} (P : A → Type 0) (xs : List A) (i : ℕ) (x : A) → AllByRecursion P xs → slice_get xs i ≡ Some x → P x
got_at P [] i x all h = absurd (let e : None ≡ Some x = h in cc)
got_at P (y ∷ xs) zero x all h = let same : y ≡ x = same_Some y x h in subst P same all.0
got_at P (y ∷ xs) (suc i) x all h = got_at P xs i x all.1 h

-- and after a change at a place
pub all_set : {A : Type 0} (P : A → Type 0) (xs : List A) (i : ℕ) (x : A) → AllByRecursion P xs → P x → AllByRecursion P (slice_set xs i x)
all_set P [] i x all new = tt
all_set P (y ∷ xs) zero x all new = (new, all.1)
all_set P (y ∷ xs) (suc i) x all new = (all.0, all_set P xs i x all.1 new)

-- a change that no image shows
pub map_set : {A B : Type 0} (f : A → B) (xs : List A) (i : ℕ) (x y : A) → slice_get xs i ≡ Some y → f x ≡ f y → map f (slice_set xs i x) ≡ map f xs
map_set f [] i x y h same = refl
map_set f (z ∷ xs) zero x y h same = let e : z ≡ y = same_Some z y h in ap (λ b. b ∷ map f xs) (same ∙ ap f (sym e))
map_set f (z ∷ xs) (suc i) x y h same = ap (λ bs. f z ∷ bs) (map_set f xs i x y h same)

pub all_mapped : {A B : Type 0} (P : A → Type 0) (Q : B → Type 0) (f : A → B) (xs : List A) → ((x : A) → P x → Q (f x)) → AllByRecursion P xs → AllByRecursion Q (map f xs)
all_mapped P Q f [] to all = tt
all_mapped P Q f (x ∷ xs) to all = (to x all.0, all_mapped P Q f xs to all.1)

pub all_to : {A : Type 0} (P Q : A → Type 0) (xs : List A) → ((x : A) → P x → Q x) → AllByRecursion P xs → AllByRecursion Q xs
all_to P Q [] to all = tt
all_to P Q (x ∷ xs) to all = (to x all.0, all_to P Q xs to all.1)

pub all_behind : {A : Type 0} (P : A → Type 0) (xs ys : List A) → AllByRecursion P xs → AllByRecursion P ys → AllByRecursion P (xs ++ ys)
all_behind P [] ys all more = more
all_behind P (x ∷ xs) ys all more = (all.0, all_behind P xs ys all.1 more)

-- all of a list, by what holds of the number of each
pub map_same : {A B : Type 0} (f : A → B) (g : A → A) (xs : List A) → ((x : A) → f (g x) ≡ f x) → map f (map g xs) ≡ map f xs
map_same f g [] same = refl
map_same f g (x ∷ xs) same = ap (λ b. b ∷ map f (map g xs)) (same x) ∙ ap (λ bs. f x ∷ bs) (map_same f g xs same)

pub get_mapped : {A B : Type 0} (f : A → B) (xs : List A) (i : ℕ) (x : A) → slice_get xs i ≡ Some x → slice_get (map f xs) i ≡ Some (f x)
get_mapped f [] i x h = absurd (let e : None ≡ Some x = h in cc)
get_mapped f (y ∷ xs) zero x h = let same : y ≡ x = same_Some y x h in ap (λ z. Some (f z)) same
get_mapped f (y ∷ xs) (suc i) x h = get_mapped f xs i x h

pub if_some : {A : Type 0} (P Q : A → Type 0) (o : Option A) → ((x : A) → P x → Q x) → IfSome o P → IfSome o Q
if_some P Q None to h = tt
if_some P Q (Some x) to h = to x h

-- all of a list, by each at its place
pub all_by : {A : Type 0} (Q : A → Type 0) (xs : List A) → ((m : ℕ) (x : A) → slice_get xs m ≡ Some x → Q x) → AllByRecursion Q xs
all_by Q [] each = tt
all_by Q (x ∷ xs) each = (each 0 x refl, all_by Q xs (λ m y h. each (suc m) y h))

-- after a change at a place, by each of the others
pub all_but : {A : Type 0} (Q : A → Type 0) (xs : List A) (i : ℕ) (y : A) → ((m : ℕ) (x : A) → slice_get xs m ≡ Some x → (m ≡ i → ⊥) → Q x) → Q y → AllByRecursion Q (slice_set xs i y)
all_but Q [] i y each new = tt
all_but Q (x ∷ xs) zero y each new = (new, all_by Q xs (λ m z h. each (suc m) z h (λ e. let q : suc m ≡ zero = e in omega (arith, q))))
all_but Q (x ∷ xs) (suc i) y each new = (each 0 x refl (λ e. let q : zero ≡ suc i = e in omega (arith, q)), all_but Q xs i y (λ m z h other. each (suc m) z h (λ e. other (let q : suc m ≡ suc i = e in omega (arith, q)))) new)

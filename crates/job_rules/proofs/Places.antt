-- Items of a list by their numbers, and what tables of names say.
use Rattle.std.proofs.Common.{◌≡◌, ℕ, suc, ◌+◌, ◌<◌, ◌≤◌, Bool, true, false, List, [], ◌∷◌, ◌++◌, length, refl, ap, sym, ◌∙◌, subst, arith, Option, None, Some, inl, inr}
use Rattle.std.specs.Prelude.{◌⊎◌, if◌then◌else◌, is_some, slice_get}
use Rattle.std.specs.Str.{bytes_eq}
use Rattle.job_tree.specs.declared.token.Span.{Span}
use Rattle.job_tree.specs.declared.tree.ArrayDecl.{ArrayDecl}
use Rattle.job_rules.specs.declared.names.Meaning.{Meaning}
use Rattle.job_rules.specs.declared.names.Meaning.TheVariants as meanings
use Rattle.job_rules.specs.Names.{Known, bytes_at, declare, lookup}
use Rattle.job_rules.specs.Tables.{array_meant, array_number, arrays_named}

-- ---- items by their numbers

-- from number n on a list is another one
abbrev pub Tail : {A : Type 0} → List A → ℕ → List A → Type 0
Tail xs n ys = (k : ℕ) → slice_get xs (n + k) ≡ slice_get ys k

pub tail_here : {A : Type 0} (xs : List A) (n : ℕ) (y : A) (ys : List A) → Tail xs n (y ∷ ys) → slice_get xs n ≡ Some y
tail_here xs n y ys t = let e : n ≡ n + 0 = omega arith in ap (slice_get xs) e ∙ t 0

pub tail_next : {A : Type 0} (xs : List A) (n : ℕ) (y : A) (ys : List A) → Tail xs n (y ∷ ys) → Tail xs (suc n) ys
tail_next xs n y ys t k = let e : suc n + k ≡ n + suc k = omega arith in ap (slice_get xs) e ∙ t (suc k)

pub tail_whole : {A : Type 0} (xs : List A) → Tail xs 0 xs
tail_whole xs k = let e : 0 + k ≡ k = omega arith in ap (slice_get xs) e

-- ---- tables

-- each name that a table has means what P says
abbrev pub Sound : (Meaning → Type 0) → List Known → Type 0
Sound P names = (name : List ℕ) (x : Meaning) → lookup names name ≡ Some x → P x

pub none_sound : (P : Meaning → Type 0) → Sound P []
unfolding lookup
none_sound P name x h = absurd (let e : None ≡ Some x = h in cc)

choose : (b : Bool) (m x : Meaning) (a o : Option Meaning) (P : Type 0) → (o ≡ Some x → (a ≡ Some x) ⊎ P) → (if b then Some m else o) ≡ Some x → ((if b then Some m else a) ≡ Some x) ⊎ P
choose true m x a o P f h = inl h
choose false m x a o P f h = f h

last_meant : (b : Bool) (m x : Meaning) (o : Option Meaning) → (if b then Some m else None) ≡ Some x → (o ≡ Some x) ⊎ (x ≡ m)
last_meant true m x o h = inr (let e : Some m ≡ Some x = h in cc)
last_meant false m x o h = absurd (let e : None ≡ Some x = h in cc)

append_meant : (names : List Known) (k : Known) (name : List ℕ) (x : Meaning) → lookup (names ++ k ∷ []) name ≡ Some x → (lookup names name ≡ Some x) ⊎ (x ≡ k.meaning)
unfolding lookup
append_meant [] k name x h = last_meant (bytes_eq name k.name) k.meaning x (lookup [] name) h
append_meant (y ∷ names) k name x h =
    choose (bytes_eq name y.name) y.meaning x (lookup names name) (lookup (names ++ k ∷ []) name) (x ≡ k.meaning) (append_meant names k name x) h

declared_if : (b : Bool) (names : List Known) (k : Known) (name : List ℕ) (x : Meaning) → lookup (if b then names else names ++ k ∷ []) name ≡ Some x →
    (lookup names name ≡ Some x) ⊎ (x ≡ k.meaning)
declared_if true names k name x h = inl h
declared_if false names k name x h = append_meant names k name x h

pub declare_sound : (P : Meaning → Type 0) (names : List Known) (name : List ℕ) (m : Meaning) → Sound P names → P m → Sound P (declare names name m)
declare_sound P names name m sound here q x h =
    elim (declared_if (is_some (lookup names name)) names (record { name = name; meaning = m }) q x h) [
      | inl e ↦ sound q x e
      | inr e ↦ subst P (sym e) here
    ]

-- ---- arrays

-- an array's number is below n
abbrev pub IsBelow : ℕ → Meaning → Type 0
IsBelow n (meanings.Array number) = number < n
IsBelow n _ = Unit {0}

pub arrays_sound : (text : List ℕ) (n number : ℕ) (arrays : List ArrayDecl) (names : List Known) → number + length arrays ≤ n → Sound (IsBelow n) names →
    Sound (IsBelow n) (arrays_named text number arrays names)
arrays_sound text n number [] names few sound = sound
arrays_sound text n number (a ∷ more) names few sound =
    arrays_sound text n (suc number) more (declare names (bytes_at text a.name) (meanings.Array number)) (omega (arith, few))
    (declare_sound (IsBelow n) names (bytes_at text a.name) (meanings.Array number) sound (let k : number < n = omega (arith, few) in k))

meant_below : (n k : ℕ) (o : Option Meaning) → ((x : Meaning) → o ≡ Some x → IsBelow n x) → array_meant o ≡ Some k → k < n
meant_below n k None h e = absurd (let c : None ≡ Some k = e in cc)
meant_below n k (Some (meanings.Array number)) h e =
    let same : number ≡ k = (let c : Some number ≡ Some k = e in cc) in
    let below : number < n = h (meanings.Array number) refl in
    omega (arith, below, same)
meant_below n k (Some (meanings.State number declared plain at cells)) h e = absurd (let c : None ≡ Some k = e in cc)
meant_below n k (Some (meanings.Entry port number source values)) h e = absurd (let c : None ≡ Some k = e in cc)
meant_below n k (Some (meanings.Reduction port number)) h e = absurd (let c : None ≡ Some k = e in cc)

pub array_below : (text : List ℕ) (n k : ℕ) (arrays : List Known) (name : Span) → Sound (IsBelow n) arrays → array_number text arrays name ≡ Some k → k < n
array_below text n k arrays name sound h = meant_below n k (lookup arrays (bytes_at text name)) (sound (bytes_at text name)) h

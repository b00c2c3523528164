-- The variables of loops, the first of which were written.
use Rattle.std.proofs.Common.{◌≡◌, ℕ, zero, suc, ◌<◌, ◌≤◌, ℤ, pos, List, [], ◌∷◌, length, replicate, slice_set, refl, ap, ◌∙◌, arith}
use Rattle.chare_eval.specs.Loops.{shown}
use Rattle.chare_eval.specs.Value.{number_at}

-- ---- none

pub none_shown : (xs : List ℤ) → shown 0 xs ≡ replicate (length xs) (pos 0)
none_shown [] = refl
none_shown (x ∷ more) = ap (λ l. pos 0 ∷ l) (none_shown more)

-- ---- reads

pub number_in : (w i : ℕ) (xs : List ℤ) → i < w → number_at (shown w xs) i ≡ number_at xs i
number_in w i [] h = refl
number_in zero i (x ∷ more) h = absurd (omega (arith, h))
number_in (suc w) zero (x ∷ more) h = refl
number_in (suc w) (suc i) (x ∷ more) h = number_in w i more (omega (arith, h))

pub number_behind : (w i : ℕ) (xs : List ℤ) → w ≤ i → number_at (shown w xs) i ≡ pos 0
number_behind w i [] h = refl
number_behind zero zero (x ∷ more) h = refl
number_behind zero (suc i) (x ∷ more) h = number_behind zero i more (omega arith)
number_behind (suc w) zero (x ∷ more) h = absurd (omega (arith, h))
number_behind (suc w) (suc i) (x ∷ more) h = number_behind w i more (omega (arith, h))

-- ---- writes

-- a number that was written
pub set_in : (w i : ℕ) (xs : List ℤ) (v : ℤ) → i < w → shown w (slice_set xs i v) ≡ slice_set (shown w xs) i v
set_in w i [] v h = refl
set_in zero i (x ∷ more) v h = absurd (omega (arith, h))
set_in (suc w) zero (x ∷ more) v h = refl
set_in (suc w) (suc i) (x ∷ more) v h = ap (λ l. x ∷ l) (set_in w i more v (omega (arith, h)))

-- the first that wasn't
pub set_next : (w : ℕ) (xs : List ℤ) (v : ℤ) → shown (suc w) (slice_set xs w v) ≡ slice_set (shown w xs) w v
set_next w [] v = refl
set_next zero (x ∷ more) v = refl
set_next (suc w) (x ∷ more) v = ap (λ l. x ∷ l) (set_next w more v)

-- outside nothing is written
pub set_outside : (w i : ℕ) (xs : List ℤ) (v : ℤ) → length xs ≤ i → slice_set (shown w xs) i v ≡ shown w xs
set_outside w i [] v h = refl
set_outside zero zero (x ∷ more) v h = absurd (omega (arith, h))
set_outside zero (suc i) (x ∷ more) v h = ap (λ l. pos 0 ∷ l) (set_outside zero i more v (omega (arith, h)))
set_outside (suc w) zero (x ∷ more) v h = absurd (omega (arith, h))
set_outside (suc w) (suc i) (x ∷ more) v h = ap (λ l. x ∷ l) (set_outside w i more v (omega (arith, h)))

-- one more that is 0
pub cleared_next : (w : ℕ) (xs : List ℤ) → shown (suc w) (slice_set xs w (pos 0)) ≡ shown w xs
cleared_next w [] = refl
cleared_next zero (x ∷ more) = refl
cleared_next (suc w) (x ∷ more) = ap (λ l. x ∷ l) (cleared_next w more)

pub cleared_len : (w : ℕ) (xs : List ℤ) → length (slice_set xs w (pos 0)) ≡ length xs
cleared_len w [] = refl
cleared_len zero (x ∷ more) = refl
cleared_len (suc w) (x ∷ more) = ap suc (cleared_len w more)

-- the same of a number that is one more
pub cleared_at : (w n : ℕ) (xs : List ℤ) → n ≡ suc w → shown n (slice_set xs w (pos 0)) ≡ shown w xs
cleared_at w n xs is = ap (λ m. shown m (slice_set xs w (pos 0))) is ∙ cleared_next w xs

pub set_at : (w n : ℕ) (xs : List ℤ) (v : ℤ) → n ≡ suc w → shown n (slice_set xs w v) ≡ slice_set (shown w xs) w v
set_at w n xs v is = ap (λ m. shown m (slice_set xs w v)) is ∙ set_next w xs v

-- The first seat that can run, behind seats that can't.
use Rattle.std.proofs.Common.{◌≡◌, ℕ, zero, suc, ◌+◌, ◌≤◌, ◌<◌, Bool, true, false, cond, List, [], ◌∷◌, length, take, refl, ap, sym, ◌∙◌, arith, Some, None}
use Rattle.std.specs.Prelude.{slice_index_or, slice_set, min}
use Rattle.world_core.specs.declared.doing.Readiness.{Readiness}
use Rattle.world_core.specs.Steps.{first_able, is_able}

none_before_from : (k : ℕ) (all : List Readiness) (i j : ℕ) → j ≤ i → first_able k (take i all) ≡ None → first_able k (take j all) ≡ None
none_before_from k all i zero h none = refl
none_before_from k [] i (suc j) h none = refl
none_before_from k (r ∷ more) zero (suc j) h none = absurd (omega (arith, h))
none_before_from k (r ∷ more) (suc i) (suc j) h none = by (is_able r) none (none_before_from (suc k) more i j (omega (arith, h)))
  where
    by : (b : Bool) → cond b (Some k) (first_able (suc k) (take i more)) ≡ None → (first_able (suc k) (take i more) ≡ None → first_able (suc k) (take j more) ≡ None) →
        cond b (Some k) (first_able (suc k) (take j more)) ≡ None
    by true is rest = absurd (let q : Some k ≡ None = is in cc)
    by false is rest = rest is

pub none_before : (all : List Readiness) (i j : ℕ) → j ≤ i → first_able 0 (take i all) ≡ None → first_able 0 (take j all) ≡ None
none_before all i j h none = none_before_from 0 all i j h none

pub set_beyond : (all : List Readiness) (i j : ℕ) (r : Readiness) → i ≤ j → take i (slice_set all j r) ≡ take i all
set_beyond all zero j r h = refl
set_beyond [] (suc i) j r h = refl
set_beyond (x ∷ more) (suc i) zero r h = absurd (omega (arith, h))
set_beyond (x ∷ more) (suc i) (suc j) r h = ap (λ rs. x ∷ rs) (set_beyond more i j r (omega (arith, h)))

set_length : (all : List Readiness) (j : ℕ) (r : Readiness) → length (slice_set all j r) ≡ length all
set_length [] j r = refl
set_length (x ∷ more) zero r = refl
set_length (x ∷ more) (suc j) r = ap suc (set_length more j r)

-- a seat is told again: none before it, and none before where the search begins, can run
set_clear : (all new : List Readiness) (from seat : ℕ) (r : Readiness) → new ≡ slice_set all seat r → first_able 0 (take from all) ≡ None → first_able 0 (take (min from seat) new) ≡ None
set_clear all new from seat r is none =
    ap (λ rs. first_able 0 (take (min from seat) rs)) is ∙ ap (first_able 0) (set_beyond all (min from seat) seat r (omega arith)) ∙ none_before all from (min from seat) (omega arith) none

set_within : (all new : List Readiness) (from seat : ℕ) (r : Readiness) → new ≡ slice_set all seat r → from ≤ length all → min from seat ≤ length new
set_within all new from seat r is h = omega (arith, ap length is, set_length all seat r, h)

-- one that can't run leaves none before where the search begins
set_unable : (k : ℕ) (all : List Readiness) (i j : ℕ) (r : Readiness) → is_able r ≡ false → first_able k (take i all) ≡ None → first_able k (take i (slice_set all j r)) ≡ None
set_unable k all zero j r unable none = refl
set_unable k [] (suc i) j r unable none = refl
set_unable k (x ∷ more) (suc i) zero r unable none = ap (λ b. cond b (Some k) (first_able (suc k) (take i more))) unable ∙ rest (is_able x) none
  where
    rest : (b : Bool) → cond b (Some k) (first_able (suc k) (take i more)) ≡ None → first_able (suc k) (take i more) ≡ None
    rest true none = absurd (let q : Some k ≡ None = none in cc)
    rest false none = none
set_unable k (x ∷ more) (suc i) (suc j) r unable none = by (is_able x) none (set_unable (suc k) more i j r unable)
  where
    by : (b : Bool) → cond b (Some k) (first_able (suc k) (take i more)) ≡ None → (first_able (suc k) (take i more) ≡ None → first_able (suc k) (take i (slice_set more j r)) ≡ None) →
        cond b (Some k) (first_able (suc k) (take i (slice_set more j r))) ≡ None
    by true none rest = absurd (let q : Some k ≡ None = none in cc)
    by false none rest = rest none

pub clear_at : (all new : List Readiness) (from seat least : ℕ) (r : Readiness) (able : Bool) → able ≡ is_able r → least ≡ cond able (min from seat) from → new ≡ slice_set all seat r → first_able 0 (take from all) ≡ None →
    first_able 0 (take least new) ≡ None
clear_at all new from seat least r true is at told none = ap (λ m. first_able 0 (take m new)) at ∙ set_clear all new from seat r told none
clear_at all new from seat least r false is at told none =
    ap (λ m. first_able 0 (take m new)) at ∙ ap (λ rs. first_able 0 (take from rs)) told ∙ set_unable 0 all from seat r (sym is) none

pub within_at : (all new : List Readiness) (from seat least : ℕ) (r : Readiness) (able : Bool) → least ≡ cond able (min from seat) from → new ≡ slice_set all seat r → from ≤ length all → least ≤ length new
within_at all new from seat least r true at is h = omega (arith, at, set_within all new from seat r is h)
within_at all new from seat least r false at is h = omega (arith, at, ap length is, set_length all seat r, h)

-- a seat that isn't there changes nothing
pub set_nowhere : (all : List Readiness) (seat : ℕ) (r : Readiness) → length all ≤ seat → slice_set all seat r ≡ all
set_nowhere [] seat r h = refl
set_nowhere (x ∷ more) zero r h = absurd (omega (arith, h))
set_nowhere (x ∷ more) (suc i) r h = ap (λ rs. x ∷ rs) (set_nowhere more i r (omega (arith, h)))

-- ---- the search

next_from : (k : ℕ) (all : List Readiness) (i : ℕ) (x : Readiness) → first_able k (take i all) ≡ None → i < length all → is_able (slice_index_or all i x) ≡ false → first_able k (take (suc i) all) ≡ None
next_from k [] i x none below is = absurd (omega (arith, below))
next_from k (r ∷ more) zero x none below is = ap (λ b. cond b (Some k) None) is
next_from k (r ∷ more) (suc i) x none below is = by (is_able r) none (λ rest. next_from (suc k) more i x rest (omega (arith, below)) is)
  where
    by : (b : Bool) → cond b (Some k) (first_able (suc k) (take i more)) ≡ None → (first_able (suc k) (take i more) ≡ None → first_able (suc k) (take (suc i) more) ≡ None) →
        cond b (Some k) (first_able (suc k) (take (suc i) more)) ≡ None
    by true none rest = absurd (let q : Some k ≡ None = none in cc)
    by false none rest = rest none

-- one that was looked at can't run
pub next_none : (all : List Readiness) (i n : ℕ) (x : Readiness) → n ≡ i + 1 → first_able 0 (take i all) ≡ None → i < length all → is_able (slice_index_or all i x) ≡ false → first_able 0 (take n all) ≡ None
next_none all i n x same none below is =
    let one : n ≡ suc i = omega (arith, same) in
    ap (λ m. first_able 0 (take m all)) one ∙ next_from 0 all i x none below is

found_from : (k : ℕ) (all : List Readiness) (i : ℕ) (x : Readiness) → first_able k (take i all) ≡ None → i < length all → is_able (slice_index_or all i x) ≡ true → first_able k all ≡ Some (k + i)
found_from k [] i x none below is = absurd (omega (arith, below))
found_from k (r ∷ more) zero x none below is = let same : k ≡ k + 0 = omega arith in ap (λ b. cond b (Some k) (first_able (suc k) more)) is ∙ ap Some same
found_from k (r ∷ more) (suc i) x none below is = by (is_able r) none (λ rest. found_from (suc k) more i x rest (omega (arith, below)) is)
  where
    by : (b : Bool) → cond b (Some k) (first_able (suc k) (take i more)) ≡ None → (first_able (suc k) (take i more) ≡ None → first_able (suc k) more ≡ Some (suc k + i)) →
        cond b (Some k) (first_able (suc k) more) ≡ Some (k + suc i)
    by true none rest = absurd (let q : Some k ≡ None = none in cc)
    by false none rest = let same : suc k + i ≡ k + suc i = omega arith in rest none ∙ ap Some same

-- one that was looked at can
pub found_at : (all : List Readiness) (i : ℕ) (x : Readiness) → first_able 0 (take i all) ≡ None → i < length all → is_able (slice_index_or all i x) ≡ true → first_able 0 all ≡ Some i
found_at all i x none below is = let same : 0 + i ≡ i = omega arith in found_from 0 all i x none below is ∙ ap Some same

whole : (all : List Readiness) → take (length all) all ≡ all
whole [] = refl
whole (r ∷ more) = ap (λ rs. r ∷ rs) (whole more)

pub found_nowhere : (all : List Readiness) (i : ℕ) → i ≡ length all → first_able 0 (take i all) ≡ None → first_able 0 all ≡ None
found_nowhere all i same none = sym (ap (first_able 0) (whole all)) ∙ sym (ap (λ n. first_able 0 (take n all)) same) ∙ none

-- Looks are few.
use Rattle.std.proofs.Common.{◌≡◌, ℕ, zero, suc, ◌+◌, ◌<◌, ◌≤◌, Bool, true, false, List, [], ◌∷◌, ◌++◌, length, refl, ap, ◌∙◌, arith}
use Rattle.std.specs.Prelude.{nat_lt, slice_set}
use Rattle.std.proofs.lemmas.Bool.{ltb-true}
use Rattle.std.proofs.lemmas.Bool.Decides.{nat_tests}
use Rattle.std.proofs.lemmas.List.{length-append, length-set}
use Rattle.iteration_agree.specs.Looks.{ChangesRaise, LooksLower, differing, before_first, looks_at, looks_left, times}

behind_same : (ds : List Bool) → differing (ds ++ false ∷ []) ≡ differing ds
behind_same [] = refl
behind_same (true ∷ ds) = ap (λ n. suc n) (behind_same ds)
behind_same (false ∷ ds) = behind_same ds

front_low : (ds : List Bool) → before_first ds ≤ length ds
front_low [] = omega arith
front_low (true ∷ ds) = omega arith
front_low (false ∷ ds) = omega (arith, front_low ds)

front_same : (ds : List Bool) → 0 < differing ds → before_first (ds ++ false ∷ []) ≡ before_first ds
front_same [] h = absurd (omega (arith, h))
front_same (true ∷ ds) h = refl
front_same (false ∷ ds) h = ap (λ n. suc n) (front_same ds h)

front_under : (ds : List Bool) → 0 < differing ds → before_first ds < length ds
front_under [] h = absurd (omega (arith, h))
front_under (true ∷ ds) h = omega arith
front_under (false ∷ ds) h = omega (arith, front_under ds h)

pub looks_lower : LooksLower
looks_lower [] h = absurd (omega (arith, h))
looks_lower (false ∷ more) h =
    let count : length (more ++ false ∷ []) ≡ suc (length more) = length-append more (false ∷ []) ∙ omega arith in
    by (differing more) refl (ap (λ n. looks_at n (differing (more ++ false ∷ [])) (before_first (more ++ false ∷ []))) count ∙ ap (λ n. looks_at (suc (length more)) n (before_first (more ++ false ∷ []))) (behind_same more) ∙ ap (looks_at (suc (length more)) (differing more)) (front_same more h))
  where
    by : (n : ℕ) → differing more ≡ n → looks_left (more ++ false ∷ []) ≡ looks_at (suc (length more)) (differing more) (before_first more) → looks_left (more ++ false ∷ []) < looks_at (suc (length more)) (differing more) (suc (before_first more))
    by zero is same = absurd (omega (arith, h, is))
    by (suc n) is same = omega (arith, same, ap (λ m. looks_at (suc (length more)) m (before_first more)) is, ap (λ m. looks_at (suc (length more)) m (suc (before_first more))) is)
looks_lower (true ∷ more) h =
    let count : length (more ++ false ∷ []) ≡ suc (length more) = length-append more (false ∷ []) ∙ omega arith in
    by (differing more) refl (ap (λ n. looks_at n (differing (more ++ false ∷ [])) (before_first (more ++ false ∷ []))) count ∙ ap (λ n. looks_at (suc (length more)) n (before_first (more ++ false ∷ []))) (behind_same more))
  where
    by : (n : ℕ) → differing more ≡ n → looks_left (more ++ false ∷ []) ≡ looks_at (suc (length more)) (differing more) (before_first (more ++ false ∷ [])) → looks_left (more ++ false ∷ []) < looks_at (suc (length more)) (suc (differing more)) 0
    by zero is same = omega (arith, same, ap (λ m. looks_at (suc (length more)) m (before_first (more ++ false ∷ []))) is)
    by (suc n) is same =
        let under = front_under more (omega (arith, is)) in
        omega (arith, same, ap (λ m. looks_at (suc (length more)) m (before_first (more ++ false ∷ []))) is, ap (λ m. times m (suc (length more))) is, front_same more (omega (arith, is)), under)

differing_set : (ds : List Bool) (i : ℕ) → differing (slice_set ds i true) ≤ suc (differing ds)
differing_set [] i = omega arith
differing_set (true ∷ ds) zero = omega arith
differing_set (false ∷ ds) zero = omega arith
differing_set (true ∷ ds) (suc i) = omega (arith, differing_set ds i)
differing_set (false ∷ ds) (suc i) = differing_set ds i

differing_kept : (ds : List Bool) (i : ℕ) → differing ds ≤ differing (slice_set ds i true)
differing_kept [] i = omega arith
differing_kept (true ∷ ds) zero = omega arith
differing_kept (false ∷ ds) zero = omega arith
differing_kept (true ∷ ds) (suc i) = omega (arith, differing_kept ds i)
differing_kept (false ∷ ds) (suc i) = differing_kept ds i

front_set : (ds : List Bool) (i : ℕ) → before_first (slice_set ds i true) ≤ before_first ds
front_set [] i = omega arith
front_set (true ∷ ds) zero = omega arith
front_set (false ∷ ds) zero = omega arith
front_set (true ∷ ds) (suc i) = omega arith
front_set (false ∷ ds) (suc i) = omega (arith, front_set ds i)

raise : (s m n a b : ℕ) → n ≤ suc m → m ≤ n → a ≤ b → b ≤ s → looks_at s n a ≤ looks_at s m b + (s + s + 1)
raise s zero zero a b up down le low = omega arith
raise s zero (suc zero) a b up down le low = omega (arith, le, low)
raise s zero (suc (suc n)) a b up down le low = absurd (omega (arith, up))
raise s (suc m) zero a b up down le low = absurd (omega (arith, down))
raise s (suc m) (suc n) a b up down le low = grow (nat_lt m n) refl
  where
    grow : (c : Bool) → nat_lt m n ≡ c → looks_at s (suc n) a ≤ looks_at s (suc m) b + (s + s + 1)
    grow true h = let less : m < n = ltb-true m n h in let same : n ≡ suc m = omega (arith, less, up) in omega (arith, ap (λ k. times k s) same, le)
    grow false h = let same : n ≡ m = grind (arith, nat_tests, h, down) in omega (arith, ap (λ k. times k s) same, le)

pub changes_raise : ChangesRaise
changes_raise ds i =
    let set : List Bool = slice_set ds i true in
    let r = raise (length ds) (differing ds) (differing set) (before_first set) (before_first ds) (differing_set ds i) (differing_kept ds i) (front_set ds i) (front_low ds) in
    omega (arith, r, ap (λ n. looks_at n (differing set) (before_first set)) (length-set ds i true))

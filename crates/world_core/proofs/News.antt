-- How many looks are left: a look lowers that, and one slot's news raises it by at most a look at each place.
use Rattle.std.proofs.Common.{◌≡◌, ℕ, zero, suc, ◌+◌, ◌-◌, ◌<◌, ◌≤◌, inl, inr, Bool, true, false, cond, List, [], ◌∷◌, length, map, refl, ap, ◌∙◌, arith, Some, None}
use Rattle.std.specs.Prelude.{◌⊎◌, ◌==◌, ◌||◌, nat_le, slice_get}
use Rattle.std.proofs.lemmas.Bool.{eqb-true}
use Rattle.std.proofs.lemmas.Bool.Decides.{nat_tests}
use Rattle.std.proofs.lemmas.Option.{same_Some}
use Rattle.chare_base.specs.declared.slots.SlotId.{SlotId}
use Rattle.iteration_agree.specs.Cuts.{CutState}
use Rattle.node_core.specs.Costs.{times}
use Rattle.conductor_core.specs.Conductors.{ConductorState}
use Rattle.world_core.specs.Costs.{has_news, looks_of, looks_to}
use Rattle.world_core.specs.Worlds.{any_news, news_below}

-- ---- one place

looks_few : (n next i : ℕ) → i < n → looks_to n next i ≤ n
looks_few n next i less = by (nat_le next i) refl
  where
    by : (b : Bool) → nat_le next i ≡ b → cond b (suc (i - next)) (suc (n + i - next)) ≤ n
    by true is = omega (arith, less)
    by false is = let before : i < next = grind (arith, nat_tests, is) in omega (arith, less, before)

-- the place behind one, round
abbrev pub Follows : ℕ → ℕ → ℕ → Type 0
Follows n next after = ((after ≡ suc next) × (after < n)) ⊎ ((after ≡ 0) × (suc next ≡ n))

looks_nearer : (n next after i : ℕ) → Follows n next after → i < n → (i ≡ next → ⊥) → suc (looks_to n after i) ≡ looks_to n next i
looks_nearer n next after i follows less apart = by (nat_le next i) (nat_le after i) refl refl follows
  where
    by : (a b : Bool) → nat_le next i ≡ a → nat_le after i ≡ b → Follows n next after → suc (cond b (suc (i - after)) (suc (n + i - after))) ≡ cond a (suc (i - next)) (suc (n + i - next))
    by true true ha hb (inl q) =
        let at = q.0 in
        let low : next ≤ i = grind (arith, nat_tests, ha) in
        let behind : next < i = which low in
        omega (arith, at, behind)
      where
        which : next ≤ i → next < i
        which low = cases (i == next) refl
          where
            cases : (c : Bool) → (i == next) ≡ c → next < i
            cases true is = absurd (apart (eqb-true i next is))
            cases false is = grind (arith, nat_tests, is, low)
    by true false ha hb (inl q) =
        let at = q.0 in
        absurd (apart (let low : next ≤ i = grind (arith, nat_tests, ha) in let high : i < after = grind (arith, nat_tests, hb) in omega (arith, at, low, high)))
    by false true ha hb (inl q) = let at = q.0 in absurd (let low : i < next = grind (arith, nat_tests, ha) in let high : after ≤ i = grind (arith, nat_tests, hb) in omega (arith, at, low, high))
    by false false ha hb (inl q) = let at = q.0 in let low : i < next = grind (arith, nat_tests, ha) in let few = q.1 in omega (arith, at, low, few)
    by true b ha hb (inr q) = absurd (apart (let end = q.1 in let low : next ≤ i = grind (arith, nat_tests, ha) in omega (arith, end, low, less)))
    by false true ha hb (inr q) = let at = q.0 in let end = q.1 in let low : i < next = grind (arith, nat_tests, ha) in omega (arith, at, end, low)
    by false false ha hb (inr q) = let at = q.0 in absurd (let high : i < after = grind (arith, nat_tests, hb) in omega (arith, at, high))

-- ---- all places

-- at most a look at each place, to each place
pub looks_most : (n next i : ℕ) (xs : List Bool) → i + length xs ≤ n → looks_of n next i xs ≤ times (length xs) n
looks_most n next i [] few = omega arith
looks_most n next i (x ∷ more) few =
    let rest = looks_most n next (suc i) more (omega (arith, few)) in
    let here : cond x (looks_to n next i) 0 ≤ n = by x in
    omega (arith, rest, here)
  where
    by : (b : Bool) → cond b (looks_to n next i) 0 ≤ n
    by true = looks_few n next i (omega (arith, few))
    by false = omega arith

one_kept : (a b : Bool) (x y : ℕ) → (a ≡ true → b ≡ true) → x ≤ y → cond a x 0 ≤ cond b y 0
one_kept true true x y kept less = less
one_kept true false x y kept less = absurd (let q : false ≡ true = kept refl in cc)
one_kept false b x y kept less = omega arith

module _ (n next : ℕ) (f g : SlotId → Bool) where
  -- where no place has new news
  pub looks_kept : (i : ℕ) (xs : List SlotId) → ((m : ℕ) (slot : SlotId) → slice_get xs m ≡ Some slot → f slot ≡ true → g slot ≡ true) → looks_of n next i (map f xs) ≤ looks_of n next i (map g xs)
  looks_kept i [] kept = omega arith
  looks_kept i (x ∷ more) kept =
      let here = one_kept (f x) (g x) (looks_to n next i) (looks_to n next i) (kept 0 x refl) (omega arith) in
      let rest = looks_kept (suc i) more (λ m slot there. kept (suc m) slot there) in
      omega (arith, here, rest)

  -- where one place may have
  pub looks_one : (i at : ℕ) (xs : List SlotId) → i + length xs ≤ n → ((m : ℕ) (slot : SlotId) → slice_get xs m ≡ Some slot → (m ≡ at → ⊥) → f slot ≡ true → g slot ≡ true) → looks_of n next i (map f xs) ≤ looks_of n next i (map g xs) + n
  looks_one i at [] few kept = omega arith
  looks_one i zero (x ∷ more) few kept =
      let here = one_few (f x) in
      let rest = looks_kept (suc i) more (λ m slot there. kept (suc m) slot there (λ same. absurd (omega (arith, same)))) in
      omega (arith, here, rest)
    where
      one_few : (b : Bool) → cond b (looks_to n next i) 0 ≤ n
      one_few true = looks_few n next i (omega (arith, few))
      one_few false = omega arith
  looks_one i (suc at) (x ∷ more) few kept =
      let here = one_kept (f x) (g x) (looks_to n next i) (looks_to n next i) (kept 0 x refl (λ same. absurd (omega (arith, same)))) (omega arith) in
      let rest = looks_one (suc i) at more (omega (arith, few)) (λ m slot there apart. kept (suc m) slot there (λ same. apart (omega (arith, same)))) in
      omega (arith, here, rest)

-- ---- a look at the next place

module _ (n next after : ℕ) (follows : Follows n next after) (f g : SlotId → Bool) where
  -- the place has no news behind the look, and no other has more
  abbrev Looked : ℕ → List SlotId → Type 0
  Looked i xs = (m : ℕ) (slot : SlotId) → slice_get xs m ≡ Some slot → (f slot ≡ true → g slot ≡ true) × (i + m ≡ next → f slot ≡ false)

  looked_here : (i : ℕ) (a b : Bool) → i < n → (a ≡ true → b ≡ true) → (i ≡ next → a ≡ false) → cond a (looks_to n after i) 0 ≤ cond b (looks_to n next i) 0
  looked_here i false b less kept used = omega arith
  looked_here i true false less kept used = absurd (let q : false ≡ true = kept refl in cc)
  looked_here i true true less kept used = let nearer = looks_nearer n next after i follows less (λ same. absurd (let q : true ≡ false = used same in cc)) in omega (arith, nearer)

  -- where there was news
  looked_less : (i : ℕ) (a : Bool) → i < n → (i ≡ next → a ≡ false) → cond a (looks_to n after i) 0 < looks_to n next i
  looked_less i false less used = by (nat_le next i)
    where
      by : (b : Bool) → 0 < cond b (suc (i - next)) (suc (n + i - next))
      by true = omega arith
      by false = omega arith
  looked_less i true less used = let nearer = looks_nearer n next after i follows less (λ same. absurd (let q : true ≡ false = used same in cc)) in omega (arith, nearer)

  looks_on : (i : ℕ) (xs : List SlotId) → i + length xs ≤ n → Looked i xs → looks_of n after i (map f xs) ≤ looks_of n next i (map g xs)
  looks_on i [] few looked = omega arith
  looks_on i (x ∷ more) few looked =
      let one = looked 0 x refl in
      let here = looked_here i (f x) (g x) (omega (arith, few)) one.0 (λ same. one.1 (omega (arith, same))) in
      let rest = looks_on (suc i) more (omega (arith, few)) (λ m slot there. let q = looked (suc m) slot there in (q.0, λ same. q.1 (omega (arith, same)))) in
      omega (arith, here, rest)

  pub looks_lower : (i at : ℕ) (xs : List SlotId) (slot : SlotId) → i + length xs ≤ n → Looked i xs → slice_get xs at ≡ Some slot → g slot ≡ true → looks_of n after i (map f xs) < looks_of n next i (map g xs)
  looks_lower i at [] slot few looked there new = absurd (let q : None ≡ Some slot = there in cc)
  looks_lower i zero (x ∷ more) slot few looked there new =
      let one = looked 0 x refl in
      let here = looked_less i (f x) (omega (arith, few)) (λ same. one.1 (omega (arith, same))) in
      let own : g x ≡ true = ap g (same_Some x slot there) ∙ new in
      let whole : cond (g x) (looks_to n next i) 0 ≡ looks_to n next i = ap (λ b. cond b (looks_to n next i) 0) own in
      let rest = looks_on (suc i) more (omega (arith, few)) (λ m other at_m. let q = looked (suc m) other at_m in (q.0, λ same. q.1 (omega (arith, same)))) in
      omega (arith, here, whole, rest)
  looks_lower i (suc at) (x ∷ more) slot few looked there new =
      let one = looked 0 x refl in
      let here = looked_here i (f x) (g x) (omega (arith, few)) one.0 (λ same. one.1 (omega (arith, same))) in
      let rest = looks_lower (suc i) at more slot (omega (arith, few)) (λ m other at_m. let q = looked (suc m) other at_m in (q.0, λ same. q.1 (omega (arith, same)))) there new in
      omega (arith, here, rest)

-- ---- where there is news

or_true : (a b : Bool) → (a || b) ≡ true → (a ≡ true) ⊎ (b ≡ true)
or_true true b h = inl refl
or_true false b h = inr h

module _ (cut : CutState) (c : ConductorState) where
  news_found : (replica n : ℕ) → news_below cut c replica n ≡ true → (j : ℕ) × (j < n) × (has_news cut c (record { replica = replica; node = j }) ≡ true)
  news_found replica zero h = absurd (let q : false ≡ true = h in cc)
  news_found replica (suc n) h = by (or_true (news_below cut c replica n) (has_news cut c (record { replica = replica; node = n })) h) (news_found replica n)
    where
      by : (news_below cut c replica n ≡ true) ⊎ (has_news cut c (record { replica = replica; node = n }) ≡ true) → (news_below cut c replica n ≡ true → (j : ℕ) × (j < n) × (has_news cut c (record { replica = replica; node = j }) ≡ true)) → (j : ℕ) × (j < suc n) × (has_news cut c (record { replica = replica; node = j }) ≡ true)
      by (inl below) rest = let r = rest below in let less = r.1 in (r.0, omega (arith, less), r.2)
      by (inr here) rest = (n, omega arith, here)

  pub any_found : any_news cut c ≡ true → (r : ℕ) × (j : ℕ) × (r < 2) × (j < cut.nodes) × (has_news cut c (record { replica = r; node = j }) ≡ true)
  any_found h = by (or_true (news_below cut c 0 cut.nodes) (news_below cut c 1 cut.nodes) h)
    where
      by : (news_below cut c 0 cut.nodes ≡ true) ⊎ (news_below cut c 1 cut.nodes ≡ true) → (r : ℕ) × (j : ℕ) × (r < 2) × (j < cut.nodes) × (has_news cut c (record { replica = r; node = j }) ≡ true)
      by (inl below) = let q = news_found 0 cut.nodes below in (0, q.0, omega arith, q.1, q.2)
      by (inr below) = let q = news_found 1 cut.nodes below in (1, q.0, omega arith, q.1, q.2)

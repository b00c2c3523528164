-- Where no fault is found, none is there.
use Rattle.std.proofs.Common.{◌≡◌, ℕ, zero, suc, Bool, true, false, subst, slice_get, List, [], ◌∷◌, None, Some, refl, ap, ◌∙◌}
use Rattle.std.specs.Prelude.{◌&&◌, if◌then◌else◌, is_none}
use Rattle.std.specs.List.{list_all}
use Rattle.job_rules.specs.declared.fault.CheckFault.{CheckFault}
use Rattle.job_rules.specs.Faults.{Found, comes_before, fault_if, first_of, nothing, sooner}

chosen_some : (b : Bool) (x y : CheckFault) → (if b then Some y else Some x) ≡ nothing → ⊥
chosen_some true x y h = cc
chosen_some false x y h = cc

-- of two faults none is named only where there are none
pub sooner_none : (a b : Found) → sooner a b ≡ nothing → (a ≡ nothing) × (b ≡ nothing)
sooner_none None b h = (refl, h)
sooner_none (Some x) None h = (h, refl)
sooner_none (Some x) (Some y) h = absurd (chosen_some (comes_before y x) x y h)

-- what a test finds unbroken
pub unbroken : (b : Bool) (f : CheckFault) → fault_if b f ≡ nothing → b ≡ false
unbroken true f h = absurd cc
unbroken false f h = refl

pub none_is : (a : Found) → a ≡ nothing → is_none a ≡ true
none_is a h = ap is_none h

pub is_none-none : (a : Found) → is_none a ≡ true → a ≡ nothing
is_none-none None h = refl
is_none-none (Some x) h = absurd cc

-- none of these items has a fault
abbrev pub faultless : {A : Type 0} → (A → Found) → List A → Bool
faultless f xs = list_all (λ x. is_none (f x)) xs

-- where no fault is named, none was found, and no item has one
pub first_none : {A : Type 0} (f : A → Found) (found : Found) (xs : List A) → first_of f found xs ≡ nothing → (found ≡ nothing) × (faultless f xs ≡ true)
first_none f found [] h = (h, refl)
first_none f found (x ∷ more) h =
    let others = first_none f (sooner found (f x)) more h in
    let here = sooner_none found (f x) others.0 in
    (here.0, ap (λ b. b && faultless f more) (none_is (f x) here.1) ∙ others.1)

parts : (a b : Bool) → (a && b) ≡ true → (a ≡ true) × (b ≡ true)
parts true b h = (refl, h)
parts false b h = absurd cc

-- the item at each place has no fault
pub each_none : {A : Type 0} (f : A → Found) (xs : List A) (i : ℕ) (x : A) → faultless f xs ≡ true → slice_get xs i ≡ Some x → f x ≡ nothing
each_none f [] i x h at = absurd cc
each_none f (y ∷ more) zero x h at = let same : y ≡ x = cc in is_none-none (f x) (subst (λ z. is_none (f z) ≡ true) same (parts (is_none (f y)) (faultless f more) h).0)
each_none f (y ∷ more) (suc i) x h at = each_none f more i x (parts (is_none (f y)) (faultless f more) h).1 at

-- What several numbers make.
use Rattle.std.specs.Prelude.{◌≡◌, ℤ, List, [], ◌∷◌, Option, Some, None}
use Rattle.std.specs.Int.{w64, int_wrapping_add, int_min, int_max}
use Rattle.chare_base.specs.declared.plan.How.{How}
use Rattle.chare_base.specs.declared.plan.How.TheVariants.{Sum, Min, Max}

abbrev pub joined : How → ℤ → ℤ → ℤ
joined Sum x y = int_wrapping_add w64 x y
joined Min x y = int_min x y
joined Max x y = int_max x y

-- of two that may be missing
abbrev pub both : How → Option ℤ → Option ℤ → Option ℤ
both how None b = b
both how (Some x) None = Some x
both how (Some x) (Some y) = Some (joined how x y)

-- numbers joined from the left to one that may be missing
abbrev pub joined_to : How → Option ℤ → List ℤ → Option ℤ
joined_to how total [] = total
joined_to how total (v ∷ more) = joined_to how (both how total (Some v)) more

-- in which order numbers are joined doesn't matter
pub record JoinedIsLawful : Type 0 where
  pub swapped : (how : How) (x y : ℤ) → joined how x y ≡ joined how y x
  pub nested : (how : How) (x y z : ℤ) → joined how (joined how x y) z ≡ joined how x (joined how y z)

-- What a step costs: 1 for each statement, in both blocks of an `if`; a loop's turn costs 1 and its block.
use Rattle.std.specs.Prelude.{ℕ, ◌+◌, ◌*◌, ℤ, pos, negsuc, ◌-ℤ◌, Bool, nat_le, min, List, [], ◌∷◌, map}
use Rattle.std.specs.List.{list_all}
use Rattle.chare_base.specs.declared.plan.Array.{Array}
use Rattle.chare_base.specs.declared.plan.Part.{Part}
use Rattle.chare_base.specs.declared.plan.Step.{Step}
use Rattle.chare_base.specs.declared.plan.Stmt.{Stmt}
use Rattle.chare_base.specs.declared.plan.Stmt.TheOpen.{Stmt-F}
use Rattle.chare_base.specs.declared.plan.Stmt.TheFolds.{fold-Stmt}

-- Costs stop at the greatest number of 64 bits.
abbrev pub capped : ℕ → ℕ
capped n = min n 18446744073709551615

-- how many numbers lie from low up to high, without high
abbrev pub numbers_below : ℤ → ℕ
numbers_below (pos n) = n
numbers_below (negsuc n) = 0

abbrev pub sum_from : ℕ → List ℕ → ℕ
sum_from total [] = total
sum_from total (n ∷ more) = sum_from (capped (total + n)) more

abbrev pub cost_step : Stmt-F ℕ → ℕ
cost_step (Stmt-F.Set cell value) = 1
cost_step (Stmt-F.SetAt at cells place value) = 1
cost_step (Stmt-F.If test a b) = sum_from (sum_from 1 a) b
cost_step (Stmt-F.For slot low high block) = capped (capped (numbers_below (high -ℤ low) * sum_from 1 block) + 1)
cost_step (Stmt-F.Send entry values) = 1
cost_step (Stmt-F.Contribute reduction value) = 1

abbrev pub stmt_cost : Stmt → ℕ
stmt_cost = fold-Stmt ℕ cost_step

-- what the parts cost, beside a total
abbrev pub parts_cost : ℕ → List Part → ℕ
parts_cost total [] = total
parts_cost total (part ∷ more) = parts_cost (sum_from total (map stmt_cost part.block)) more

abbrev pub step_cost : Step → ℕ
step_cost step = parts_cost 0 step.parts

abbrev pub array_costs : Array → Bool
array_costs a = list_all (λ step. nat_le (step_cost step) 1000000) a.steps

unfoldable pub costs_hold : List Array → Bool
costs_hold arrays = list_all array_costs arrays

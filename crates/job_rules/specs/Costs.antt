-- What a step costs: 1 for each statement, in both blocks of an `if`; a loop's turn costs 1 and its block.
use Rattle.std.specs.Prelude.{ℕ, ◌+◌, ◌*◌, ◌-ℤ◌, List, [], ◌∷◌, Option, Some, None}
use Rattle.chare_base.specs.Costs.{capped, numbers_below, sum_from}
use Rattle.job_tree.specs.declared.tree.Block.{Block}
use Rattle.job_tree.specs.declared.tree.PartDecl.{PartDecl}
use Rattle.job_tree.specs.declared.tree.StepBody.{StepBody}
use Rattle.job_tree.specs.declared.tree.StepBody.TheVariants as bodies
use Rattle.job_tree.specs.declared.tree.StepDecl.{StepDecl}
use Rattle.job_tree.specs.declared.tree.StmtDecl.{StmtDecl}
use Rattle.job_tree.specs.declared.tree.StmtDecl.TheOpen.{Block-F, StmtDecl-F}
use Rattle.job_tree.specs.declared.tree.StmtDecl.TheFolds.{fold-Block, fold-StmtDecl}
use Rattle.job_rules.specs.Numbers.{signed64}

-- ---- statements

-- a block that may be missing
abbrev pub other_cost : ℕ → Option (List ℕ) → ℕ
other_cost total (Some block) = sum_from total block
other_cost total None = total

abbrev pub cost_step : StmtDecl-F ℕ (List ℕ) → ℕ
cost_step (StmtDecl-F.Assign target index value) = 1
cost_step (StmtDecl-F.If at test block other) = other_cost (sum_from 1 block) other
cost_step (StmtDecl-F.For at name low high block) = capped (capped (numbers_below (signed64 high -ℤ signed64 low) * sum_from 1 block) + 1)
cost_step (StmtDecl-F.Send at array entry values) = 1
cost_step (StmtDecl-F.Contribute at name value) = 1

abbrev pub costs_step : Block-F ℕ (List ℕ) → List ℕ
costs_step b = b.statements

abbrev pub stmt_cost : StmtDecl → ℕ
stmt_cost = fold-StmtDecl ℕ (List ℕ) cost_step costs_step

-- what each statement of a block costs
abbrev pub block_costs : Block → List ℕ
block_costs = fold-Block ℕ (List ℕ) cost_step costs_step

-- ---- steps

-- what the parts cost, beside a total
abbrev pub parts_cost : ℕ → List PartDecl → ℕ
parts_cost total [] = total
parts_cost total (part ∷ more) = parts_cost (sum_from total (block_costs part.block)) more

abbrev pub body_cost : StepBody → ℕ
body_cost (bodies.Block block) = sum_from 0 (block_costs block)
body_cost (bodies.Part part) = sum_from 0 (block_costs part.block)
body_cost (bodies.Overlap at parts) = parts_cost 0 parts

abbrev pub step_cost : StepDecl → ℕ
step_cost step = body_cost step.body

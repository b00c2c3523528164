-- A plan costs what its tree does.
use Rattle.std.proofs.Common.{◌≡◌, ℕ, ℤ, suc, ◌+◌, ◌*◌, ◌-ℤ◌, Bool, List, [], ◌∷◌, ◌++◌, length, map, refl, ap, sym, ◌∙◌, subst, Option, None, Some}
use Rattle.std.specs.Prelude.{◌&&◌, nat_le}
use Rattle.std.specs.List.{list_all}
use Rattle.chare_base.specs.declared.expression.Expr.{Expr}
use Rattle.chare_base.specs.declared.message.EntryId.{EntryId}
use Rattle.chare_base.specs.declared.message.ReductionId.{ReductionId}
use Rattle.chare_base.specs.declared.range.Range.{Range}
use Rattle.chare_base.specs.declared.plan.Stmt.{Stmt}
use Rattle.chare_base.specs.declared.plan.Stmt.TheVariants as stmts
use Rattle.chare_base.specs.declared.plan.Stmt.TheOpen.{Stmt-F}
use Rattle.chare_base.specs.declared.plan.Stmt.TheFolds.{fold-roll-Stmt}
use Rattle.chare_base.specs.Costs as p
use Rattle.job_tree.specs.declared.token.Span.{Span}
use Rattle.job_tree.specs.declared.tree.ArrayDecl.{ArrayDecl}
use Rattle.job_tree.specs.declared.tree.Block.{Block, roll-Block}
use Rattle.job_tree.specs.declared.tree.PartDecl.{PartDecl}
use Rattle.job_tree.specs.declared.tree.StepBody.{StepBody}
use Rattle.job_tree.specs.declared.tree.StepBody.TheVariants as bodies
use Rattle.job_tree.specs.declared.tree.StepDecl.{StepDecl}
use Rattle.job_tree.specs.declared.tree.StmtDecl.{StmtDecl, roll-StmtDecl}
use Rattle.job_tree.specs.declared.tree.StmtDecl.TheOpen.{Block-F, StmtDecl-F}
use Rattle.job_tree.specs.declared.tree.StmtDecl.TheFolds.{fold-roll-Block, fold-roll-StmtDecl, map-StmtDecl, ind-Block}
use Rattle.job_rules.specs.declared.tables.JobNames.{JobNames}
use Rattle.job_rules.specs.Costs as t
use Rattle.job_rules.specs.Names.{Known, bytes_at, lookup, names_listed}
use Rattle.job_rules.specs.PlannedArrays.{arrays_from, size_planned}
use Rattle.job_rules.specs.PlannedExpressions.{place_planned, value_planned, values_planned}
use Rattle.job_rules.specs.PlannedNames.{entry_meant, member, range_or_none, reduction_meant, state_range}
use Rattle.job_rules.specs.Numbers.{narrow8, narrow32, signed64}
use Rattle.job_rules.specs.PlannedStatements.{Within, assigned, block_planned, block_step, each_planned, stmt_planned, stmt_step}
use Rattle.job_rules.specs.PlannedSteps.{body_planned, part_planned, step_planned}
use Rattle.job_rules.specs.Tables.{table_at}

set_costs : (cell : ℕ) (value : Expr) → p.stmt_cost (stmts.Set cell value) ≡ 1
set_costs cell value = ap p.stmt_cost (sym (stmts.rolls-Set cell value)) ∙ fold-roll-Stmt ℕ p.cost_step (Stmt-F.Set cell value)

set_at_costs : (at cells : ℕ) (place value : Expr) → p.stmt_cost (stmts.SetAt at cells place value) ≡ 1
set_at_costs at cells place value = ap p.stmt_cost (sym (stmts.rolls-SetAt at cells place value)) ∙ fold-roll-Stmt ℕ p.cost_step (Stmt-F.SetAt at cells place value)

assigned_costs : (range : Range) (place : Option Expr) (value : Expr) → p.stmt_cost (assigned range place value) ≡ 1
assigned_costs range None value = set_costs range.at value
assigned_costs range (Some place) value = set_at_costs range.at range.count place value

if_costs : (test : Expr) (a b : List Stmt) → p.stmt_cost (stmts.If test a b) ≡ p.sum_from (p.sum_from 1 (map p.stmt_cost a)) (map p.stmt_cost b)
if_costs test a b = ap p.stmt_cost (sym (stmts.rolls-If test a b)) ∙ fold-roll-Stmt ℕ p.cost_step (Stmt-F.If test a b)

abbrev loop_cost : ℤ → ℤ → List ℕ → ℕ
loop_cost low high block = p.capped (p.capped (p.numbers_below (high -ℤ low) * p.sum_from 1 block) + 1)

for_costs : (slot : ℕ) (low high : ℤ) (block : List Stmt) → p.stmt_cost (stmts.For slot low high block) ≡ loop_cost low high (map p.stmt_cost block)
for_costs slot low high block = ap p.stmt_cost (sym (stmts.rolls-For slot low high block)) ∙ fold-roll-Stmt ℕ p.cost_step (Stmt-F.For slot low high block)

send_costs : (entry : EntryId) (values : List Expr) → p.stmt_cost (stmts.Send entry values) ≡ 1
send_costs entry values = ap p.stmt_cost (sym (stmts.rolls-Send entry values)) ∙ fold-roll-Stmt ℕ p.cost_step (Stmt-F.Send entry values)

contribute_costs : (reduction : ReductionId) (value : Expr) → p.stmt_cost (stmts.Contribute reduction value) ≡ 1
contribute_costs reduction value = ap p.stmt_cost (sym (stmts.rolls-Contribute reduction value)) ∙ fold-roll-Stmt ℕ p.cost_step (Stmt-F.Contribute reduction value)

module _ (text : List ℕ) (names : JobNames) (table : List Known) where
  module _ (params : List Span) where
    abbrev CostsStmt : StmtDecl → Type 0
    CostsStmt s = (loops : List Span) → p.stmt_cost (stmt_planned text names table params s loops) ≡ t.stmt_cost s

    abbrev CostsBlock : Block → Type 0
    CostsBlock b = (loops : List Span) → map p.stmt_cost (block_planned text names table params b loops) ≡ t.block_costs b

    abbrev Stmts : Type 0
    Stmts = (s : StmtDecl) × CostsStmt s

    abbrev Blocks : Type 0
    Blocks = (b : Block) × CostsBlock b

    abbrev StmtLayer : StmtDecl-F StmtDecl Block → Type 0
    StmtLayer x = (loops : List Span) →
        p.stmt_cost (stmt_step text names table params (map-StmtDecl StmtDecl Block (Within Stmt) (Within (List Stmt)) (stmt_planned text names table params) (block_planned text names table params) x) loops)
        ≡ t.cost_step (map-StmtDecl StmtDecl Block ℕ (List ℕ) t.stmt_cost t.block_costs x)

    abbrev BlockLayer : Block-F StmtDecl Block → Type 0
    BlockLayer x = (loops : List Span) → map p.stmt_cost (each_planned (map (stmt_planned text names table params) x.statements) loops) ≡ map t.stmt_cost x.statements

    abbrev block_plan : Blocks → List Span → List Stmt
    block_plan b loops = block_planned text names table params b.0 loops

    stmt_layer : (y : StmtDecl-F Stmts Blocks) → StmtLayer (map-StmtDecl Stmts Blocks StmtDecl Block (λ s. s.0) (λ b. b.0) y)
    stmt_layer (StmtDecl-F.Assign target index value) loops =
        assigned_costs (range_or_none (state_range text table target)) (place_planned text table params loops index) (value_planned text table params loops value)
    stmt_layer (StmtDecl-F.If at test block None) loops =
        if_costs (value_planned text table params loops test) (block_plan block loops) [] ∙ ap (λ ns. p.sum_from 1 ns) (block.1 loops)
    stmt_layer (StmtDecl-F.If at test block (Some other)) loops =
        if_costs (value_planned text table params loops test) (block_plan block loops) (block_plan other loops)
        ∙ ap (λ ns. p.sum_from (p.sum_from 1 ns) (map p.stmt_cost (block_plan other loops))) (block.1 loops)
        ∙ ap (λ ns. p.sum_from (p.sum_from 1 (t.block_costs block.0)) ns) (other.1 loops)
    stmt_layer (StmtDecl-F.For at name low high block) loops =
        for_costs (narrow8 (length loops)) (signed64 low) (signed64 high) (block_plan block (loops ++ name ∷ []))
        ∙ ap (λ ns. loop_cost (signed64 low) (signed64 high) ns) (block.1 (loops ++ name ∷ []))
    stmt_layer (StmtDecl-F.Send at array entry values) loops =
        send_costs (entry_meant (member text names array entry)) (values_planned text table params loops values)
    stmt_layer (StmtDecl-F.Contribute at name value) loops =
        contribute_costs (reduction_meant (lookup table (bytes_at text name))) (value_planned text table params loops value)

    each_costs : (xs : List Stmts) (loops : List Span) →
        map p.stmt_cost (each_planned (map (stmt_planned text names table params) (map (λ s. s.0) xs)) loops) ≡ map t.stmt_cost (map (λ s. s.0) xs)
    each_costs [] loops = refl
    each_costs (x ∷ xs) loops =
        ap (λ n. n ∷ map p.stmt_cost (each_planned (map (stmt_planned text names table params) (map (λ s. s.0) xs)) loops)) (x.1 loops)
        ∙ ap (λ ns. t.stmt_cost x.0 ∷ ns) (each_costs xs loops)

    whole_stmt : (x : StmtDecl-F StmtDecl Block) → StmtLayer x → CostsStmt (roll-StmtDecl x)
    whole_stmt x h loops =
        ap (λ (m : Within Stmt). p.stmt_cost (m loops)) (fold-roll-StmtDecl (Within Stmt) (Within (List Stmt)) (stmt_step text names table params) (block_step text names table params) x)
        ∙ h loops ∙ sym (fold-roll-StmtDecl ℕ (List ℕ) t.cost_step t.costs_step x)

    whole_block : (x : Block-F StmtDecl Block) → BlockLayer x → CostsBlock (roll-Block x)
    whole_block x h loops =
        ap (λ (m : Within (List Stmt)). map p.stmt_cost (m loops)) (fold-roll-Block (Within Stmt) (Within (List Stmt)) (stmt_step text names table params) (block_step text names table params) x)
        ∙ h loops ∙ sym (fold-roll-Block ℕ (List ℕ) t.cost_step t.costs_step x)

    block_costs : (b : Block) → CostsBlock b
    block_costs = ind-Block CostsStmt CostsBlock
        (λ x y is. whole_stmt x (subst StmtLayer is (stmt_layer y)))
        (λ x y is. whole_block x (subst BlockLayer is (each_costs y.statements)))

  -- ---- steps

  parts_cost : (total : ℕ) (parts : List PartDecl) → p.parts_cost total (map (part_planned text names table) parts) ≡ t.parts_cost total parts
  parts_cost total [] = refl
  parts_cost total (part ∷ more) =
      ap (λ ns. p.parts_cost (p.sum_from total ns) (map (part_planned text names table) more)) (block_costs (names_listed part.names) part.block [])
      ∙ parts_cost (p.sum_from total (t.block_costs part.block)) more

  body_cost : (b : StepBody) → p.parts_cost 0 (body_planned text names table b) ≡ t.body_cost b
  body_cost (bodies.Block block) = ap (λ ns. p.sum_from 0 ns) (block_costs [] block [])
  body_cost (bodies.Part part) = ap (λ ns. p.sum_from 0 ns) (block_costs (names_listed part.names) part.block [])
  body_cost (bodies.Overlap at parts) = parts_cost 0 parts

  step_cost : (s : StepDecl) → p.step_cost (step_planned text names table s) ≡ t.step_cost s
  step_cost s = body_cost s.body

  steps_cost : (steps : List StepDecl) →
      list_all (λ step. nat_le (p.step_cost step) 1000000) (map (step_planned text names table) steps) ≡ list_all (λ s. nat_le (t.step_cost s) 1000000) steps
  steps_cost [] = refl
  steps_cost (s ∷ more) =
      ap (λ n. nat_le n 1000000 && list_all (λ step. nat_le (p.step_cost step) 1000000) (map (step_planned text names table) more)) (step_cost s)
      ∙ ap (λ b. nat_le (t.step_cost s) 1000000 && b) (steps_cost more)

-- no step of the array costs too much
abbrev pub costs_little : ArrayDecl → Bool
costs_little a = list_all (λ s. nat_le (t.step_cost s) 1000000) a.steps

pub arrays_cost : (text : List ℕ) (names : JobNames) (number first : ℕ) (arrays : List ArrayDecl) →
    p.costs_hold (arrays_from text names number first arrays) ≡ list_all costs_little arrays
unfolding p.costs_hold
arrays_cost text names number first [] = refl
arrays_cost text names number first (a ∷ more) =
    let next = narrow32 (first + size_planned a.sizes) in
    ap (λ b. b && p.costs_hold (arrays_from text names (suc number) next more)) (steps_cost text names (table_at names number) a.steps)
    ∙ ap (λ b. costs_little a && b) (arrays_cost text names (suc number) next more)

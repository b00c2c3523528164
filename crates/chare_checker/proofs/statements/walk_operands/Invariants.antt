use Rattle.std.proofs.Common.{◌≡◌, drop, map}
use Rattle.job_rules.specs.Notes.{in_order}
use Rattle.job_rules.specs.Statements.{operand_walked}
use Rattle.chare_checker.proofs.statements.walk_operands.Given as goal

abbrev pub invariant-loop-value : goal.invariant-loop-value
invariant-loop-value l = in_order (map (operand_walked l.scope.text.now l.scope.table.now l.part l.scope.params.now l.loops) (drop l.value-index l.values)) l.notes ≡ in_order (map (operand_walked l.scope.text.now l.scope.table.now l.part l.scope.params.now l.loops) l.values) l.fn.notes

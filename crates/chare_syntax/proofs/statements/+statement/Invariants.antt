use Rattle.std.proofs.Common.{◌≡◌, ◌≤◌, length, ◌+◌, ◌*◌}
use Rattle.job_tree.specs.Readers.{many}
use Rattle.job_tree.specs.Reading.{is_stmt, stmt_with, inner}
use Rattle.job_tree.proofs.Loops.{with_front}
use Rattle.chare_syntax.proofs.statements.+statement.Given as goal

abbrev pub decreases-stmt_of : goal.decreases-stmt_of
decreases-stmt_of l = 8 * l.levels + 6

abbrev pub decreases-if_of : goal.decreases-if_of
decreases-if_of l = 8 * l.levels + 5

abbrev pub decreases-for_of : goal.decreases-for_of
decreases-for_of l = 8 * l.levels + 4

abbrev pub decreases-else_of : goal.decreases-else_of
decreases-else_of l = 8 * l.levels + 3

abbrev pub decreases-block_of : goal.decreases-block_of
decreases-block_of l = 8 * l.levels + 2

abbrev pub decreases-deeper_statements_of : goal.decreases-deeper_statements_of
decreases-deeper_statements_of l = 8 * l.levels + 1

abbrev pub decreases-statements_of : goal.decreases-statements_of
decreases-statements_of l = 8 * l.levels + 7

abbrev pub invariant-statements_of-statements : goal.invariant-statements_of-statements
invariant-statements_of-statements l = record {
  told : with_front l.statements (many is_stmt (stmt_with l.levels (inner l.levels)) l.rest) ≡ many is_stmt (stmt_with l.levels (inner l.levels)) l.tokens;
  shorter : length l.rest ≤ length l.tokens;
}

abbrev pub decreases-statements_of-statements : goal.decreases-statements_of-statements
decreases-statements_of-statements l = length l.rest

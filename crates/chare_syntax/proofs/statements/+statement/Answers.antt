use Rattle.std.proofs.Common.{arith}
use Rattle.job_tree.specs.Readers.{many}
use Rattle.job_tree.specs.Reading.{is_stmt, stmt_with, inner}
use Rattle.job_tree.proofs.Loops.{loop_next}
use Rattle.job_tree.proofs.OfStatements.{stmt_shrinks}
use Rattle.chare_syntax.proofs.statements.+statement.Goals as goal

pub statements_of-statements-preserved : goal.statements_of-statements-preserved
statements_of-statements-preserved t c = record {
  told = loop_next is_stmt (stmt_with c.args.levels (inner c.args.levels)) (stmt_shrinks c.args.levels) c.statements.statements c.push.new.self c.statements.rest.now c.in_ok-statement.statement c.in_ok-statement.after.now
      (many is_stmt (stmt_with c.args.levels (inner c.args.levels)) c.args.tokens.now) c.statements-test.ensures c.in_ok-statement.ensures.exact c.in_ok-push.ensures.ok c.statements.invariant.told;
  shorter = omega (arith, c.in_ok-statement.ensures.shorter);
}

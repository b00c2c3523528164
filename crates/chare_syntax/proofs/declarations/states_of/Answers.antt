use Rattle.std.proofs.Common.{arith}
use Rattle.job_tree.specs.declared.token.Mark.TheVariants as marks
use Rattle.job_tree.specs.Readers.{is_mark}
use Rattle.job_tree.specs.Reading.{state_at, states_at}
use Rattle.job_tree.proofs.Loops.{loop_next}
use Rattle.job_tree.proofs.OfDeclarations.{state_shrinks}
use Rattle.chare_syntax.proofs.declarations.states_of.Goals as goal

pub states-preserved : goal.states-preserved
states-preserved c = record {
  told = loop_next (is_mark marks.State) (state_at c.args.levels) (state_shrinks c.args.levels) c.states.states c.push-in-states.new.self c.states.rest.now c.in_ok-state.state c.in_ok-state.after.now (states_at c.args.levels c.args.tokens.now)
      c.states-test.ensures c.in_ok-state.ensures.exact c.in_ok-push-2.ensures.ok c.states.invariant.told;
  shorter = omega (arith, c.in_ok-state.ensures.shorter);
}

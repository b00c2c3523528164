use Rattle.std.proofs.Common.{arith}
use Rattle.job_tree.specs.Reading.{is_member, member_at, members_at}
use Rattle.job_tree.proofs.Loops.{loop_next}
use Rattle.job_tree.proofs.OfDeclarations.{member_shrinks}
use Rattle.chare_syntax.proofs.declarations.members_of.Goals as goal

pub members-preserved : goal.members-preserved
members-preserved c = record {
  told = loop_next (is_member) (member_at c.args.levels) (member_shrinks c.args.levels) c.members.members c.push.new.self c.members.rest.now c.in_ok-member.member c.in_ok-member.after.now (members_at c.args.levels c.args.tokens.now)
      c.members-test.ensures c.in_ok-member.ensures.exact c.in_ok-push.ensures.ok c.members.invariant.told;
  shorter = omega (arith, c.in_ok-member.ensures.shorter);
}

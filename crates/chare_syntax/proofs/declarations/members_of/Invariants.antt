use Rattle.std.proofs.Common.{◌≡◌, ◌≤◌, length}
use Rattle.job_tree.specs.Readers.{many}
use Rattle.job_tree.specs.Reading.{is_member, member_at, members_at}
use Rattle.job_tree.proofs.Loops.{with_front}
use Rattle.chare_syntax.proofs.declarations.members_of.Given as goal

abbrev pub invariant-members : goal.invariant-members
invariant-members l = record {
  told : with_front l.members (many (is_member) (member_at l.levels) l.rest) ≡ members_at l.levels l.tokens;
  shorter : length l.rest ≤ length l.tokens;
}

abbrev pub decreases-members : goal.decreases-members
decreases-members l = length l.rest

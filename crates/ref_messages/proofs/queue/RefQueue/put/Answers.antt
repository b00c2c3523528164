use Rattle.std.proofs.Common.{arith}
use Rattle.ref_messages.proofs.Found.{found_more}
use Rattle.ref_messages.proofs.Lawful.{bound_insert}
use Rattle.ref_messages.proofs.queue.RefQueue.put.Goals as goal

pub invariant_of-self-2 : goal.invariant_of-self-2
invariant_of-self-2 c = (c.in_ok-insert.ensures.ordered, rw c.in_ok-insert.ensures.ok (bound_insert c.self.inside.since c.self.inside.held c.args.key c.args.payload c.self.invariant.1 (omega arith)))

pub returns-clause-found : goal.returns-clause-found
returns-clause-found c = rw (← c.self.view_is, c.in_ok-insert.ensures.ok) (λ k. found_more c.args.key k c.args.payload c.self.inside.held)

use Rattle.ref_messages.proofs.Lawful.{bound_not_before}
use Rattle.ref_messages.proofs.Told.{found_not_before}
use Rattle.ref_messages.proofs.queue.RefQueue.drop_below.Goals as goal

pub invariant_of-self : goal.invariant_of-self
invariant_of-self c = (c.drop_before.ensures.ordered, rw c.drop_before.ensures.left (bound_not_before c.args.k c.self.inside.held))

pub returns-clause-found : goal.returns-clause-found
returns-clause-found c = rw (← c.self.view_is, c.drop_before.ensures.left) (λ key. found_not_before c.args.k key c.self.inside.held)

use Rattle.ref_messages.specs.Queue.{same_key}
use Rattle.ref_messages.proofs.Found.{found_less}
use Rattle.ref_messages.proofs.Lawful.{bound_remove}
use Rattle.ref_messages.proofs.queue.RefQueue.take.Goals as goal

pub invariant_of-self : goal.invariant_of-self
invariant_of-self c = (c.remove.ensures.ordered, rw c.remove.ensures.left (bound_remove c.self.inside.since (same_key c.args.key) c.self.inside.held c.self.invariant.1))

pub returns-clause-found : goal.returns-clause-found
returns-clause-found c = rw (← c.self.view_is, c.remove.ensures.left) (λ k. found_less c.args.key k c.self.inside.held c.self.invariant.0)

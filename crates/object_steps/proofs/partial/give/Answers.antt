use Rattle.object_steps.proofs.Missing.{some_left}
use Rattle.object_steps.proofs.partial.give.Goals as goal

pub overflow_sub-left : goal.overflow_sub-left
overflow_sub-left c = some_left c.args.given.now c.args.member c.args.left.now _ c.requires.within c.in-None.is c.requires.count

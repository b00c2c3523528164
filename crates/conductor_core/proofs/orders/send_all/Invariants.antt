use Rattle.std.proofs.Common.{◌≡◌, ◌++◌}
use Rattle.conductor_core.specs.Orders.{letter_of, letters_to}
use Rattle.conductor_core.proofs.orders.send_all.Given as goal

abbrev pub invariant-loop-node : goal.invariant-loop-node
invariant-loop-node l = l.out ≡ l.fn.out ++ letters_to l.replica (letter_of l.all) l.node

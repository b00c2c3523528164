use Rattle.std.proofs.Common.{length-drop, ap, arith}
use Rattle.std.specs.Prelude.{length}
use Rattle.pup_state.proofs.unpack.cells_in.Goals as goal

pub numbers_in-requires : goal.numbers_in-requires
numbers_in-requires c = omega (arith, simp length-drop at (ap length c.behind.ensures))

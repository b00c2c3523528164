use Rattle.std.proofs.Common.{◌≡◌, drop}
use Rattle.chare_base.specs.Total.{joined_to}
use Rattle.object_steps.specs.Partial.{total_of, values}
use Rattle.object_steps.proofs.partial.total_of.Given as goal

abbrev pub invariant-loop-value : goal.invariant-loop-value
invariant-loop-value l = joined_to l.how l.total (values (drop l.value-index l.given)) ≡ total_of l.how l.given

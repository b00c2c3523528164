use Rattle.std.proofs.Common.{◌≡◌, drop}
use Rattle.conductor_core.specs.Verdicts.{least_difference, least_from}
use Rattle.conductor_core.proofs.verdicts.least_difference.Given as goal

-- what is left takes what was found to the least of all
abbrev pub invariant-loop-verdict : goal.invariant-loop-verdict
invariant-loop-verdict l = least_from l.least (drop l.verdict-index l.verdicts) ≡ least_difference l.verdicts

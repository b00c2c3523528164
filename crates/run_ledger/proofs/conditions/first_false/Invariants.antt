use Rattle.std.proofs.Common.{◌≡◌, ◌+◌, drop}
use Rattle.run_ledger.specs.Conditions.{first_false}
use Rattle.run_ledger.proofs.conditions.first_false.Given as goal

-- it is among those that are left
abbrev pub invariant-loop-i : goal.invariant-loop-i
invariant-loop-i l = first_false (l.i + 1) (drop l.i l.conditions) ≡ first_false 1 l.conditions

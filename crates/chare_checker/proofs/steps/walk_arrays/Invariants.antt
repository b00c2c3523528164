use Rattle.std.proofs.Common.{◌≡◌, drop}
use Rattle.job_rules.specs.Steps.{arrays_walked}
use Rattle.chare_checker.proofs.steps.walk_arrays.Given as goal

abbrev pub invariant-loop-number : goal.invariant-loop-number
invariant-loop-number l = arrays_walked l.text l.names l.number (drop l.number l.arrays) l.notes ≡ arrays_walked l.text l.names 0 l.arrays l.fn.notes

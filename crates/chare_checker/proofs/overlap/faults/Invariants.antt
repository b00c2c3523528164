use Rattle.std.proofs.Common.{◌≡◌, drop}
use Rattle.job_rules.specs.Faults.{first_of}
use Rattle.job_rules.specs.Overlap.{use_fault}
use Rattle.chare_checker.proofs.overlap.faults.Given as goal

abbrev pub invariant-loop-state_use : goal.invariant-loop-state_use
invariant-loop-state_use l = first_of (use_fault l.uses) l.found (drop l.state_use-index l.uses) ≡ first_of (use_fault l.uses) l.fn.found l.uses

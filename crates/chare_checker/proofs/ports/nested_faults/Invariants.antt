use Rattle.std.proofs.Common.{◌≡◌, drop}
use Rattle.job_rules.specs.Faults.{first_of}
use Rattle.job_rules.specs.Ports.{nested_fault, uses_of}
use Rattle.chare_checker.proofs.ports.nested_faults.Given as goal

abbrev pub invariant-loop-send : goal.invariant-loop-send
invariant-loop-send l = first_of (nested_fault l.declared) l.found (uses_of l.port (drop l.send-index l.sent)) ≡ first_of (nested_fault l.declared) l.fn.found (uses_of l.port l.sent)

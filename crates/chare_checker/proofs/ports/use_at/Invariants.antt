use Rattle.std.proofs.Common.{◌≡◌, drop, slice_get}
use Rattle.job_rules.specs.Ports.{uses_of}
use Rattle.chare_checker.proofs.ports.use_at.Given as goal

abbrev pub invariant-loop-port_use : goal.invariant-loop-port_use
invariant-loop-port_use l = slice_get (uses_of l.port (drop l.port_use-index l.uses)) l.left ≡ slice_get (uses_of l.port l.uses) l.before

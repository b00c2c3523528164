use Rattle.std.proofs.Common.{◌≡◌, drop}
use Rattle.job_rules.specs.Tables.{ports_named}
use Rattle.chare_checker.proofs.tables.name_ports.Given as goal

abbrev pub invariant-loop-member : goal.invariant-loop-member
invariant-loop-member l = ports_named l.text l.arrays l.counts l.names (drop l.member-index l.members) ≡ ports_named l.text l.arrays l.fn.counts l.fn.names l.members

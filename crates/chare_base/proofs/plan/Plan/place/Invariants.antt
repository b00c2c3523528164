use Rattle.std.proofs.Common.{◌≡◌, drop}
use Rattle.chare_base.specs.Elements.{place_in, place_of}
use Rattle.chare_base.proofs.plan.Plan.place.Given as goal

abbrev pub invariant-loop-number : goal.invariant-loop-number
invariant-loop-number l = place_in l.number (drop l.number l.arrays) l.e.0 ≡ place_of l.self l.e.0

use Rattle.std.proofs.Common.{◌≡◌, ◌-◌, ◌≤◌, ◌++◌, length}
use Rattle.chare_base.specs.Elements.{elements}
use Rattle.pup_state.specs.Reading.{sizes_from, states_from}
use Rattle.pup_state.proofs.unpack.states.Given as goal

-- the states that are left go behind those that were read, and their bytes are there
abbrev pub invariant-loop-e : goal.invariant-loop-e
invariant-loop-e l = record {
  told : l.all.items ++ states_from l.plan (elements l.plan - l.e) l.e l.rest ≡ states_from l.plan (elements l.plan) 0 l.records;
  room : sizes_from l.plan (elements l.plan - l.e) l.e ≤ length l.rest;
}

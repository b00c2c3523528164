use Rattle.std.proofs.Common.{◌≡◌, ◌+◌, ◌-◌, length, None}
use Rattle.chare_base.specs.Elements.{elements}
use Rattle.pup_state.specs.Reading.{faults_from, sizes_from}
use Rattle.pup_state.proofs.unpack.records_fault.Given as goal

-- what is wrong with what is left is what is wrong with all of it
abbrev pub invariant-loop-e : goal.invariant-loop-e
invariant-loop-e l = record {
  told : faults_from l.plan (elements l.plan - l.e) l.e l.first l.at l.rest ≡ faults_from l.plan (elements l.plan) 0 None 8 l.records;
  sizes : sizes_from l.plan (elements l.plan) 0 + length l.rest ≡ sizes_from l.plan (elements l.plan - l.e) l.e + length l.records;
  place : l.at + length l.rest ≡ 8 + length l.records;
}

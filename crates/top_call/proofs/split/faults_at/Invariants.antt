use Rattle.std.proofs.Common.{◌≡◌, ◌+◌, length}
use Rattle.top_call.proofs.Lines.{on}
use Rattle.top_call.specs.Split.{faults_at}
use Rattle.top_call.proofs.split.faults_at.Given as goal

abbrev pub invariant-loop-end : goal.invariant-loop-end
invariant-loop-end l = record {
  so_far : faults_at l.input ≡ on l.at (faults_at l.rest);
  place : l.at + length l.rest ≡ length l.input;
}

abbrev pub decreases-loop-end : goal.decreases-loop-end
decreases-loop-end l = length l.rest

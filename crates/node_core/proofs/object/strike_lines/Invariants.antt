use Rattle.std.proofs.Common.{◌≡◌, drop, None}
use Rattle.chare_base.specs.declared.plan.Plan.{Plan}
use Rattle.fault_script.specs.Lines.{faults_of, flips_in}
use Rattle.object_steps.specs.Laws.{struck_by}
use Rattle.object_steps.specs.Objects.{Fits}
use Rattle.node_core.proofs.object.strike_lines.Given as goal

abbrev pub invariant-loop-line : goal.invariant-loop-line
invariant-loop-line l = record {
  told : struck_by (flips_in (faults_of (drop l.line-index l.lines)) l.left) l.object ≡ struck_by (flips_in (faults_of l.lines) l.set) l.fn.object;
  top : l.object.step ≡ None;
  fits : (p : Plan) → Fits p l.fn.object → Fits p l.object;
}

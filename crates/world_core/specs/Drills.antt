-- The world that a drill reaches.
use Rattle.std.specs.Prelude.{ℕ, ◌≤◌, List, length}
use Rattle.chare_base.specs.declared.options.Options.{Options}
use Rattle.chare_base.specs.declared.plan.Plan.{Plan}
use Rattle.chare_base.specs.Elements.{elements}
use Rattle.chare_base.specs.Placing.{block_nodes}
use Rattle.fault_script.specs.declared.fault.Fault.{Fault}
use Rattle.fault_script.specs.declared.fault.FaultLine.{FaultLine}
use Rattle.fault_script.specs.Lines.{faults_of}
use Rattle.world_core.specs.Bounds.{capped, turns_bound}
use Rattle.world_core.specs.Sound.{NoneBegun}
use Rattle.world_core.specs.Steps.{setting}
use Rattle.world_core.specs.Worlds.{Setting, WorldState, opening_chooser, opening_world, picked, reached}

-- a drill's elements are in blocks
abbrev pub drill_setting : Plan → List Fault → Options → Setting
drill_setting p script o = setting p script (block_nodes (elements p) o.nodes) o.nodes

abbrev pub scheduled : Setting → Options → ℕ → ℕ → WorldState
scheduled s o turns schedule = reached s (opening_world s o) (picked s turns (opening_chooser s.nodes schedule) (opening_world s o))

-- The world that a schedule reaches by at most as many events as the bound on turns allows.
unfoldable pub drilled : Plan → List FaultLine → Options → ℕ → WorldState
drilled p script o schedule = scheduled (drill_setting p (faults_of script) o) o (capped (turns_bound p (length script) o.nodes)) schedule

-- In each world of a drill, while an iteration is agreed no element has begun it.
abbrev pub DrillsWait : Type 0
DrillsWait = (p : Plan) (script : List Fault) (o : Options) (schedule turns : ℕ) → 1 ≤ o.nodes → o.nodes ≤ elements p → o.nodes ≤ 32 → NoneBegun (scheduled (drill_setting p script o) o turns schedule)

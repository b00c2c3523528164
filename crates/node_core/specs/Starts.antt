-- A slot's node at the opening.
use Rattle.std.specs.Prelude.{ℕ, Bool, false, ◌+◌, ◌*◌, ◌/◌, ◌%◌, ◌==◌, ◌&&◌, if◌then◌else◌, List, [], ◌∷◌, Some, None}
use Rattle.chare_base.specs.declared.plan.Plan.{Plan}
use Rattle.chare_base.specs.declared.slots.LineSet.{LineSet}
use Rattle.chare_base.specs.declared.slots.SlotId.{SlotId}
use Rattle.chare_base.specs.Placing.{members}
use Rattle.chare_eval.specs.Opening.{start_of}
use Rattle.fault_script.specs.declared.fault.Fault.{Fault}
use Rattle.fault_script.specs.declared.fault.Fault.TheVariants as faults
use Rattle.letter_post.specs.declared.stamp.Stamp.{Stamp}
use Rattle.object_steps.specs.Objects.{Progress, started}
use Rattle.node_core.specs.Nodes.{Body, NodeState, piece_of}
use Rattle.node_core.specs.Rosters.{roster_of}

abbrev pub flips_replica : ℕ → Fault → Bool
flips_replica r (faults.Flip replica element cell mask at) = replica == r
flips_replica r (faults.Crash slot at) = false

-- those lines of a set that are flips of a replica
abbrev pub replica_flips : ℕ → List Fault → ℕ → ℕ
replica_flips r [] set = 0
replica_flips r (f ∷ more) set = (if set % 2 == 1 && flips_replica r f then 1 else 0) + 2 * replica_flips r more (set / 2)

-- the objects of these elements
abbrev pub starts : Plan → List ℕ → List Progress
starts p [] = []
starts p (e ∷ more) = started p e (start_of p e) 0 ∷ starts p more

abbrev pub opening_stamp : List Fault → SlotId → LineSet → Stamp
opening_stamp script slot live = record { replica = slot.replica; epoch = 0; lines = record { 0 = replica_flips slot.replica script live.0 } }

abbrev pub opening_body : Plan → List Progress → ℕ → LineSet → Body
opening_body p objects node live = record {
  objects = objects;
  gatherings = [];
  totals = [];
  base = piece_of p 0 node objects;
  fresh = None;
  other = None;
  live = live;
  loan = None;
  waits = false;
}

-- The node of a slot, where these fault lines are live.
unfoldable pub start_state : Plan → List Fault → List ℕ → SlotId → LineSet → NodeState
start_state p script place slot live = record {
  slot = slot;
  last = record { stamp = opening_stamp script slot live; base = 0 };
  roster = roster_of p place slot.node;
  body = Some (opening_body p (starts p (members place slot.node)) slot.node live);
  over = false;
}

-- an element is started where it lives here
abbrev pub started_if : Plan → ℕ → Bool → List Progress
started_if p e here = if here then started p e (start_of p e) 0 ∷ [] else []

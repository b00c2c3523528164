-- What is noted while a tree is walked.
use Rattle.std.specs.Prelude.{List, [], ◌∷◌, ◌++◌}
use Rattle.job_rules.specs.declared.notes.Notes.{Notes}
use Rattle.job_rules.specs.declared.notes.PortUse.{PortUse}
use Rattle.job_rules.specs.declared.notes.StateUse.{StateUse}
use Rattle.job_rules.specs.Faults.{Found, sooner}

-- what a node of the tree adds to the notes
abbrev pub Walk : Type 0
Walk = Notes → Notes

-- nodes one after another
abbrev pub in_order : List Walk → Walk
in_order [] n = n
in_order (w ∷ more) n = in_order more (w n)

-- a fault, if there is one
abbrev pub noted : Found → Walk
noted fault n = record { found = sooner n.found fault; uses = n.uses; sent = n.sent; received = n.received }

abbrev pub use_noted : StateUse → Walk
use_noted u n = record { found = n.found; uses = n.uses ++ u ∷ []; sent = n.sent; received = n.received }

abbrev pub sent_noted : PortUse → Walk
sent_noted p n = record { found = n.found; uses = n.uses; sent = n.sent ++ p ∷ []; received = n.received }

abbrev pub received_noted : PortUse → Walk
received_noted p n = record { found = n.found; uses = n.uses; sent = n.sent; received = n.received ++ p ∷ [] }

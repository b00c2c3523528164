use Rattle.iteration_agree.proofs.Changing.{each_slot_moves, notes_leave, others_stand, rounds_counted, slots_leave}
use Rattle.iteration_agree.proofs.laws.moves_are_local.Goals as goal

pub returns-clause-slot : goal.returns-clause-slot
returns-clause-slot c = each_slot_moves

pub returns-clause-others : goal.returns-clause-others
returns-clause-others c = others_stand

pub returns-clause-round : goal.returns-clause-round
returns-clause-round c = slots_leave

pub returns-clause-notes : goal.returns-clause-notes
returns-clause-notes c = notes_leave

pub returns-clause-number : goal.returns-clause-number
returns-clause-number c = rounds_counted

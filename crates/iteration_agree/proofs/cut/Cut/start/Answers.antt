use Rattle.std.proofs.Common.{ap, ◌∙◌}
use Rattle.std.specs.Prelude.{◌++◌, replicate}
use Rattle.iteration_agree.specs.Slots.{opening_slot}
use Rattle.iteration_agree.proofs.Holding.{start_closes}
use Rattle.iteration_agree.proofs.cut.Cut.start.Goals as goal

pub invariant_of-result : goal.invariant_of-result
invariant_of-result c =
    let first = rw c.in_ok-add_slots.was at c.add_slots.ensures in
    let second = rw c.in_ok-add_slots-2.was at c.add_slots-2.ensures in
    start_closes c.args.nodes c.add_slots-2.new.slots.items c.requires
    (second ∙ ap (λ xs. xs ++ replicate c.args.nodes (opening_slot 1)) (first ∙ ap (λ xs. xs ++ replicate c.args.nodes (opening_slot 0)) c.new-slots.ensures.items))

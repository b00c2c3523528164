use Rattle.std.proofs.Common.{◌≡◌, ◌∙◌, sym, ap, Some, Bor}
use Rattle.std.specs.Option.{option_map}
use Rattle.chare_base.specs.declared.plan.Array.{Array}
use Rattle.chare_base.specs.declared.plan.State.{State}
use Rattle.fault_script.specs.Meaning.{array_called, state_called}
use Rattle.fault_script.proofs.Placed.{array_in, elements_small, cells_small}
use Rattle.fault_script.proofs.meaning.flip_fault.Goals as goal

pub flipped-requires-clause-element : goal.flipped-requires-clause-element
flipped-requires-clause-element c =
    let found : array_called c.args.flip.now.element.array.now c.args.plan.now.arrays ≡ Some c.in-Some.array.now =
    ap (array_called c.args.flip.now.element.array.now) (sym c.as_slice.ensures) ∙ sym c.array_called.ensures ∙ ap (option_map (λ (a : Bor Array). a.now)) c.in-Some.is in
    elements_small c.args.plan.now c.in-Some.array.now (array_in c.args.plan.now c.args.flip.now.element.array.now c.in-Some.array.now found)

pub flipped-requires-clause-cell : goal.flipped-requires-clause-cell
flipped-requires-clause-cell c =
    let found : array_called c.args.flip.now.element.array.now c.args.plan.now.arrays ≡ Some c.in-Some.array.now =
    ap (array_called c.args.flip.now.element.array.now) (sym c.as_slice.ensures) ∙ sym c.array_called.ensures ∙ ap (option_map (λ (a : Bor Array). a.now)) c.in-Some.is in
    let state : state_called c.args.flip.now.cell.state.now c.in-Some.array.now.states ≡ Some c.in-Some-state_called.state.now =
    ap (state_called c.args.flip.now.cell.state.now) (sym c.as_slice-2.ensures) ∙ sym c.state_called.ensures ∙ ap (option_map (λ (s : Bor State). s.now)) c.in-Some-state_called.is in
    cells_small c.args.plan.now c.in-Some.array.now (array_in c.args.plan.now c.args.flip.now.element.array.now c.in-Some.array.now found) c.args.flip.now.cell.state.now c.in-Some-state_called.state.now state

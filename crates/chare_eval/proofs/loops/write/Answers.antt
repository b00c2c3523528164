use Rattle.std.proofs.Common.{◌+◌, ap, slice_set, ◌∙◌, arith, FitsSigned, rules, w64}
use Rattle.std.proofs.lemmas.Int.{to_z-of_z}
use Rattle.chare_eval.specs.Loops.{shown}
use Rattle.chare_eval.proofs.Variables.{set_at}
use Rattle.chare_eval.proofs.loops.write.Goals as goal

pub returns : goal.returns
returns c =
    let fits : FitsSigned w64 c.args.value = search rules in
    ap (shown (c.args.slot + 1)) (simp to_z-of_z at c.put-2.ensures)
    ∙ set_at c.args.slot (c.args.slot + 1) c.clear_up_to.new.numbers c.args.value (omega arith)
    ∙ ap (λ xs. slice_set xs c.args.slot c.args.value) c.clear_up_to.ensures.shown

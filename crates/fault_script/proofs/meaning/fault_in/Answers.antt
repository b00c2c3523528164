use Rattle.std.proofs.Common.{◌∙◌, sym, ap, arith, Some}
use Rattle.std.specs.Option.{option_map}
use Rattle.fault_script.specs.Forms as forms
use Rattle.fault_script.specs.Held.{crash_held, flip_held, line_held}
use Rattle.fault_script.proofs.Holding.{fault_told}
use Rattle.fault_script.proofs.meaning.fault_in.Goals as goal

pub returns-in-Some-Flip : goal.returns-in-Some-Flip
returns-in-Some-Flip c =
    c.flip_fault.ensures
    ∙ fault_told c.args.plan.now c.args.nodes c.args.text.now (Some (forms.Flip (flip_held c.in-Some-Flip.flip))) (omega arith)
    (sym (ap (option_map line_held) (c.in-Some-Flip.is ∙ ap (λ x. Some x) c.in-Some-Flip.field-0-is)) ∙ c.form_of.ensures)

pub returns-in-Some-Crash : goal.returns-in-Some-Crash
returns-in-Some-Crash c =
    c.crash_fault.ensures
    ∙ fault_told c.args.plan.now c.args.nodes c.args.text.now (Some (forms.Crash (crash_held c.in-Some-Crash.crash))) (omega arith)
    (sym (ap (option_map line_held) (c.in-Some-Crash.is ∙ ap (λ x. Some x) c.in-Some-Crash.field-0-is)) ∙ c.form_of.ensures)

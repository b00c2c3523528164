use Rattle.std.proofs.Common.{sym, ◌∙◌, ap, ◌∷◌, ℕ, List, Bor}
use Rattle.std.specs.Option.{option_map}
use Rattle.std.specs.Str.Lines.{lines}
use Rattle.fault_script.proofs.Cutting.{line_next, line_last}
use Rattle.fault_script.proofs.text.first_line.Goals as goal

pub returns-in-Some-clause-exact : goal.returns-in-Some-clause-exact
returns-in-Some-clause-exact c =
    line_next c.args.text.now c.cut.result.0.now c.in-Some.rest.now c.cut.ensures.before (sym c.cut.ensures.behind ∙ ap (option_map (λ (x : Bor (List ℕ)). x.now)) c.in-Some.is)
    ∙ ap (λ l. l ∷ lines c.in-Some.rest.now) (sym c.without_return.ensures)

pub returns-in-None-clause-exact : goal.returns-in-None-clause-exact
returns-in-None-clause-exact c =
    line_last c.args.text.now c.cut.result.0.now c.cut.ensures.before (sym c.cut.ensures.behind ∙ ap (option_map (λ (x : Bor (List ℕ)). x.now)) c.in-None.is)
    (sym c.is_empty.ensures ∙ c.if-is_empty.false)
    ∙ ap (λ r. c.cut.result.0.now ∷ lines r) (sym c.as_slice.ensures)

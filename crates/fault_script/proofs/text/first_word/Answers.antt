use Rattle.std.proofs.Common.{sym, ◌∙◌, ap, ◌∷◌, ℕ, List, Bor, Some, None}
use Rattle.std.specs.Option.{option_map}
use Rattle.fault_script.specs.Text.{words}
use Rattle.fault_script.proofs.Cutting.{no_word, no_words, word_next}
use Rattle.fault_script.proofs.text.first_word.Goals as goal

pub returns-then-is_empty : goal.returns-then-is_empty
returns-then-is_empty c = no_word c.args.line.now c.split_at.result.1.now c.spaces.result c.spaces.ensures.exact c.split_at.ensures.back (sym c.is_empty.ensures ∙ c.if-is_empty.true)

pub returns-in-Some : goal.returns-in-Some
returns-in-Some c =
    word_next c.args.line.now c.split_at.result.1.now c.spaces.result c.spaces.ensures.exact c.split_at.ensures.back c.cut.result.0.now (Some c.in-Some.rest.now) (sym c.is_empty.ensures ∙ c.if-is_empty.false)
    c.cut.ensures.before (sym (ap (option_map (λ (x : Bor (List ℕ)). x.now)) c.in-Some.is) ∙ c.cut.ensures.behind)

pub returns-in-None : goal.returns-in-None
returns-in-None c =
    word_next c.args.line.now c.split_at.result.1.now c.spaces.result c.spaces.ensures.exact c.split_at.ensures.back c.cut.result.0.now None (sym c.is_empty.ensures ∙ c.if-is_empty.false)
    c.cut.ensures.before (sym (ap (option_map (λ (x : Bor (List ℕ)). x.now)) c.in-None.is) ∙ c.cut.ensures.behind)
    ∙ ap (λ r. c.cut.result.0.now ∷ r) (sym (ap words c.as_slice.ensures ∙ no_words))

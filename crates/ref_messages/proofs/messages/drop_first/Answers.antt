use Rattle.std.proofs.Common.{◌≡◌, ◌∙◌, false, ap, rules, sym}
use Rattle.std.proofs.lemmas.Fn.{filter_same}
use Rattle.ref_messages.specs.Queue.{begins_before}
use Rattle.ref_messages.proofs.Lawful.{none_goes}
use Rattle.ref_messages.proofs.messages.drop_first.Goals as goal

pub returns-then-not-begins_early : goal.returns-then-not-begins_early
returns-then-not-begins_early c =
    let stays : begins_before c.args.k c.args.held.now.items ≡ false = sym (ap (begins_before c.args.k) c.as_slice.ensures.value) ∙ sym c.begins_early.ensures ∙ c.if-not-begins_early.true in
    sym (none_goes c.args.k c.args.held.now.items c.requires stays)

pub returns : goal.returns
returns c = filter_same _ _ _ (λ x b f' k. search rules) _ _ c.retain.ensures.filtered

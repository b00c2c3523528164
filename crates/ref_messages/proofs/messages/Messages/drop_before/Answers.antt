use Rattle.std.proofs.Common.{◌∙◌, ap, sym, subst}
use Rattle.ref_messages.specs.Queue.{not_before}
use Rattle.ref_messages.proofs.Beside.{Sorted, kept_both, sorted_ahead, sorted_behind, sorted_from}
use Rattle.ref_messages.proofs.messages.Messages.drop_before.Goals as goal

pub drop_first-requires : goal.drop_first-requires
drop_first-requires c = sorted_ahead c.self.inside.first.items c.self.inside.rest.entries c.self.invariant

pub drop_before-requires : goal.drop_before-requires
drop_before-requires c = sorted_behind c.self.inside.first.items c.self.inside.rest.entries c.self.invariant

pub invariant_of-self : goal.invariant_of-self
invariant_of-self c =
    subst Sorted (sym (kept_both c.args.k c.self.inside.first.items c.self.inside.rest.entries c.drop_first.new.held.items c.drop_before.new.held.entries c.drop_first.ensures c.drop_before.ensures.entries)) (sorted_from c.args.k _ c.self.invariant)

pub returns-clause-left : goal.returns-clause-left
returns-clause-left c =
    kept_both c.args.k c.self.inside.first.items c.self.inside.rest.entries c.drop_first.new.held.items c.drop_before.new.held.entries c.drop_first.ensures c.drop_before.ensures.entries ∙ ap (not_before c.args.k) c.self.view_is

pub returns-clause-ordered : goal.returns-clause-ordered
returns-clause-ordered c = invariant_of-self c

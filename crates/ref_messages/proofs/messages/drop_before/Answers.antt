use Rattle.std.proofs.Common.{sym, ◌∙◌}
use Rattle.ref_messages.proofs.Lawful.{none_goes}
use Rattle.ref_messages.proofs.messages.drop_before.Goals as goal

pub returns-clause-entries : goal.returns-clause-entries
returns-clause-entries c = sym (none_goes c.args.k c.entries.held.entries c.entries.invariant.1 (sym c.begins_before.ensures ∙ c.entries-test.false)) ∙ c.entries.invariant.0

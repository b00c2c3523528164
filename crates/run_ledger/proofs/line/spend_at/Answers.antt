use Rattle.std.proofs.Common.{rules, ◌≡◌, None, Some, sym, ◌∙◌}
use Rattle.run_ledger.proofs.Counts.{none_beyond, spent_here}
use Rattle.run_ledger.proofs.line.spend_at.Goals as goal

pub returns-then-at-len-clause-fewer : goal.returns-then-at-len-clause-fewer
returns-then-at-len-clause-fewer c =
    λ slot h. spent_here c.args.lines.now.items c.args.at c.index_mut.result.now slot (search rules) c.index_mut.ensures.value h

pub returns-else-at-len-clause-fewer : goal.returns-else-at-len-clause-fewer
returns-else-at-len-clause-fewer c =
    λ slot h. let q : None ≡ Some slot = sym (none_beyond c.args.lines.now.items c.args.at (search rules)) ∙ h in absurd cc

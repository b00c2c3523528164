use Rattle.run_ledger.proofs.Following.{accepts_make_the_base, accepts_rebase, adopts_rebase, crashes_keep, differs_keep, lineages_are_sets, share_the_base}
use Rattle.run_ledger.proofs.laws.lineages_follow.Goals as goal

pub returns-clause-sets : goal.returns-clause-sets
returns-clause-sets c = lineages_are_sets

pub returns-clause-bases : goal.returns-clause-bases
returns-clause-bases c = share_the_base

pub returns-clause-differs : goal.returns-clause-differs
returns-clause-differs c = differs_keep

pub returns-clause-accepts : goal.returns-clause-accepts
returns-clause-accepts c = accepts_rebase

pub returns-clause-made : goal.returns-clause-made
returns-clause-made c = accepts_make_the_base

pub returns-clause-adopts : goal.returns-clause-adopts
returns-clause-adopts c = adopts_rebase

pub returns-clause-crashes : goal.returns-clause-crashes
returns-clause-crashes c = crashes_keep

use Rattle.std.proofs.Common.{arith, ◌≡◌, ◌≤◌, List, subst, sym}
use Rattle.std.proofs.lemmas.Grind.{common_steps}
use Rattle.std.specs.Prelude.{map}
use Rattle.run_ledger.specs.declared.line.LedgerLine.{LedgerLine}
use Rattle.run_ledger.specs.Lines.{flip_spent, live_crashes}
use Rattle.run_ledger.proofs.Counts.{flips_fewer}
use Rattle.run_ledger.proofs.line.spend_flips.Goals as goal

pub returns-clause-fewer : goal.returns-clause-fewer
returns-clause-fewer c =
    let exact : c.loop-i.lines.items ≡ map (flip_spent c.args.k) c.args.lines.now.items = grind (arith, common_steps) in
    let Fewer : List LedgerLine → Type 0 = λ xs. live_crashes xs ≤ live_crashes c.args.lines.now.items in
    subst Fewer (sym exact) (flips_fewer c.args.k c.args.lines.now.items)

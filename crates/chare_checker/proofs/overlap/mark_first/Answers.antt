use Rattle.std.proofs.Common.{length, subst, sym, ap, ◌∙◌}
use Rattle.chare_checker.specs.FirstUses.{Tells, all_marked}
use Rattle.chare_checker.proofs.FirstParts.{tells}
use Rattle.chare_checker.proofs.overlap.mark_first.Goals as goal

pub returns : goal.returns
returns c =
    let filled = c.fill.ensures.after (λ y e. e) in
    let marked = c.mark_all.ensures ∙ ap (λ t. all_marked c.args.writes t c.args.uses.now) filled in
    subst (Tells c.args.writes c.args.uses.now) (sym marked) (tells c.args.writes c.args.uses.now (length c.args.table.now))

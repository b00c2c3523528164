use Rattle.std.proofs.Common.{FitsSigned, w64, rules, sym, ◌∙◌}
use Rattle.std.proofs.lemmas.Int.{to_z-of_z}
use Rattle.node_core.proofs.Counting.{kept_on, taken_out}
use Rattle.node_core.proofs.tallies.settle.Goals as goal

pub returns-then-is_some : goal.returns-then-is_some
returns-then-is_some c =
    let fits : FitsSigned w64 c.args.value = search rules in
    taken_out c.args.all.now.items c.remove.new.self.items c.args.at c.args.rank c.args.value c.index_mut.result.now c.give.new.self c.index.result.now c.whole-total.result c.requires c.index_mut.ensures.value
    (simp to_z-of_z at c.give.ensures) c.index.ensures c.whole-total.ensures (sym c.is_some.ensures ∙ c.if-is_some.true) c.remove.ensures.items

pub returns-else-is_some : goal.returns-else-is_some
returns-else-is_some c =
    let fits : FitsSigned w64 c.args.value = search rules in
    kept_on c.args.all.now.items c.args.at c.args.rank c.args.value c.index_mut.result.now c.give.new.self c.index.result.now c.whole-total.result c.requires c.index_mut.ensures.value
    (simp to_z-of_z at c.give.ensures) c.index.ensures c.whole-total.ensures (sym c.is_some.ensures ∙ c.if-is_some.false)

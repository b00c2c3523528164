use Rattle.std.proofs.Common.{◌≡◌, ◌+◌, true, arith, ap, sym, ◌∙◌}
use Rattle.std.specs.Prelude.{◌&&◌, ◌==◌}
use Rattle.std.proofs.lemmas.Bool.{eqb-true}
use Rattle.chare_base.specs.declared.plan.Place.{Place}
use Rattle.node_core.proofs.Seats.{share_here, share_later}
use Rattle.node_core.proofs.Turning.{first, second}
use Rattle.node_core.proofs.roster.shares.Goals as goal

pub loop-e-preserved : goal.loop-e-preserved
loop-e-preserved g c =
    sym (share_later c.args.plan.now (g.M.Placement.place c.args.map.now) c.args.array c.args.node c.loop-e.e (c.loop-e.e + 1) c.node_of.result (omega arith) c.node_of.ensures.node
    (ap (λ (q : Place). (c.node_of.result == c.args.node) && (q.array == c.args.array)) (sym c.place.ensures) ∙ sym c.both.ensures ∙ c.if-both.false))
    ∙ c.loop-e.invariant

pub returns-then-both : goal.returns-then-both
returns-then-both g c =
    let is : ((c.node_of.result == c.args.node) && (c.place.result.array == c.args.array)) ≡ true = sym c.both.ensures ∙ c.if-both.true in
    let own : c.place.result.array ≡ c.args.array = eqb-true c.place.result.array c.args.array (second (c.node_of.result == c.args.node) (c.place.result.array == c.args.array) is) in
    sym (share_here c.args.plan.now (g.M.Placement.place c.args.map.now) c.args.array c.args.node c.loop-e.e c.node_of.result c.node_of.ensures.node
    (first (c.node_of.result == c.args.node) (c.place.result.array == c.args.array) is) (ap (λ (q : Place). q.array) (sym c.place.ensures) ∙ own))
    ∙ c.loop-e.invariant

use Rattle.std.proofs.Common.{◌+◌, ℕ, List, [], length, refl, arith, ap, sym, ◌∙◌}
use Rattle.std.specs.Prelude.{◌==◌}
use Rattle.chare_base.proofs.Facts.{place_in_range}
use Rattle.node_core.proofs.Ranking.{few_told, no_counts, ranked_length, told_next}
use Rattle.node_core.proofs.Seats.{counts_length}
use Rattle.node_core.proofs.roster.rank_all.Goals as goal

pub loop-e-init : goal.loop-e-init
loop-e-init g c =
    let none = c.requires.zero ∙ sym (no_counts c.args.plan.now (length c.args.plan.now.arrays)) in
    record {
      told = record { ranks_are = c.requires.none; counts_are = none };
      count = ap length none ∙ counts_length c.args.plan.now [] (length c.args.plan.now.arrays);
    }

pub rank_if-requires-clause-few : goal.rank_if-requires-clause-few
rank_if-requires-clause-few g c =
    let place : List ℕ = g.M.Placement.place c.args.map.now in
    let within = place_in_range c.args.plan.now c.loop-e.e (omega arith) in
    few_told c.args.plan.now place c.args.node c.loop-e.e c.loop-e.ranks.items c.loop-e.counts.items _ c.loop-e.invariant.told (omega (arith, c.requires.place)) within

pub loop-e-preserved : goal.loop-e-preserved
loop-e-preserved g c =
    let place : List ℕ = g.M.Placement.place c.args.map.now in
    let here = c.node_of.result == c.args.node in
    let within = place_in_range c.args.plan.now c.loop-e.e (omega arith) in
    let own = c.in_ok-rank_if.ensures in
    record {
      told = told_next c.args.plan.now place c.args.node c.loop-e.e (c.loop-e.e + 1) c.node_of.result here c.loop-e.ranks.items c.loop-e.counts.items c.rank_if.new.ranks.items c.rank_if.new.counts.items
          (omega arith) c.node_of.ensures.node refl within c.loop-e.invariant.told (own.ranks, own.counts);
      count = ap length own.counts ∙ ranked_length c.args.plan.now c.loop-e.e here c.loop-e.ranks.items c.loop-e.counts.items ∙ c.loop-e.invariant.count;
    }

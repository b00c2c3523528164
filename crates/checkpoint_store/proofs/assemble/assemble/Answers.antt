use Rattle.std.proofs.Common.{◌++◌, length, ap, sym, ◌∙◌, subst}
use Rattle.chare_base.specs.Placing.{Covers}
use Rattle.checkpoint_store.specs.Assembled.{merged, rests}
use Rattle.checkpoint_store.proofs.Merging.{told, zeros_count}
use Rattle.checkpoint_store.proofs.assemble.assemble.Goals as goal

pub merge-requires-clause-ends : goal.merge-requires-clause-ends
merge-requires-clause-ends g c = ap length c.in_ok-ends.ensures ∙ zeros_count c.nodes.result ∙ c.nodes.ensures.exact

pub returns-clause-exact : goal.returns-clause-exact
returns-clause-exact g c =
    told c.args.plan.now (g.M.Placement.place c.args.map.now) c.args.pieces.now c.in_ok-ends.ends.items c.from_vec-out.result c.put_head.new.out c.merge.new.out c.nodes.result c.elements.result
    (c.requires.nodes ∙ sym c.nodes.ensures.exact) c.in_ok-ends.ensures (c.from_vec-out.ensures ∙ c.in_ok-with_capacity.ensures.items) c.elements.ensures.exact c.in_ok-put_head.ensures.ok
    (c.in_ok-merge.ensures ∙ ap (λ xs. c.put_head.new.out ++ merged c.args.plan.now 0 (g.M.Placement.place c.args.map.now) (rests xs c.in_ok-ends.ends.items)) c.as_slice-pieces.ensures)

pub returns-clause-checkpoint : goal.returns-clause-checkpoint
returns-clause-checkpoint g c lines k are =
    returns-clause-exact g c
    ∙ c.pieces_make_the_checkpoint.ensures c.args.plan.now (g.M.Placement.place c.args.map.now) lines k c.args.pieces.now c.requires.place
    (subst (λ n. Covers (g.M.Placement.place c.args.map.now) n) (sym c.requires.nodes) c.nodes.ensures.covers) are

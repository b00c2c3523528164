use Rattle.std.proofs.Common.{◌≡◌, ℕ, ◌+◌, ◌<◌, ◌++◌, append_assoc, drop, length, take, ap, sym, ◌∙◌, arith, List}
use Rattle.std.proofs.lemmas.List.{length-set}
use Rattle.std.specs.Prelude.{slice_set}
use Rattle.pup_state.specs.declared.piece.Piece.{Piece}
use Rattle.checkpoint_store.specs.Assembled.{merged, rests}
use Rattle.checkpoint_store.proofs.Merging.{merge_next, set_get}
use Rattle.checkpoint_store.proofs.assemble.merge.Goals as goal

pub loop-e-preserved : goal.loop-e-preserved
loop-e-preserved g c =
    let place : List ℕ = g.M.Placement.place c.args.map.now in
    let there : c.node_of-node.result < length c.loop-e.ends.items = omega (arith, c.node_of-node.ensures.within, c.requires.ends, c.loop-e.invariant.count) in
    let here : c.node_of-node.result < length c.args.pieces.now = omega (arith, c.node_of-node.ensures.within, c.requires.nodes) in
    let rest : List ℕ = merged c.args.plan.now (c.loop-e.e + 1) (drop (c.loop-e.e + 1) place) (rests c.args.pieces.now (slice_set c.loop-e.ends.items c.node_of-node.result c.take_record.new.end)) in
    let bytes_is : c.as_slice.result.now ≡ c.index-pieces-node.result.bytes = c.as_slice.ensures ∙ ap (λ (piece : Piece). piece.bytes) (sym c.index-pieces-node.is) in
    let next = merge_next c.args.plan.now place c.loop-e.e (c.loop-e.e + 1) c.node_of-node.result c.args.pieces.now c.loop-e.ends.items c.index-pieces-node.result c.index_mut.result.now c.take_record.new.end c.record_size.result
    (omega arith) c.node_of-node.ensures.node (set_get c.args.pieces.now c.node_of-node.result c.index-pieces-node.result here c.index-pieces-node.is) (set_get c.loop-e.ends.items c.node_of-node.result c.index_mut.result.now there c.index_mut.ensures.value) c.record_size.ensures
    (ap (λ xs. drop c.take_record.new.end xs) (sym bytes_is) ∙ c.in_ok-take_record.ensures.left ∙ ap (λ xs. drop c.record_size.result (drop c.index_mut.result.now xs)) bytes_is) in
    record {
      told =
          ap (λ xs. xs ++ rest) (c.in_ok-take_record.ensures.out ∙ ap (λ xs. c.loop-e.out ++ take c.record_size.result (drop c.index_mut.result.now xs)) bytes_is)
          ∙ append_assoc c.loop-e.out (take c.record_size.result (drop c.index_mut.result.now c.index-pieces-node.result.bytes)) rest
          ∙ ap (λ xs. c.loop-e.out ++ xs) (sym next)
          ∙ c.loop-e.invariant.told;
      count = length-set c.loop-e.ends.items c.node_of-node.result c.take_record.new.end ∙ c.loop-e.invariant.count;
    }

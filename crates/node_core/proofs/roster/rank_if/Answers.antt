use Rattle.std.proofs.Common.{◌≡◌, List, ℕ, arith, ap, ◌∙◌}
use Rattle.std.specs.Prelude.{slice_index_or}
use Rattle.chare_base.specs.declared.plan.Place.{Place}
use Rattle.chare_base.specs.Elements.{place_of}
use Rattle.chare_base.proofs.Facts.{elements_few}
use Rattle.node_core.proofs.roster.rank_if.Goals as goal

pub overflow_add-rank : goal.overflow_add-rank
overflow_add-rank c =
    let is : c.number_at-rank.result ≡ slice_index_or c.args.counts.now.items (place_of c.args.plan.now c.args.e.0).array 0 =
    c.number_at-rank.ensures ∙ ap (λ (l : List ℕ). slice_index_or l c.from.result 0) c.as_slice.ensures.value
    ∙ ap (λ a. slice_index_or c.args.counts.now.items a 0) (c.from.ensures ∙ ap (λ (q : Place). q.array) c.place-array.ensures) in
    let few = elements_few c.args.plan.now in
    omega (arith, is, few, c.requires.few, c.requires.element)

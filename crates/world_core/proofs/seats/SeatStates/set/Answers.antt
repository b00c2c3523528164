use Rattle.std.proofs.Common.{arith, refl}
use Rattle.world_core.specs.Steps.{is_behind, is_level}
use Rattle.world_core.proofs.Counting.{told_counts, told_less}
use Rattle.world_core.proofs.Prefixes.{clear_at, within_at}
use Rattle.world_core.proofs.seats.SeatStates.set.Goals as goal

pub recounted-self-inside-requires-clause-counted : goal.recounted-self-inside-requires-clause-counted
recounted-self-inside-requires-clause-counted c =
    told_less is_behind c.self.inside.states.items c.args.seat c.self.inside.behind c.index-old.result.now c.is_behind.result (omega (arith, c.if-seat-len.true, c.len.ensures)) c.index-old.ensures c.is_behind.ensures c.self.inside.counts_behind

pub recounted-self-inside-requires-then-seat-len-clause-counted : goal.recounted-self-inside-requires-then-seat-len-clause-counted
recounted-self-inside-requires-then-seat-len-clause-counted c =
    told_less is_level c.self.inside.states.items c.args.seat c.self.inside.level c.index-old.result.now c.is_level.result (omega (arith, c.if-seat-len.true, c.len.ensures)) c.index-old.ensures c.is_level.ensures c.self.inside.counts_level

pub invariant_of-self-inside : goal.invariant_of-self-inside
invariant_of-self-inside c = (
  clear_at c.self.inside.states.items _ c.self.inside.from c.args.seat c.searched_from-self-inside.result c.args.state c.is_able.result c.is_able.ensures c.searched_from-self-inside.ensures refl c.self.inside.clear,
  (
    within_at c.self.inside.states.items _ c.self.inside.from c.args.seat c.searched_from-self-inside.result c.args.state c.is_able.result c.searched_from-self-inside.ensures refl c.self.inside.within,
    (
      told_counts is_behind c.self.inside.states.items _ c.args.seat c.self.inside.behind c.recounted-self-inside.result c.index-old.result.now c.args.state c.is_behind.result c.is_behind-then-seat-len.result (omega (arith, c.if-seat-len.true, c.len.ensures)) c.index-old.ensures c.is_behind.ensures c.is_behind-then-seat-len.ensures c.self.inside.counts_behind c.recounted-self-inside.ensures refl,
      (told_counts is_level c.self.inside.states.items _ c.args.seat c.self.inside.level c.recounted-self-inside-then-seat-len.result c.index-old.result.now c.args.state c.is_level.result c.is_level-then-seat-len.result (omega (arith, c.if-seat-len.true, c.len.ensures)) c.index-old.ensures c.is_level.ensures c.is_level-then-seat-len.ensures c.self.inside.counts_level c.recounted-self-inside-then-seat-len.ensures refl, tt),
    ),
  ),
)

use Rattle.chare_checker.proofs.FirstParts.{written_before_next}
use Rattle.chare_checker.proofs.overlap.is_written_by.Goals as goal

pub returns-then-state_use-lt18446744073709551615 : goal.returns-then-state_use-lt18446744073709551615
returns-then-state_use-lt18446744073709551615 c =
    written_before_next c.args.state_use c.args.uses.now c.args.written.now c.requires c.if-state-written.true c.if-state_use-lt18446744073709551615.true

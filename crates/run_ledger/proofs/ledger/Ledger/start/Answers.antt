use Rattle.std.proofs.Common.{◌≤◌, length, ap, true, arith, ◌∙◌}
use Rattle.std.proofs.lemmas.List.{length-replicate}
use Rattle.run_ledger.proofs.Counts.{crashes_few}
use Rattle.run_ledger.proofs.ledger.Ledger.start.Goals as goal

pub invariant_of-result : goal.invariant_of-result
invariant_of-result c =
    let few : length c.in_ok-lines.lines.items ≤ 64 = omega (arith, c.in_ok-lines.ensures.length, c.as_slice.ensures.few, ap length c.as_slice.ensures.lines) in (
      few,
      (
        omega (arith, crashes_few c.in_ok-lines.lines.items, few),
        (
          ap length c.in_ok-first_copies.ensures ∙ length-replicate c.args.options.now.nodes true,
          (ap length c.in_ok-second_copies.ensures ∙ length-replicate c.args.options.now.nodes true, tt),
        ),
      ),
    )

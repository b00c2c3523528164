use Rattle.std.proofs.Common.{◌++◌, ap, ◌∙◌}
use Rattle.std.specs.Prelude.{codes}
use Rattle.std.specs.Fmt.{decimal}
use Rattle.run_report.specs.Lines.{plain_head}
use Rattle.run_report.proofs.Joined.{five_put}
use Rattle.run_report.proofs.lines.put_plain_head.Goals as goal

pub returns : goal.returns
unfolding plain_head
returns c =
    five_put c.args.out.now (codes "plain ") c.args.plan.now.name (codes " iterations ") (decimal c.args.plan.now.iterations) (codes "\n") c.extend.new.self c.extend-2.new.self c.put_named.new.out c.extend-3.new.self
    c.in_ok-extend.ensures.ok (c.in_ok-extend-2.ensures.ok ∙ ap (λ n. c.extend.new.self ++ n) c.as_slice.ensures) c.in_ok-put_named.ensures c.in_ok-extend-3.ensures.ok

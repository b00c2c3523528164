use Rattle.std.proofs.Common.{◌≡◌, sym, ◌∙◌}
use Rattle.buddy_compare.specs.Comparing.{verdict_of}
use Rattle.buddy_compare.proofs.Walking.{equal_exactly}
use Rattle.buddy_compare.proofs.compare.compare.Goals as goal

pub returns-clause-equal : goal.returns-clause-equal
returns-clause-equal c =
    let told : c.first_difference.result ≡ verdict_of c.args.plan.now c.args.a.now.bytes c.args.b.now.bytes = cc in
    let exactly = equal_exactly c.args.plan.now c.args.a.now.bytes c.args.b.now.bytes in
    (λ q. exactly.0 (sym told ∙ q), λ q. told ∙ exactly.1 q)

use Rattle.std.proofs.Common.{◌+◌, ◌∙◌, ap, drop, get_or, refl, length, length-drop, arith, rules}
use Rattle.node_core.proofs.Loaded.{fits_more, load_next}
use Rattle.node_core.proofs.loading.load_all.Goals as goal

pub loop-member-preserved : goal.loop-member-preserved
loop-member-preserved c =
    let p = c.args.plan.now in
    let left = c.split_at.ensures.back ∙ ap (λ n. drop n c.loop-member.rest.now) c.size_of.ensures.exact in
    record {
      told = load_next p c.args.members.now c.loop-member.member-index (c.loop-member.member-index + 1) (get_or c.args.members.now c.loop-member.member-index 0) c.args.k c.loop-member.rest.now c.split_at.result.1.now
          c.loop-member.all.items c.push.new.self.items c.in-Some.object _ (omega arith) c.loop-member-test.true refl (search rules) c.in_ok-push-in-Some.ensures.items left c.loop-member.invariant.told;
      few = omega (arith, ap length c.split_at.ensures.back, length-drop c.size_of.result c.loop-member.rest.now, c.loop-member.invariant.few);
      fits = fits_more p c.loop-member.all.items c.push.new.self.items c.in-Some.object c.in_ok-push-in-Some.ensures.items c.loop-member.invariant.fits (search rules);
    }

use Rattle.std.proofs.Common.{◌≡◌, Some, sym, ◌∙◌, arith}
use Rattle.pup_state.specs.Reading.{pack_fault}
use Rattle.pup_state.proofs.Fields.{are_bytes}
use Rattle.pup_state.proofs.Replies.{is_pack, is_shaped, reads_state, records_long, some_not_none}
use Rattle.pup_state.proofs.Whole.{cause_again, cause_of, pack_again}
use Rattle.pup_state.proofs.unpack.unpack_all.Goals as goal

pub returns-in-Some-clause-only : goal.returns-in-Some-clause-only
returns-in-Some-clause-only c = λ done all is.
    absurd (some_not_none (pack_fault c.args.plan.now c.args.bytes.now) c.in-Some.fault (sym c.in-Some.ensures.exact) (pack_again c.args.plan.now c.args.bytes.now done all is).fine)

pub returns-in-Some-clause-fault : goal.returns-in-Some-clause-fault
returns-in-Some-clause-fault c = λ fault cause.
    let e : Some c.in-Some.fault ≡ Some fault = c.in-Some.ensures.exact ∙ cause_again c.args.plan.now c.args.bytes.now fault cause in cc

pub returns-in-Some-clause-cause : goal.returns-in-Some-clause-cause
returns-in-Some-clause-cause c = λ other.
    cause_of c.args.plan.now c.args.bytes.now c.in-Some.fault (are_bytes c.args.bytes.now (λ i. omega (arith, c.type_inv.bytes i))) (sym c.in-Some.ensures.exact)

pub returns-in_err-all-clause-fault : goal.returns-in_err-all-clause-fault
returns-in_err-all-clause-fault c = λ fault cause.
    absurd (some_not_none (pack_fault c.args.plan.now c.args.bytes.now) fault (cause_again c.args.plan.now c.args.bytes.now fault cause) (sym c.in_default.ensures.exact))

pub u64_at-requires : goal.u64_at-requires
u64_at-requires c = records_long c.args.plan.now c.args.bytes.now c.behind-records.result.now c.in_default.ensures.long c.behind-records.ensures

pub returns-clause-ok : goal.returns-clause-ok
returns-clause-ok c =
    is_pack c.args.plan.now c.args.bytes.now c.behind-records.result.now c.behind-records.ensures c.u64_at.result c.from_vec.result c.in_ok-all.all.items c.u64_at.ensures c.from_vec.ensures c.in_ok-all.ensures
    (are_bytes c.args.bytes.now (λ i. omega (arith, c.type_inv.bytes i))) (sym c.in_default.ensures.exact)

pub returns-clause-shaped : goal.returns-clause-shaped
returns-clause-shaped c =
    is_shaped c.args.plan.now c.args.bytes.now c.behind-records.result.now c.behind-records.ensures c.u64_at.result c.from_vec.result c.in_ok-all.all.items c.u64_at.ensures c.from_vec.ensures c.in_ok-all.ensures
    (are_bytes c.args.bytes.now (λ i. omega (arith, c.type_inv.bytes i))) (sym c.in_default.ensures.exact)

pub returns-clause-only : goal.returns-clause-only
returns-clause-only c = λ done all is.
    reads_state c.args.plan.now c.args.bytes.now c.behind-records.result.now c.behind-records.ensures c.u64_at.result c.from_vec.result c.in_ok-all.all.items c.u64_at.ensures c.from_vec.ensures c.in_ok-all.ensures done all is

pub returns-clause-fault : goal.returns-clause-fault
returns-clause-fault c = λ fault cause.
    absurd (some_not_none (pack_fault c.args.plan.now c.args.bytes.now) fault (cause_again c.args.plan.now c.args.bytes.now fault cause) (sym c.in_default.ensures.exact))

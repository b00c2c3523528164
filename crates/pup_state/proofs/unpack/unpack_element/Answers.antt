use Rattle.std.proofs.Common.{◌≡◌, ◌+◌, None, ap, sym, arith}
use Rattle.pup_state.specs.Faults.{record_fault}
use Rattle.pup_state.specs.Spelling.{size_of}
use Rattle.pup_state.proofs.Fields.{are_bytes}
use Rattle.pup_state.proofs.Replies.{is_record, reads_record, record_fine, some_not_none}
use Rattle.pup_state.proofs.unpack.unpack_element.Goals as goal

pub returns-in-Some-clause-only : goal.returns-in-Some-clause-only
returns-in-Some-clause-only c = λ done cells next is.
    let fine = record_fine c.args.plan.now c.args.e.0 c.args.at c.args.bytes.now c.behind-rest.result.now c.behind-rest.ensures done cells next c.requires.element is in
    absurd (some_not_none (record_fault c.args.plan.now c.args.e.0 None c.args.at c.behind-rest.result.now) c.in-Some.fault (sym c.in-Some.ensures.exact) fine)

pub returns-clause-ok : goal.returns-clause-ok
returns-clause-ok c =
    let next : c.args.at + c.size_of.result ≡ c.args.at + size_of c.args.plan.now c.args.e.0 = ap (λ n. c.args.at + n) c.size_of.ensures.exact in
    is_record c.args.plan.now c.args.e.0 c.args.at c.args.bytes.now c.behind-rest.result.now c.behind-rest.ensures c.u64_at.result (c.args.at + c.size_of.result) c.in_ok-cells.cells
    (are_bytes c.args.bytes.now (λ i. omega (arith, c.type_inv.bytes i))) (sym c.in_default.ensures.exact) c.u64_at.ensures c.in_ok-cells.ensures next

pub returns-clause-only : goal.returns-clause-only
returns-clause-only c = λ done cells next is.
    let behind : c.args.at + c.size_of.result ≡ c.args.at + size_of c.args.plan.now c.args.e.0 = ap (λ n. c.args.at + n) c.size_of.ensures.exact in
    reads_record c.args.plan.now c.args.e.0 c.args.at c.args.bytes.now c.behind-rest.result.now c.behind-rest.ensures done cells next c.requires.element is
    c.u64_at.result (c.args.at + c.size_of.result) c.in_ok-cells.cells c.u64_at.ensures c.in_ok-cells.ensures behind

use Rattle.std.proofs.Common.{◌∙◌, length, sym, subst}
use Rattle.std.specs.Prelude.{IsTrue}
use Rattle.std.proofs.lemmas.Result.{err_from_is_err_and}
use Rattle.job_tree.specs.Accepted.{names_lie}
use Rattle.chare_syntax.proofs.Filled.{job_filled}
use Rattle.chare_syntax.proofs.Named.{tokens_named}
use Rattle.job_tree.proofs.Texts.{read_fault}
use Rattle.chare_syntax.proofs.parse.parse.Goals as goal

pub invariant_of-result-clause-named : goal.invariant_of-result-clause-named
invariant_of-result-clause-named c =
    subst (λ text. IsTrue (names_lie (length text) c.in_ok-job.job)) (sym c.in_ok-from_slice.ensures)
    (tokens_named c.args.text.now c.deref.result.now c.in_ok-job.job (c.deref.ensures.value ∙ c.in_ok-tokens.ensures) c.in_ok-job.ensures.found)

pub invariant_of-result-clause-filled : goal.invariant_of-result-clause-filled
invariant_of-result-clause-filled c = job_filled c.in_ok-job.job c.in_ok-job.ensures.found.filled

pub returns-in_err-job-clause-fault : goal.returns-in_err-job-clause-fault
returns-in_err-job-clause-fault c =
    let p = err_from_is_err_and c.from_residual-in_err-job.result c.from_residual-in_err-job.ensures.1 in
    rw (p.1, p.2) (read_fault c.tokens_end_once.ensures c.args.text.now c.deref.result.now c.in_err-job.field-0.0 c.if-text-gt-MAX_TEXT.false (c.deref.ensures.value ∙ c.in_ok-tokens.ensures) c.in_err-job.ensures.fault)

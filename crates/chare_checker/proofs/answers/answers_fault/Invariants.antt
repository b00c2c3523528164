use Rattle.std.proofs.Common.{◌≡◌, drop}
use Rattle.job_rules.specs.Answers.{answer_fault}
use Rattle.job_rules.specs.Faults.{first_of}
use Rattle.chare_checker.proofs.answers.answers_fault.Given as goal

abbrev pub invariant-loop-answer : goal.invariant-loop-answer
invariant-loop-answer l =
    first_of (answer_fault l.text l.names l.job.arrays) l.found (drop l.answer-index l.answer-items) ≡ first_of (answer_fault l.text l.names l.job.arrays) l.fn.found l.job.answers

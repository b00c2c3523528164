use Rattle.std.proofs.Common.{◌≡◌, ◌++◌, drop}
use Rattle.run_report.specs.Answers.{answer_lines}
use Rattle.run_report.proofs.answers.put_answers.Given as goal

-- the lines of the answers that are left go behind those that were put
abbrev pub invariant-loop-answer : goal.invariant-loop-answer
invariant-loop-answer l = l.out ++ answer_lines l.plan l.all (drop l.answer-index l.answer-items) ≡ l.fn.out ++ answer_lines l.plan l.all l.plan.answers

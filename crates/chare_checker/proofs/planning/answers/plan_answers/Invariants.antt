use Rattle.std.proofs.Common.{◌≡◌, ◌++◌, drop, map}
use Rattle.job_rules.specs.PlannedAnswers.{answer_planned}
use Rattle.chare_checker.proofs.planning.answers.plan_answers.Given as goal

abbrev pub invariant-loop-answer : goal.invariant-loop-answer
invariant-loop-answer l = l.planned ++ map (answer_planned l.text l.names l.arrays) (drop l.answer-index l.answers) ≡ map (answer_planned l.text l.names l.arrays) l.answers

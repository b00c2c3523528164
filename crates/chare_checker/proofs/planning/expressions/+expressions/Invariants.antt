use Rattle.std.proofs.Common.{◌≡◌, ◌++◌, drop, map}
use Rattle.job_rules.specs.PlannedExpressions.{conj_planned, factor_planned, term_planned, test_planned}
use Rattle.chare_checker.proofs.planning.expressions.+expressions.Given as goal

-- the plans so far, before those of what is left
abbrev pub invariant-plan_conjs-loop-conj : goal.invariant-plan_conjs-loop-conj
invariant-plan_conjs-loop-conj l =
    l.planned ++ map (conj_planned l.scope.text.now l.scope.table.now l.scope.params.now l.loops) (drop l.conj-index l.conjs) ≡ map (conj_planned l.scope.text.now l.scope.table.now l.scope.params.now l.loops) l.conjs

abbrev pub invariant-plan_tests-loop-test : goal.invariant-plan_tests-loop-test
invariant-plan_tests-loop-test l =
    l.planned ++ map (test_planned l.scope.text.now l.scope.table.now l.scope.params.now l.loops) (drop l.test-index l.tests) ≡ map (test_planned l.scope.text.now l.scope.table.now l.scope.params.now l.loops) l.tests

abbrev pub invariant-plan_terms-loop-term : goal.invariant-plan_terms-loop-term
invariant-plan_terms-loop-term l =
    l.planned ++ map (term_planned l.scope.text.now l.scope.table.now l.scope.params.now l.loops) (drop l.term-index l.terms) ≡ map (term_planned l.scope.text.now l.scope.table.now l.scope.params.now l.loops) l.terms

abbrev pub invariant-plan_factors-loop-factor : goal.invariant-plan_factors-loop-factor
invariant-plan_factors-loop-factor l =
    l.planned ++ map (factor_planned l.scope.text.now l.scope.table.now l.scope.params.now l.loops) (drop l.factor-index l.factors) ≡ map (factor_planned l.scope.text.now l.scope.table.now l.scope.params.now l.loops) l.factors

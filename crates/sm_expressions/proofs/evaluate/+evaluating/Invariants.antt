use Rattle.std.proofs.Common.{◌≡◌, ◌++◌, ◌+◌, ◌*◌, length, map, drop}
use Rattle.std.specs.Prelude.{max}
use denote.Param.Weighed.{most}
use Rattle.sm_syntax.specs.declared.expression.Expr.{size-Expr}
use Rattle.sm_syntax.specs.declared.expression.Binders.{size-Binders}
use Rattle.sm_syntax.specs.declared.expression.Test.{size-Test}
use Rattle.sm_forms.specs.Forms.{IsForm, value_at}
use Rattle.sm_expressions.specs.Sums.{tests_in, part_worths}
use Rattle.sm_syntax.specs.Expressions.{expression_of, addend_of, binding_of, test_of, addends_of, expressions_of, comparisons_of}
use Rattle.sm_meaning.specs.Scopes.{count_of}
use Rattle.sm_meaning.specs.Worths.{worth, sum_worth, indices_of, all_pass, total, plus, cases}
use Rattle.sm_meaning.specs.ExpressionTrials.{expression_tried, sum_tried, indices_tried, tests_tried, summing}
use Rattle.sm_expressions.proofs.Factors.{FactorsFrom}
use Rattle.sm_expressions.proofs.TupleSums.{summed_tried}
use Rattle.sm_expressions.proofs.evaluate.+evaluating.Given as goal

-- ---- each call goes to a part, or one step down at the same part; of two trees, the greater counts

abbrev pub decreases-expression : goal.decreases-expression
decreases-expression a = 8 * goal.size-expression a

abbrev pub decreases-addend : goal.decreases-addend
decreases-addend a = 8 * goal.size-addend a

abbrev pub decreases-product : goal.decreases-product
decreases-product a = 8 * goal.size-product a

abbrev pub decreases-factor : goal.decreases-factor
decreases-factor a = 8 * goal.size-factor a

abbrev pub decreases-number : goal.decreases-number
decreases-number a = 8 * goal.size-number a + 1

abbrev pub decreases-numbers : goal.decreases-numbers
decreases-numbers a = 8 * goal.size-numbers a + 2

abbrev pub decreases-named : goal.decreases-named
decreases-named a = 8 * goal.size-named a + 3

abbrev pub decreases-test_passes : goal.decreases-test_passes
decreases-test_passes a = 8 * goal.size-test_passes a

abbrev pub decreases-tests : goal.decreases-tests
decreases-tests a = 8 * goal.size-tests a + 3

abbrev pub decreases-tuple_added : goal.decreases-tuple_added
decreases-tuple_added a = 8 * max (size-Expr a.part.now) (most size-Test a.comparisons.now) + 4

abbrev pub decreases-summed : goal.decreases-summed
decreases-summed a = 8 * max (size-Expr a.part.now) (size-Binders a.binders.now) + 5

-- ---- what is left comes to what all comes to

abbrev pub invariant-expression-loop-more : goal.invariant-expression-loop-more
invariant-expression-loop-more l =
    (sum_tried (addends_of (map addend_of (drop l.more-index l.more-items))) l.scope l.cases.tuple (value_at l.sum) l.visited ≡ expression_tried (expression_of l.x) l.scope l.cases.tuple l.fn.visited)
    × (sum_worth (addends_of (map addend_of (drop l.more-index l.more-items))) l.scope.names l.cases.tuple (value_at l.sum) ≡ worth (expression_of l.x) l.scope.names l.cases.tuple)
    × IsForm (count_of l.scope) l.sum

abbrev pub invariant-numbers-loop-part : goal.invariant-numbers-loop-part
invariant-numbers-loop-part l =
    (indices_tried (expressions_of (map expression_of (drop l.part-index l.parts))) l.scope l.cases.tuple l.visited ≡ indices_tried (expressions_of (map expression_of l.parts)) l.scope l.cases.tuple l.fn.visited)
    × (l.numbers.items ++ indices_of (expressions_of (map expression_of (drop l.part-index l.parts))) l.scope.names l.cases.tuple ≡ indices_of (expressions_of (map expression_of l.parts)) l.scope.names l.cases.tuple)

abbrev pub invariant-tests-loop-comparison : goal.invariant-tests-loop-comparison
invariant-tests-loop-comparison l =
    (tests_tried (comparisons_of (map test_of (drop l.comparison-index l.comparisons))) l.scope l.cases.tuple l.visited ≡ tests_tried (comparisons_of (map test_of l.comparisons)) l.scope l.cases.tuple l.fn.visited)
    × (all_pass (comparisons_of (map test_of (drop l.comparison-index l.comparisons))) l.scope.names l.cases.tuple ≡ all_pass (comparisons_of (map test_of l.comparisons)) l.scope.names l.cases.tuple)

abbrev pub invariant-product-loop-other : goal.invariant-product-loop-other
invariant-product-loop-other l = FactorsFrom l.x l.other-items (drop l.other-index l.other-items) l.scope l.cases.tuple l.first l.more.items l.fn.visited l.visited

abbrev pub invariant-summed-loop-alloc : goal.invariant-summed-loop-alloc
invariant-summed-loop-alloc l =
    (summed_tried (expression_of l.part) (tests_in (binding_of l.binders)) l.scope (value_at l.sum) l.inner.to_come l.visited
    ≡ summing (binding_of l.binders) l.scope l.cases.tuple (λ c. expression_tried (expression_of l.part) l.scope c) (λ c. worth (expression_of l.part) l.scope.names c) l.fn.visited)
    × (plus (value_at l.sum) (total (part_worths (expression_of l.part) (tests_in (binding_of l.binders)) l.scope.names l.inner.to_come))
    ≡ total (map (λ c. worth (expression_of l.part) l.scope.names c) (cases (binding_of l.binders) l.scope.names l.cases.tuple)))
    × IsForm (count_of l.scope) l.sum

abbrev pub decreases-summed-loop-alloc : goal.decreases-summed-loop-alloc
decreases-summed-loop-alloc l = length l.inner.to_come

use Rattle.std.proofs.Common.{◌∷◌, [], length, map, ◌+◌, ◌*◌}
use Rattle.sm_syntax.specs.Grammar as g
use Rattle.sm_syntax.specs.Expressions.{expression_of, addend_of, factor_of, test_of}
use Rattle.sm_syntax.specs.Reading.{Leads, each}
use Rattle.sm_syntax.proofs.Lists.{addend_step, factor_step, expression_step, test_step}
use Rattle.sm_syntax.proofs.read_expression.+expression.Given as goal

abbrev pub decreases-read_expr : goal.decreases-read_expr
decreases-read_expr l = 8 * length l.reader.now.later + 6

abbrev pub decreases-read_more_terms : goal.decreases-read_more_terms
decreases-read_more_terms l = 8 * length l.reader.now.later

abbrev pub decreases-read_term : goal.decreases-read_term
decreases-read_term l = 8 * length l.reader.now.later + 5

abbrev pub decreases-read_more_factors : goal.decreases-read_more_factors
decreases-read_more_factors l = 8 * length l.reader.now.later

abbrev pub decreases-read_factor : goal.decreases-read_factor
decreases-read_factor l = 8 * length l.reader.now.later + 4

abbrev pub decreases-read_named : goal.decreases-read_named
decreases-read_named l = 8 * length l.reader.now.later + 3

abbrev pub decreases-read_indices : goal.decreases-read_indices
decreases-read_indices l = 8 * length l.reader.now.later + 1

abbrev pub decreases-read_opened_indices : goal.decreases-read_opened_indices
decreases-read_opened_indices l = 8 * length l.reader.now.later

abbrev pub decreases-read_more_exprs : goal.decreases-read_more_exprs
decreases-read_more_exprs l = 8 * length l.reader.now.later

abbrev pub decreases-read_group : goal.decreases-read_group
decreases-read_group l = 8 * length l.reader.now.later + 3

abbrev pub decreases-read_bracketed : goal.decreases-read_bracketed
decreases-read_bracketed l = 8 * length l.reader.now.later + 2

abbrev pub decreases-read_sum : goal.decreases-read_sum
decreases-read_sum l = 8 * length l.reader.now.later + 3

abbrev pub decreases-read_scope : goal.decreases-read_scope
decreases-read_scope l = 8 * length l.reader.now.later + 1

abbrev pub decreases-read_binders : goal.decreases-read_binders
decreases-read_binders l = 8 * length l.reader.now.later + 3

abbrev pub decreases-read_tests : goal.decreases-read_tests
decreases-read_tests l = 8 * length l.reader.now.later + 2

abbrev pub decreases-read_more_tests : goal.decreases-read_more_tests
decreases-read_more_tests l = 8 * length l.reader.now.later + 1

abbrev pub decreases-read_test : goal.decreases-read_test
decreases-read_test l = 8 * length l.reader.now.later + 8

abbrev pub decreases-read_comparison : goal.decreases-read_comparison
decreases-read_comparison l = 8 * length l.reader.now.later + 7

abbrev pub invariant-read_more_terms-terms : goal.invariant-read_more_terms-terms
invariant-read_more_terms-terms l = Leads l.initial.reader (g.more_terms ∷ []) (each addend_step (map addend_of l.terms)) l.reader (g.more_terms ∷ [])

abbrev pub decreases-read_more_terms-terms : goal.decreases-read_more_terms-terms
decreases-read_more_terms-terms l = length l.reader.later

abbrev pub invariant-read_more_factors-factors : goal.invariant-read_more_factors-factors
invariant-read_more_factors-factors l = Leads l.initial.reader (g.more_factors ∷ []) (each factor_step (map factor_of l.factors)) l.reader (g.more_factors ∷ [])

abbrev pub decreases-read_more_factors-factors : goal.decreases-read_more_factors-factors
decreases-read_more_factors-factors l = length l.reader.later

abbrev pub invariant-read_more_exprs-exprs : goal.invariant-read_more_exprs-exprs
invariant-read_more_exprs-exprs l = Leads l.initial.reader (g.more_exprs ∷ []) (each expression_step (map expression_of l.exprs)) l.reader (g.more_exprs ∷ [])

abbrev pub decreases-read_more_exprs-exprs : goal.decreases-read_more_exprs-exprs
decreases-read_more_exprs-exprs l = length l.reader.later

abbrev pub invariant-read_more_tests-tests : goal.invariant-read_more_tests-tests
invariant-read_more_tests-tests l = Leads l.initial.reader (g.more_tests ∷ []) (each test_step (map test_of l.tests)) l.reader (g.more_tests ∷ [])

abbrev pub decreases-read_more_tests-tests : goal.decreases-read_more_tests-tests
decreases-read_more_tests-tests l = length l.reader.later

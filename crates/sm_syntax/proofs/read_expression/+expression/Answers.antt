use Rattle.std.proofs.Common.{◌≡◌, ◌∙◌, ap, sym, refl, ◌∷◌, [], arith, map, ◌++◌, Some}
use Rattle.std.proofs.lemmas.Result.{err_from_is_err_and}
use Rattle.sm_syntax.specs.Grammar as g
use Rattle.sm_syntax.specs.Reading.{next}
use Rattle.sm_syntax.proofs.Readings.{stay, after, behind, restep, fault_at, opened_group, opened_rule, fault_after, begin, one_more, kept}
use Rattle.sm_syntax.proofs.Predictions as predict
use Rattle.std.proofs.Common.{subst}
use Rattle.sm_syntax.specs.declared.terminal.Terminal.{Terminal}
use Rattle.sm_syntax.specs.Terminals.{code_of}
use Rattle.sm_syntax.specs.Grammars.{predict as chosen_side}
use Rattle.sm_syntax.specs.Parsing.{becomes, stands_at}
use Rattle.sm_syntax.specs.Expressions as plain
use Rattle.sm_syntax.specs.Expressions.{expression_of, binding_of, factor_of, term_of, addend_of, test_of, addends_of, operands_of, expressions_of, comparisons_of}
use Rattle.sm_syntax.specs.TreeSteps.{expression_then, addends_then, comparisons_then, product_then, operand_then, operands_then, indices_then, binding_then, tests_then, comparison_then, minus_then, relation_then, more_exprs_then}
use Rattle.sm_syntax.proofs.Readings.{map_more}
use Rattle.sm_syntax.proofs.Lists.{addend_step, factor_step, expression_step, test_step, addends_each, operands_each, expressions_each, tests_each}
use Rattle.sm_syntax.proofs.read_expression.+expression.Goals as goal

pub read_test-returns-in_err-left : goal.read_test-returns-in_err-left
read_test-returns-in_err-left t c =
    let l0 = opened_rule c.args.reader.now 7 (g.expr ∷ g.relation ∷ g.expr ∷ []) c.place-place.result refl c.place-place.ensures (predict.test_any (next c.args.reader.now)) in
    let p = err_from_is_err_and c.from_residual.result c.from_residual.ensures.1 in
    rw (p.1, p.2) (fault_at c.read_expr.new.reader c.in_err-left.field-0.0 (g.expr ∷ []) (g.relation ∷ g.expr ∷ []) l0 c.in_err-left.ensures)

pub read_test-returns-in_err-parts : goal.read_test-returns-in_err-parts
read_test-returns-in_err-parts t c =
    let l0 = opened_rule c.args.reader.now 7 (g.expr ∷ g.relation ∷ g.expr ∷ []) c.place-place.result refl c.place-place.ensures (predict.test_any (next c.args.reader.now)) in
    let l1 = after l0 (behind (g.relation ∷ g.expr ∷ []) c.in_ok-left.ensures) in
    let p = err_from_is_err_and c.from_residual-in_err-parts.result c.from_residual-in_err-parts.ensures.1 in
    rw (p.1, p.2) (fault_after c.read_comparison-comparison.new.reader c.in_err-parts.field-0.0 l1 (rw c.in_err-parts.ensures.err at c.read_comparison-comparison.ensures))

pub read_test-returns : goal.read_test-returns
read_test-returns t c =
    let l0 = opened_rule c.args.reader.now 7 (g.expr ∷ g.relation ∷ g.expr ∷ []) c.place-place.result refl c.place-place.ensures (predict.test_any (next c.args.reader.now)) in
    let l1 = after l0 (behind (g.relation ∷ g.expr ∷ []) c.in_ok-left.ensures) in
    let q = c.in_ok-parts.ensures.ok in
    let l2 = after l1 (rw q.0 at c.read_comparison-comparison.ensures) in
    restep (comparison_then (test_of c.new.result))
    (λ r. ap (λ x. becomes g.test (g.expr ∷ g.relation ∷ g.expr ∷ []) ∷ stands_at c.place-place.result ∷ expression_then (expression_of x) (relation_then c.in_ok-parts.parts.1.0 (expression_then (expression_of c.in_ok-parts.parts.1.1) r))) (sym q.1) ∙ ap (λ x. comparison_then x r) (sym c.new.ensures))
    l2

pub read_comparison-returns-in_err-relation : goal.read_comparison-returns-in_err-relation
read_comparison-returns-in_err-relation t c =
    let l0 = stay (g.relation ∷ g.expr ∷ []) c.args.reader.now in
    let p = err_from_is_err_and c.from_residual.result c.from_residual.ensures.1 in
    rw (p.1, p.2) (fault_at c.read_relation.new.reader c.in_err-relation.field-0.0 (g.relation ∷ []) (g.expr ∷ []) l0 c.in_err-relation.ensures)

pub read_comparison-returns-in_err-right : goal.read_comparison-returns-in_err-right
read_comparison-returns-in_err-right t c =
    let l0 = stay (g.relation ∷ g.expr ∷ []) c.args.reader.now in
    let l1 = after l0 (behind (g.expr ∷ []) c.in_ok-relation.ensures) in
    let p = err_from_is_err_and c.from_residual-in_err-right.result c.from_residual-in_err-right.ensures.1 in
    rw (p.1, p.2) (fault_at c.read_expr.new.reader c.in_err-right.field-0.0 (g.expr ∷ []) ([]) l1 c.in_err-right.ensures)

pub read_comparison-returns : goal.read_comparison-returns
read_comparison-returns t c =
    let l0 = stay (g.relation ∷ g.expr ∷ []) c.args.reader.now in
    let l1 = after l0 (behind (g.expr ∷ []) c.in_ok-relation.ensures) in
    after l1 c.in_ok-right.ensures

pub read_binders-returns-in_err-parts : goal.read_binders-returns-in_err-parts
read_binders-returns-in_err-parts t c =
    let l0 = opened_rule c.args.reader.now 5 (g.bind ∷ g.more_binds ∷ g.tests ∷ []) c.place-place.result refl c.place-place.ensures (predict.binders_any (next c.args.reader.now)) in
    let p = err_from_is_err_and c.from_residual.result c.from_residual.ensures.1 in
    rw (p.1, p.2) (fault_at c.read.new.reader c.in_err-parts.field-0.0 (g.bind ∷ g.more_binds ∷ []) (g.tests ∷ []) l0 c.in_err-parts.ensures)

pub read_binders-returns-in_err-whole : goal.read_binders-returns-in_err-whole
read_binders-returns-in_err-whole t c =
    let l0 = opened_rule c.args.reader.now 5 (g.bind ∷ g.more_binds ∷ g.tests ∷ []) c.place-place.result refl c.place-place.ensures (predict.binders_any (next c.args.reader.now)) in
    let l1 = after l0 (behind (g.tests ∷ []) c.in_ok-parts.ensures) in
    let p = err_from_is_err_and c.from_residual-in_err-whole.result c.from_residual-in_err-whole.ensures.1 in
    rw (p.1, p.2) (fault_after c.read_tests-tests.new.reader c.in_err-whole.field-0.0 l1 (rw c.in_err-whole.ensures.err at c.read_tests-tests.ensures))

pub read_binders-returns : goal.read_binders-returns
read_binders-returns t c =
    let l0 = opened_rule c.args.reader.now 5 (g.bind ∷ g.more_binds ∷ g.tests ∷ []) c.place-place.result refl c.place-place.ensures (predict.binders_any (next c.args.reader.now)) in
    let q = c.in_ok-whole.ensures.ok in
    let l1 = after l0 (behind (g.tests ∷ []) (rw (sym q.1) at c.in_ok-parts.ensures)) in
    let l2 = after l1 (rw q.0 at c.read_tests-tests.ensures) in
    restep (binding_then (binding_of c.new.result)) (λ r. ap (λ x. binding_then x r) (sym c.new.ensures)) l2

pub read_named-returns-in_err-name : goal.read_named-returns-in_err-name
read_named-returns-in_err-name t c =
    let l0 = opened_rule c.args.reader.now 10 (g.token_name ∷ g.indices ∷ []) c.place-place.result refl c.place-place.ensures c.requires in
    let p = err_from_is_err_and c.from_residual.result c.from_residual.ensures.1 in
    rw (p.1, p.2) (fault_at c.name.new.self c.in_err-name.field-0.0 (g.token_name ∷ []) (g.indices ∷ []) l0 c.in_err-name.ensures.read)

pub read_named-returns-in_err-parts : goal.read_named-returns-in_err-parts
read_named-returns-in_err-parts t c =
    let l0 = opened_rule c.args.reader.now 10 (g.token_name ∷ g.indices ∷ []) c.place-place.result refl c.place-place.ensures c.requires in
    let l1 = after l0 (behind (g.indices ∷ []) c.in_ok-name.ensures.read) in
    let p = err_from_is_err_and c.from_residual-in_err-parts.result c.from_residual-in_err-parts.ensures.1 in
    rw (p.1, p.2) (fault_after c.read_indices-indices.new.reader c.in_err-parts.field-0.0 l1 (rw c.in_err-parts.ensures.err at c.read_indices-indices.ensures))

pub read_named-returns : goal.read_named-returns
read_named-returns t c =
    let l0 = opened_rule c.args.reader.now 10 (g.token_name ∷ g.indices ∷ []) c.place-place.result refl c.place-place.ensures c.requires in
    let q = c.in_ok-parts.ensures.ok in
    let l1 = after l0 (behind (g.indices ∷ []) (rw (sym q.1) at c.in_ok-name.ensures.read)) in
    let l2 = after l1 (rw q.0 at c.read_indices-indices.ensures) in
    restep (operand_then (factor_of c.from_name.result)) (λ r. ap (λ x. operand_then x r) (sym c.from_name.ensures)) l2

pub read_group-returns-in_err-inner : goal.read_group-returns-in_err-inner
read_group-returns-in_err-inner t c =
    let l0 = opened_rule c.args.reader.now 10 (g.token_open_round ∷ g.expr ∷ g.token_close_round ∷ []) c.place-place.result refl c.place-place.ensures c.requires in
    let p = err_from_is_err_and c.from_residual.result c.from_residual.ensures.1 in
    rw (p.1, p.2) (fault_at c.read_bracketed.new.reader c.in_err-inner.field-0.0 (g.token_open_round ∷ g.expr ∷ []) (g.token_close_round ∷ []) l0 c.in_err-inner.ensures)

pub read_group-returns-in_err-parts : goal.read_group-returns-in_err-parts
read_group-returns-in_err-parts t c =
    let l0 = opened_rule c.args.reader.now 10 (g.token_open_round ∷ g.expr ∷ g.token_close_round ∷ []) c.place-place.result refl c.place-place.ensures c.requires in
    let l1 = after l0 (behind (g.token_close_round ∷ []) c.in_ok-inner.ensures) in
    let p = err_from_is_err_and c.from_residual-in_err-parts.result c.from_residual-in_err-parts.ensures.1 in
    rw (p.1, p.2) (fault_after c.close-closed.new.self c.in_err-parts.field-0.0 l1 (rw c.in_err-parts.ensures.err at c.close-closed.ensures.read))

pub read_group-returns : goal.read_group-returns
read_group-returns t c =
    let l0 = opened_rule c.args.reader.now 10 (g.token_open_round ∷ g.expr ∷ g.token_close_round ∷ []) c.place-place.result refl c.place-place.ensures c.requires in
    let q = c.in_ok-parts.ensures.ok in
    let l1 = after l0 (behind (g.token_close_round ∷ []) (rw (sym q.1) at c.in_ok-inner.ensures)) in
    let l2 = after l1 (rw q.0 at c.close-closed.ensures.read) in
    restep (operand_then (factor_of c.from_group.result)) (λ r. ap (λ x. operand_then x r) (sym c.from_group.ensures)) l2

pub read_bracketed-returns-in_err-open : goal.read_bracketed-returns-in_err-open
read_bracketed-returns-in_err-open t c =
    let l0 = stay (g.token_open_round ∷ g.expr ∷ []) c.args.reader.now in
    let p = err_from_is_err_and c.from_residual.result c.from_residual.ensures.1 in
    rw (p.1, p.2) (fault_at c.open.new.self c.in_err-open.field-0.0 (g.token_open_round ∷ []) (g.expr ∷ []) l0 c.in_err-open.ensures.read)

pub read_bracketed-returns-in_err-inner : goal.read_bracketed-returns-in_err-inner
read_bracketed-returns-in_err-inner t c =
    let l0 = stay (g.token_open_round ∷ g.expr ∷ []) c.args.reader.now in
    let l1 = after l0 (behind (g.expr ∷ []) c.in_ok-open.ensures.read) in
    let p = err_from_is_err_and c.from_residual-in_err-inner.result c.from_residual-in_err-inner.ensures.1 in
    rw (p.1, p.2) (fault_at c.read_expr.new.reader c.in_err-inner.field-0.0 (g.expr ∷ []) ([]) l1 c.in_err-inner.ensures)

pub read_bracketed-returns : goal.read_bracketed-returns
read_bracketed-returns t c =
    let l0 = stay (g.token_open_round ∷ g.expr ∷ []) c.args.reader.now in
    let l1 = after l0 (behind (g.expr ∷ []) c.in_ok-open.ensures.read) in
    let l2 = after l1 c.in_ok-inner.ensures in
    restep (expression_then (expression_of c.in_ok-inner-2.inner)) (λ r. ap (λ x. expression_then (expression_of x) r) (sym c.in_ok-inner-2.ensures)) l2

pub read_sum-returns-in_err-expect : goal.read_sum-returns-in_err-expect
read_sum-returns-in_err-expect t c =
    let l0 = opened_rule c.args.reader.now 10 (g.token_sum ∷ g.token_open_round ∷ g.expr ∷ g.token_for ∷ g.binders ∷ g.token_close_round ∷ []) c.place-place.result refl c.place-place.ensures c.requires in
    let p = err_from_is_err_and c.from_residual.result c.from_residual.ensures.1 in
    rw (p.1, p.2) (fault_at c.expect.new.self c.in_err-expect.field-0.0 (g.token_sum ∷ []) (g.token_open_round ∷ g.expr ∷ g.token_for ∷ g.binders ∷ g.token_close_round ∷ []) l0 c.in_err-expect.ensures.read)

pub read_sum-returns-in_err-summand : goal.read_sum-returns-in_err-summand
read_sum-returns-in_err-summand t c =
    let l0 = opened_rule c.args.reader.now 10 (g.token_sum ∷ g.token_open_round ∷ g.expr ∷ g.token_for ∷ g.binders ∷ g.token_close_round ∷ []) c.place-place.result refl c.place-place.ensures c.requires in
    let l1 = after l0 (behind (g.token_open_round ∷ g.expr ∷ g.token_for ∷ g.binders ∷ g.token_close_round ∷ []) c.in_ok-expect.ensures.read) in
    let p = err_from_is_err_and c.from_residual-in_err-summand.result c.from_residual-in_err-summand.ensures.1 in
    rw (p.1, p.2) (fault_at c.read_bracketed.new.reader c.in_err-summand.field-0.0 (g.token_open_round ∷ g.expr ∷ []) (g.token_for ∷ g.binders ∷ g.token_close_round ∷ []) l1 c.in_err-summand.ensures)

pub read_sum-returns-in_err-parts : goal.read_sum-returns-in_err-parts
read_sum-returns-in_err-parts t c =
    let l0 = opened_rule c.args.reader.now 10 (g.token_sum ∷ g.token_open_round ∷ g.expr ∷ g.token_for ∷ g.binders ∷ g.token_close_round ∷ []) c.place-place.result refl c.place-place.ensures c.requires in
    let l1 = after l0 (behind (g.token_open_round ∷ g.expr ∷ g.token_for ∷ g.binders ∷ g.token_close_round ∷ []) c.in_ok-expect.ensures.read) in
    let l2 = after l1 (behind (g.token_for ∷ g.binders ∷ g.token_close_round ∷ []) c.in_ok-summand.ensures) in
    let p = err_from_is_err_and c.from_residual-in_err-parts.result c.from_residual-in_err-parts.ensures.1 in
    rw (p.1, p.2) (fault_after c.read_scope-binders.new.reader c.in_err-parts.field-0.0 l2 (rw c.in_err-parts.ensures.err at c.read_scope-binders.ensures))

pub read_sum-returns : goal.read_sum-returns
read_sum-returns t c =
    let l0 = opened_rule c.args.reader.now 10 (g.token_sum ∷ g.token_open_round ∷ g.expr ∷ g.token_for ∷ g.binders ∷ g.token_close_round ∷ []) c.place-place.result refl c.place-place.ensures c.requires in
    let l1 = after l0 (behind (g.token_open_round ∷ g.expr ∷ g.token_for ∷ g.binders ∷ g.token_close_round ∷ []) c.in_ok-expect.ensures.read) in
    let q = c.in_ok-parts.ensures.ok in
    let l2 = after l1 (behind (g.token_for ∷ g.binders ∷ g.token_close_round ∷ []) (rw (sym q.1) at c.in_ok-summand.ensures)) in
    let l3 = after l2 (rw q.0 at c.read_scope-binders.ensures) in
    restep (operand_then (factor_of c.from_sum.result)) (λ r. ap (λ x. operand_then x r) (sym (c.from_sum.ensures ∙ ap (λ x. plain.sum c.place-place.result (expression_of c.in_ok-parts.parts.0) (binding_of x)) c.in_ok-binders.ensures))) l3

pub read_scope-returns-in_err-expect : goal.read_scope-returns-in_err-expect
read_scope-returns-in_err-expect t c =
    let l0 = stay (g.token_for ∷ g.binders ∷ g.token_close_round ∷ []) c.args.reader.now in
    let p = err_from_is_err_and c.from_residual.result c.from_residual.ensures.1 in
    rw (p.1, p.2) (fault_at c.expect.new.self c.in_err-expect.field-0.0 (g.token_for ∷ []) (g.binders ∷ g.token_close_round ∷ []) l0 c.in_err-expect.ensures.read)

pub read_scope-returns-in_err-binders : goal.read_scope-returns-in_err-binders
read_scope-returns-in_err-binders t c =
    let l0 = stay (g.token_for ∷ g.binders ∷ g.token_close_round ∷ []) c.args.reader.now in
    let l1 = after l0 (behind (g.binders ∷ g.token_close_round ∷ []) c.in_ok-expect.ensures.read) in
    let p = err_from_is_err_and c.from_residual-in_err-binders.result c.from_residual-in_err-binders.ensures.1 in
    rw (p.1, p.2) (fault_at c.read_binders.new.reader c.in_err-binders.field-0.0 (g.binders ∷ []) (g.token_close_round ∷ []) l1 c.in_err-binders.ensures)

pub read_scope-returns-in_err-parts : goal.read_scope-returns-in_err-parts
read_scope-returns-in_err-parts t c =
    let l0 = stay (g.token_for ∷ g.binders ∷ g.token_close_round ∷ []) c.args.reader.now in
    let l1 = after l0 (behind (g.binders ∷ g.token_close_round ∷ []) c.in_ok-expect.ensures.read) in
    let l2 = after l1 (behind (g.token_close_round ∷ []) c.in_ok-binders.ensures) in
    let p = err_from_is_err_and c.from_residual-in_err-parts.result c.from_residual-in_err-parts.ensures.1 in
    rw (p.1, p.2) (fault_after c.close-closed.new.self c.in_err-parts.field-0.0 l2 (rw c.in_err-parts.ensures.err at c.close-closed.ensures.read))

pub read_scope-returns : goal.read_scope-returns
read_scope-returns t c =
    let l0 = stay (g.token_for ∷ g.binders ∷ g.token_close_round ∷ []) c.args.reader.now in
    let l1 = after l0 (behind (g.binders ∷ g.token_close_round ∷ []) c.in_ok-expect.ensures.read) in
    let q = c.in_ok-parts.ensures.ok in
    let l2 = after l1 (behind (g.token_close_round ∷ []) (rw (sym q.1) at c.in_ok-binders.ensures)) in
    let l3 = after l2 (rw q.0 at c.close-closed.ensures.read) in
    restep (binding_then (binding_of c.in_ok-parts.parts.0)) (λ r. refl) l3

pub read_expr-returns-in_err-first : goal.read_expr-returns-in_err-first
read_expr-returns-in_err-first t c =
    let l0 = opened_rule c.args.reader.now 8 (g.minus ∷ g.term ∷ g.more_terms ∷ []) c.place-place.result refl c.place-place.ensures (predict.expr_any (next c.args.reader.now)) in
    let l1 = after l0 (behind (g.term ∷ g.more_terms ∷ []) c.read_minus-is_negated.ensures) in
    let p = err_from_is_err_and c.from_residual.result c.from_residual.ensures.1 in
    rw (p.1, p.2) (fault_at c.read_term.new.reader c.in_err-first.field-0.0 (g.term ∷ []) (g.more_terms ∷ []) l1 c.in_err-first.ensures)

pub read_expr-returns-in_err-parts : goal.read_expr-returns-in_err-parts
read_expr-returns-in_err-parts t c =
    let l0 = opened_rule c.args.reader.now 8 (g.minus ∷ g.term ∷ g.more_terms ∷ []) c.place-place.result refl c.place-place.ensures (predict.expr_any (next c.args.reader.now)) in
    let l1 = after l0 (behind (g.term ∷ g.more_terms ∷ []) c.read_minus-is_negated.ensures) in
    let l2 = after l1 (behind (g.more_terms ∷ []) c.in_ok-first.ensures) in
    let p = err_from_is_err_and c.from_residual-in_err-parts.result c.from_residual-in_err-parts.ensures.1 in
    rw (p.1, p.2) (fault_after c.read_more_terms-more.new.reader c.in_err-parts.field-0.0 l2 (rw c.in_err-parts.ensures.err at c.read_more_terms-more.ensures))

pub read_expr-returns : goal.read_expr-returns
read_expr-returns t c =
    let l0 = opened_rule c.args.reader.now 8 (g.minus ∷ g.term ∷ g.more_terms ∷ []) c.place-place.result refl c.place-place.ensures (predict.expr_any (next c.args.reader.now)) in
    let l1 = after l0 (behind (g.term ∷ g.more_terms ∷ []) c.read_minus-is_negated.ensures) in
    let l2 = after l1 (behind (g.more_terms ∷ []) c.in_ok-first.ensures) in
    let q = c.in_ok-parts.ensures.ok in
    let l3 = after l2 (rw q.0 at c.read_more_terms-more.ensures) in
    restep (expression_then (expression_of c.new.result))
    (λ r. ap (λ x. becomes g.expr (g.minus ∷ g.term ∷ g.more_terms ∷ []) ∷ stands_at c.place-place.result ∷ minus_then c.read_minus-is_negated.result (product_then (term_of x) (addends_then (addends_of (map addend_of c.in_ok-parts.parts.1)) r))) (sym q.1) ∙ ap (λ x. expression_then x r) (sym c.new.ensures))
    l3

pub read_more_terms-terms-init : goal.read_more_terms-terms-init
read_more_terms-terms-init t c = begin addend_step (map addend_of c.new-terms.result) (ap (map addend_of) c.new-terms.ensures) c.args.reader.now (g.more_terms ∷ [])

pub read_more_terms-returns-in_err-sign : goal.read_more_terms-returns-in_err-sign
read_more_terms-returns-in_err-sign t c =
    let m0 = opened_group c.terms.reader 36 (g.sign ∷ g.term ∷ g.more_terms ∷ []) refl (subst (λ (t : Terminal). chosen_side g.grammar 36 (code_of t) ≡ Some (g.sign ∷ g.term ∷ g.more_terms ∷ [])) c.terminal.ensures (predict.more_terms_some c.terminal.result (sym c.begins_sign.ensures ∙ c.terms-test.true))) in
    let p = err_from_is_err_and c.from_residual.result c.from_residual.ensures.1 in
    rw (p.1, p.2) (fault_at c.read_sign.new.reader c.in_err-sign.field-0.0 (g.sign ∷ []) (g.term ∷ g.more_terms ∷ []) (after c.terms.invariant m0) c.in_err-sign.ensures.read)

pub read_more_terms-returns-in_err-term : goal.read_more_terms-returns-in_err-term
read_more_terms-returns-in_err-term t c =
    let m0 = opened_group c.terms.reader 36 (g.sign ∷ g.term ∷ g.more_terms ∷ []) refl (subst (λ (t : Terminal). chosen_side g.grammar 36 (code_of t) ≡ Some (g.sign ∷ g.term ∷ g.more_terms ∷ [])) c.terminal.ensures (predict.more_terms_some c.terminal.result (sym c.begins_sign.ensures ∙ c.terms-test.true))) in
    let m1 = after m0 (behind (g.term ∷ g.more_terms ∷ []) c.in_ok-sign.ensures.read) in
    let p = err_from_is_err_and c.from_residual-in_err-term.result c.from_residual-in_err-term.ensures.1 in
    rw (p.1, p.2) (fault_at c.read_term.new.reader c.in_err-term.field-0.0 (g.term ∷ []) (g.more_terms ∷ []) (after c.terms.invariant m1) c.in_err-term.ensures)

pub read_more_terms-terms-preserved : goal.read_more_terms-terms-preserved
read_more_terms-terms-preserved t c =
    let m0 = opened_group c.terms.reader 36 (g.sign ∷ g.term ∷ g.more_terms ∷ []) refl (subst (λ (t : Terminal). chosen_side g.grammar 36 (code_of t) ≡ Some (g.sign ∷ g.term ∷ g.more_terms ∷ [])) c.terminal.ensures (predict.more_terms_some c.terminal.result (sym c.begins_sign.ensures ∙ c.terms-test.true))) in
    let m1 = after m0 (behind (g.term ∷ g.more_terms ∷ []) c.in_ok-sign.ensures.read) in
    let m2 = after m1 (behind (g.more_terms ∷ []) c.in_ok-term.ensures) in
    one_more addend_step (map addend_of c.terms.terms) (map addend_of c.push.new.self) (addend_of c.new-addend.result) (ap (map addend_of) c.in_ok-push.ensures.ok ∙ map_more addend_of c.terms.terms c.new-addend.result)
    c.terms.invariant (restep (addend_step (addend_of c.new-addend.result)) (λ r. ap (λ x. addend_step x r) (sym c.new-addend.ensures)) m2)

pub read_more_terms-terms-smaller : goal.read_more_terms-terms-smaller
read_more_terms-terms-smaller t c = let s = c.in_ok-sign.ensures.shorter in let o = c.in_ok-term.ensures.order in omega arith

pub read_more_terms-returns : goal.read_more_terms-returns
read_more_terms-returns t c =
    let ends = opened_group c.terms.reader 36 [] refl (subst (λ (t : Terminal). chosen_side g.grammar 36 (code_of t) ≡ Some ([])) c.terminal.ensures (predict.more_terms_none c.terminal.result (sym c.begins_sign.ensures ∙ c.terms-test.false))) in
    restep (addends_then (addends_of (map addend_of c.terms.terms))) (addends_each (map addend_of c.terms.terms)) (after c.terms.invariant ends)

pub read_term-returns-in_err-first : goal.read_term-returns-in_err-first
read_term-returns-in_err-first t c =
    let l0 = opened_rule c.args.reader.now 9 (g.factor ∷ g.more_factors ∷ []) c.place-place.result refl c.place-place.ensures (predict.term_any (next c.args.reader.now)) in
    let p = err_from_is_err_and c.from_residual.result c.from_residual.ensures.1 in
    rw (p.1, p.2) (fault_at c.read_factor.new.reader c.in_err-first.field-0.0 (g.factor ∷ []) (g.more_factors ∷ []) l0 c.in_err-first.ensures)

pub read_term-returns-in_err-parts : goal.read_term-returns-in_err-parts
read_term-returns-in_err-parts t c =
    let l0 = opened_rule c.args.reader.now 9 (g.factor ∷ g.more_factors ∷ []) c.place-place.result refl c.place-place.ensures (predict.term_any (next c.args.reader.now)) in
    let l1 = after l0 (behind (g.more_factors ∷ []) c.in_ok-first.ensures) in
    let p = err_from_is_err_and c.from_residual-in_err-parts.result c.from_residual-in_err-parts.ensures.1 in
    rw (p.1, p.2) (fault_after c.read_more_factors-more.new.reader c.in_err-parts.field-0.0 l1 (rw c.in_err-parts.ensures.err at c.read_more_factors-more.ensures))

pub read_term-returns : goal.read_term-returns
read_term-returns t c =
    let l0 = opened_rule c.args.reader.now 9 (g.factor ∷ g.more_factors ∷ []) c.place-place.result refl c.place-place.ensures (predict.term_any (next c.args.reader.now)) in
    let l1 = after l0 (behind (g.more_factors ∷ []) c.in_ok-first.ensures) in
    let q = c.in_ok-parts.ensures.ok in
    let l2 = after l1 (rw q.0 at c.read_more_factors-more.ensures) in
    restep (product_then (term_of c.new.result))
    (λ r. ap (λ x. becomes g.term (g.factor ∷ g.more_factors ∷ []) ∷ stands_at c.place-place.result ∷ operand_then (factor_of x) (operands_then (operands_of (map factor_of c.in_ok-parts.parts.1)) r)) (sym q.1) ∙ ap (λ x. product_then x r) (sym c.new.ensures))
    l2

pub read_more_factors-factors-init : goal.read_more_factors-factors-init
read_more_factors-factors-init t c = begin factor_step (map factor_of c.new-factors.result) (ap (map factor_of) c.new-factors.ensures) c.args.reader.now (g.more_factors ∷ [])

pub read_more_factors-returns-in_err-factor : goal.read_more_factors-returns-in_err-factor
read_more_factors-returns-in_err-factor t c =
    let m = after (opened_group c.factors.reader 38 (g.token_times ∷ g.factor ∷ g.more_factors ∷ []) refl (predict.more_factors_some c.factors.reader (sym c.accept.ensures.next ∙ c.factors-test.true))) (behind (g.factor ∷ g.more_factors ∷ []) (c.accept.ensures.lead c.factors-test.true)) in
    let p = err_from_is_err_and c.from_residual.result c.from_residual.ensures.1 in
    rw (p.1, p.2) (fault_at c.read_factor.new.reader c.in_err-factor.field-0.0 (g.factor ∷ []) (g.more_factors ∷ []) (after c.factors.invariant m) c.in_err-factor.ensures)

pub read_more_factors-factors-preserved : goal.read_more_factors-factors-preserved
read_more_factors-factors-preserved t c =
    let m = after (opened_group c.factors.reader 38 (g.token_times ∷ g.factor ∷ g.more_factors ∷ []) refl (predict.more_factors_some c.factors.reader (sym c.accept.ensures.next ∙ c.factors-test.true))) (behind (g.factor ∷ g.more_factors ∷ []) (c.accept.ensures.lead c.factors-test.true)) in
    one_more factor_step (map factor_of c.factors.factors) (map factor_of c.push.new.self) (factor_of c.in_ok-factor.factor) (ap (map factor_of) c.in_ok-push.ensures.ok ∙ map_more factor_of c.factors.factors c.in_ok-factor.factor)
    c.factors.invariant (after m (behind (g.more_factors ∷ []) c.in_ok-factor.ensures))

pub read_more_factors-returns : goal.read_more_factors-returns
read_more_factors-returns t c =
    let ends = kept (c.accept.ensures.kept c.factors-test.false) (opened_group c.factors.reader 38 [] refl (predict.more_factors_none c.factors.reader (sym c.accept.ensures.next ∙ c.factors-test.false))) in
    restep (operands_then (operands_of (map factor_of c.factors.factors))) (operands_each (map factor_of c.factors.factors)) (after c.factors.invariant ends)

pub read_factor-read_named-requires : goal.read_factor-read_named-requires
read_factor-read_named-requires t c = (omega arith, predict.factor_name c.args.reader.now c.terminal.result c.terminal.ensures c.in-Name.is)

pub read_factor-read_group-requires : goal.read_factor-read_group-requires
read_factor-read_group-requires t c = (omega arith, predict.factor_open_round c.args.reader.now c.terminal.result c.terminal.ensures c.in-OpenRound.is)

pub read_factor-read_sum-requires : goal.read_factor-read_sum-requires
read_factor-read_sum-requires t c = (omega arith, predict.factor_sum c.args.reader.now c.terminal.result c.terminal.ensures c.in-Sum.is)

pub read_factor-read_numeral-requires : goal.read_factor-read_numeral-requires
read_factor-read_numeral-requires t c = predict.factor_else c.args.reader.now c.terminal.result c.terminal.ensures c.in_default.not-Name c.in_default.not-OpenRound c.in_default.not-Sum

pub read_indices-returns-then-not-is : goal.read_indices-returns-then-not-is
read_indices-returns-then-not-is t c = restep (indices_then (expressions_of (map expression_of c.new.result))) (λ r. ap (λ xs. indices_then (expressions_of (map expression_of xs)) r) (sym c.new.ensures)) (opened_group c.args.reader.now 39 [] refl (predict.indices_none c.args.reader.now (sym c.is.ensures ∙ c.if-not-is.true)))

pub read_indices-returns-in_err-opened : goal.read_indices-returns-in_err-opened
read_indices-returns-in_err-opened t c =
    let l0 = opened_group c.args.reader.now 39 (g.token_open_square ∷ g.expr ∷ g.more_exprs ∷ g.token_close_square ∷ []) refl (predict.indices_some c.args.reader.now (sym c.is.ensures ∙ c.if-not-is.false)) in
    let p = err_from_is_err_and c.from_residual.result c.from_residual.ensures.1 in
    rw (p.1, p.2) (fault_at c.read_opened_indices.new.reader c.in_err-opened.field-0.0 (g.token_open_square ∷ g.expr ∷ g.more_exprs ∷ []) (g.token_close_square ∷ []) l0 c.in_err-opened.ensures)

pub read_indices-returns-in_err-parts : goal.read_indices-returns-in_err-parts
read_indices-returns-in_err-parts t c =
    let l0 = opened_group c.args.reader.now 39 (g.token_open_square ∷ g.expr ∷ g.more_exprs ∷ g.token_close_square ∷ []) refl (predict.indices_some c.args.reader.now (sym c.is.ensures ∙ c.if-not-is.false)) in
    let l1 = after l0 (behind (g.token_close_square ∷ []) c.in_ok-opened.ensures) in
    let p = err_from_is_err_and c.from_residual-in_err-parts.result c.from_residual-in_err-parts.ensures.1 in
    rw (p.1, p.2) (fault_after c.close-closed.new.self c.in_err-parts.field-0.0 l1 (rw c.in_err-parts.ensures.err at c.close-closed.ensures.read))

pub read_indices-returns : goal.read_indices-returns
read_indices-returns t c =
    let l0 = opened_group c.args.reader.now 39 (g.token_open_square ∷ g.expr ∷ g.more_exprs ∷ g.token_close_square ∷ []) refl (predict.indices_some c.args.reader.now (sym c.is.ensures ∙ c.if-not-is.false)) in
    let l1 = after l0 (behind (g.token_close_square ∷ []) c.in_ok-opened.ensures) in
    let q = c.in_ok-parts.ensures.ok in
    let l2 = after l1 (rw q.0 at c.close-closed.ensures.read) in
    restep (indices_then (expressions_of (map expression_of c.in_ok-indices.indices)))
    (λ r. ap (λ x. becomes g.indices (g.token_open_square ∷ g.expr ∷ g.more_exprs ∷ g.token_close_square ∷ []) ∷ expression_then (expression_of x.0) (more_exprs_then (map expression_of x.1) r)) (sym q.1)
    ∙ ap (λ x. becomes g.indices (g.token_open_square ∷ g.expr ∷ g.more_exprs ∷ g.token_close_square ∷ []) ∷ expression_then (expression_of c.in_ok-parts.parts.0.0) x) (expressions_each (map expression_of c.in_ok-parts.parts.0.1) r)
    ∙ ap (λ xs. indices_then (expressions_of (map expression_of xs)) r) (sym c.in_ok-indices.ensures))
    l2

pub read_opened_indices-returns-in_err-open : goal.read_opened_indices-returns-in_err-open
read_opened_indices-returns-in_err-open t c =
    let l0 = stay (g.token_open_square ∷ g.expr ∷ g.more_exprs ∷ []) c.args.reader.now in
    let p = err_from_is_err_and c.from_residual.result c.from_residual.ensures.1 in
    rw (p.1, p.2) (fault_at c.open.new.self c.in_err-open.field-0.0 (g.token_open_square ∷ []) (g.expr ∷ g.more_exprs ∷ []) l0 c.in_err-open.ensures.read)

pub read_opened_indices-returns-in_err-first : goal.read_opened_indices-returns-in_err-first
read_opened_indices-returns-in_err-first t c =
    let l0 = stay (g.token_open_square ∷ g.expr ∷ g.more_exprs ∷ []) c.args.reader.now in
    let l1 = after l0 (behind (g.expr ∷ g.more_exprs ∷ []) c.in_ok-open.ensures.read) in
    let p = err_from_is_err_and c.from_residual-in_err-first.result c.from_residual-in_err-first.ensures.1 in
    rw (p.1, p.2) (fault_at c.read_expr.new.reader c.in_err-first.field-0.0 (g.expr ∷ []) (g.more_exprs ∷ []) l1 c.in_err-first.ensures)

pub read_opened_indices-returns-in_err-parts : goal.read_opened_indices-returns-in_err-parts
read_opened_indices-returns-in_err-parts t c =
    let l0 = stay (g.token_open_square ∷ g.expr ∷ g.more_exprs ∷ []) c.args.reader.now in
    let l1 = after l0 (behind (g.expr ∷ g.more_exprs ∷ []) c.in_ok-open.ensures.read) in
    let l2 = after l1 (behind (g.more_exprs ∷ []) c.in_ok-first.ensures) in
    let p = err_from_is_err_and c.from_residual-in_err-parts.result c.from_residual-in_err-parts.ensures.1 in
    rw (p.1, p.2) (fault_after c.read_more_exprs-more.new.reader c.in_err-parts.field-0.0 l2 (rw c.in_err-parts.ensures.err at c.read_more_exprs-more.ensures))

pub read_opened_indices-returns : goal.read_opened_indices-returns
read_opened_indices-returns t c =
    let l0 = stay (g.token_open_square ∷ g.expr ∷ g.more_exprs ∷ []) c.args.reader.now in
    let l1 = after l0 (behind (g.expr ∷ g.more_exprs ∷ []) c.in_ok-open.ensures.read) in
    let l2 = after l1 (behind (g.more_exprs ∷ []) c.in_ok-first.ensures) in
    let q = c.in_ok-parts.ensures.ok in
    let l3 = after l2 (rw q.0 at c.read_more_exprs-more.ensures) in
    restep (λ r. expression_then (expression_of c.in_ok-parts.parts.0) (more_exprs_then (map expression_of c.in_ok-parts.parts.1) r))
    (λ r. ap (λ x. expression_then (expression_of x) (more_exprs_then (map expression_of c.in_ok-parts.parts.1) r)) (sym q.1))
    l3

pub read_more_exprs-exprs-init : goal.read_more_exprs-exprs-init
read_more_exprs-exprs-init t c = begin expression_step (map expression_of c.new-exprs.result) (ap (map expression_of) c.new-exprs.ensures) c.args.reader.now (g.more_exprs ∷ [])

pub read_more_exprs-returns-in_err-expr : goal.read_more_exprs-returns-in_err-expr
read_more_exprs-returns-in_err-expr t c =
    let m = after (opened_group c.exprs.reader 30 (g.token_comma ∷ g.expr ∷ g.more_exprs ∷ []) refl (predict.more_exprs_some c.exprs.reader (sym c.accept.ensures.next ∙ c.exprs-test.true))) (behind (g.expr ∷ g.more_exprs ∷ []) (c.accept.ensures.lead c.exprs-test.true)) in
    let p = err_from_is_err_and c.from_residual.result c.from_residual.ensures.1 in
    rw (p.1, p.2) (fault_at c.read_expr.new.reader c.in_err-expr.field-0.0 (g.expr ∷ []) (g.more_exprs ∷ []) (after c.exprs.invariant m) c.in_err-expr.ensures)

pub read_more_exprs-exprs-preserved : goal.read_more_exprs-exprs-preserved
read_more_exprs-exprs-preserved t c =
    let m = after (opened_group c.exprs.reader 30 (g.token_comma ∷ g.expr ∷ g.more_exprs ∷ []) refl (predict.more_exprs_some c.exprs.reader (sym c.accept.ensures.next ∙ c.exprs-test.true))) (behind (g.expr ∷ g.more_exprs ∷ []) (c.accept.ensures.lead c.exprs-test.true)) in
    one_more expression_step (map expression_of c.exprs.exprs) (map expression_of c.push.new.self) (expression_of c.in_ok-expr.expr) (ap (map expression_of) c.in_ok-push.ensures.ok ∙ map_more expression_of c.exprs.exprs c.in_ok-expr.expr)
    c.exprs.invariant (after m (behind (g.more_exprs ∷ []) c.in_ok-expr.ensures))

pub read_more_exprs-returns : goal.read_more_exprs-returns
read_more_exprs-returns t c =
    let ends = kept (c.accept.ensures.kept c.exprs-test.false) (opened_group c.exprs.reader 30 [] refl (predict.more_exprs_none c.exprs.reader (sym c.accept.ensures.next ∙ c.exprs-test.false))) in
    after c.exprs.invariant ends

pub read_tests-returns-then-not-accept : goal.read_tests-returns-then-not-accept
read_tests-returns-then-not-accept t c = restep (tests_then (comparisons_of (map test_of c.new.result))) (λ r. ap (λ xs. tests_then (comparisons_of (map test_of xs)) r) (sym c.new.ensures)) (kept (c.accept.ensures.kept c.if-not-accept.true) (opened_group c.args.reader.now 32 [] refl (predict.tests_none c.args.reader.now (sym c.accept.ensures.next ∙ c.if-not-accept.true))))

pub read_tests-returns-in_err-first : goal.read_tests-returns-in_err-first
read_tests-returns-in_err-first t c =
    let l0 = opened_group c.args.reader.now 32 (g.token_if ∷ g.test ∷ g.more_tests ∷ []) refl (predict.tests_some c.args.reader.now (sym c.accept.ensures.next ∙ c.if-not-accept.false)) in
    let l1 = after l0 (behind (g.test ∷ g.more_tests ∷ []) (c.accept.ensures.lead c.if-not-accept.false)) in
    let p = err_from_is_err_and c.from_residual.result c.from_residual.ensures.1 in
    rw (p.1, p.2) (fault_at c.read_test.new.reader c.in_err-first.field-0.0 (g.test ∷ []) (g.more_tests ∷ []) l1 c.in_err-first.ensures)

pub read_tests-returns-in_err-parts : goal.read_tests-returns-in_err-parts
read_tests-returns-in_err-parts t c =
    let l0 = opened_group c.args.reader.now 32 (g.token_if ∷ g.test ∷ g.more_tests ∷ []) refl (predict.tests_some c.args.reader.now (sym c.accept.ensures.next ∙ c.if-not-accept.false)) in
    let l1 = after l0 (behind (g.test ∷ g.more_tests ∷ []) (c.accept.ensures.lead c.if-not-accept.false)) in
    let l2 = after l1 (behind (g.more_tests ∷ []) c.in_ok-first.ensures) in
    let p = err_from_is_err_and c.from_residual-in_err-parts.result c.from_residual-in_err-parts.ensures.1 in
    rw (p.1, p.2) (fault_after c.read_more_tests-more.new.reader c.in_err-parts.field-0.0 l2 (rw c.in_err-parts.ensures.err at c.read_more_tests-more.ensures))

pub read_tests-returns : goal.read_tests-returns
read_tests-returns t c =
    let l0 = opened_group c.args.reader.now 32 (g.token_if ∷ g.test ∷ g.more_tests ∷ []) refl (predict.tests_some c.args.reader.now (sym c.accept.ensures.next ∙ c.if-not-accept.false)) in
    let l1 = after l0 (behind (g.test ∷ g.more_tests ∷ []) (c.accept.ensures.lead c.if-not-accept.false)) in
    let l2 = after l1 (behind (g.more_tests ∷ []) c.in_ok-first.ensures) in
    let q = c.in_ok-parts.ensures.ok in
    let l3 = after l2 (rw q.0 at c.read_more_tests-more.ensures) in
    restep (tests_then (comparisons_of (map test_of c.in_ok-tests.tests)))
    (λ r. ap (λ x. becomes g.tests (g.token_if ∷ g.test ∷ g.more_tests ∷ []) ∷ comparison_then (test_of x) (comparisons_then (comparisons_of (map test_of c.in_ok-parts.parts.1)) r)) (sym q.1) ∙ ap (λ xs. tests_then (comparisons_of (map test_of xs)) r) (sym c.in_ok-tests.ensures))
    l3

pub read_more_tests-tests-init : goal.read_more_tests-tests-init
read_more_tests-tests-init t c = begin test_step (map test_of c.new-tests.result) (ap (map test_of) c.new-tests.ensures) c.args.reader.now (g.more_tests ∷ [])

pub read_more_tests-returns-in_err-test : goal.read_more_tests-returns-in_err-test
read_more_tests-returns-in_err-test t c =
    let m = after (opened_group c.tests.reader 33 (g.token_and ∷ g.test ∷ g.more_tests ∷ []) refl (predict.more_tests_some c.tests.reader (sym c.accept.ensures.next ∙ c.tests-test.true))) (behind (g.test ∷ g.more_tests ∷ []) (c.accept.ensures.lead c.tests-test.true)) in
    let p = err_from_is_err_and c.from_residual.result c.from_residual.ensures.1 in
    rw (p.1, p.2) (fault_at c.read_test.new.reader c.in_err-test.field-0.0 (g.test ∷ []) (g.more_tests ∷ []) (after c.tests.invariant m) c.in_err-test.ensures)

pub read_more_tests-tests-preserved : goal.read_more_tests-tests-preserved
read_more_tests-tests-preserved t c =
    let m = after (opened_group c.tests.reader 33 (g.token_and ∷ g.test ∷ g.more_tests ∷ []) refl (predict.more_tests_some c.tests.reader (sym c.accept.ensures.next ∙ c.tests-test.true))) (behind (g.test ∷ g.more_tests ∷ []) (c.accept.ensures.lead c.tests-test.true)) in
    one_more test_step (map test_of c.tests.tests) (map test_of c.push.new.self) (test_of c.in_ok-test.test) (ap (map test_of) c.in_ok-push.ensures.ok ∙ map_more test_of c.tests.tests c.in_ok-test.test)
    c.tests.invariant (after m (behind (g.more_tests ∷ []) c.in_ok-test.ensures))

pub read_more_tests-returns : goal.read_more_tests-returns
read_more_tests-returns t c =
    let ends = kept (c.accept.ensures.kept c.tests-test.false) (opened_group c.tests.reader 33 [] refl (predict.more_tests_none c.tests.reader (sym c.accept.ensures.next ∙ c.tests-test.false))) in
    restep (comparisons_then (comparisons_of (map test_of c.tests.tests))) (tests_each (map test_of c.tests.tests)) (after c.tests.invariant ends)

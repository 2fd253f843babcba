use Rattle.std.proofs.Common.{rules, ◌≡◌, ◌∙◌, ap, sym, subst, arith, ◌+◌, ℤ, ◌∷◌, [], List, map, drop, length, Ok, FitsSigned}
use Rattle.std.specs.Int.{w64, w128}
use Rattle.std.proofs.lemmas.Int.{to_z-of_z}
use Rattle.std.proofs.lemmas.Result.{err_from_is_err_and}
use Rattle.std.proofs.lemmas.List.{drop_all}
use Rattle.sm_syntax.specs.declared.place.Place.{Place}
use Rattle.sm_syntax.specs.declared.expression.Expr.{out-Expr}
use Rattle.sm_syntax.specs.declared.expression.Addend.{Addend, out-Addend}
use Rattle.sm_syntax.specs.declared.expression.Factor.{Factor}
use Rattle.sm_syntax.specs.Expressions.{Product, Operand, Comparisons, expression_of, expressions_of, term_of, factor_of, addend_of, addends_of, binding_of, comparisons_of, test_of}
use Rattle.sm_syntax.specs.declared.tree.Sign.{Sign}
use Rattle.sm_forms.specs.Meanings.{Meaning}
use Rattle.sm_forms.specs.Forms.{IsFormOf, value_at}
use Rattle.sm_forms.specs.declared.form.Form.{Form}
use Rattle.sm_meaning.specs.Cases.{number_of}
use Rattle.sm_meaning.specs.Places.{place_of}
use Rattle.sm_meaning.specs.Scopes.{count_of}
use Rattle.sm_meaning.specs.Trials.{◌▸◌, GoesThrough, IsStopped}
use Rattle.sm_meaning.specs.Worths.{whole as whole_number, worth, operand_worth, all_pass, product_worth, sum_worth, with_addend}
use Rattle.sm_meaning.specs.ExpressionTrials.{expression_tried, product_tried, operand_tried, tests_tried, value_tried, whole_tried, sum_tried}
use Rattle.sm_expressions.specs.Sums.{counted, tuple_tried, tests_in}
use Rattle.sm_expressions.proofs.Trees.{expression_is, addend_is, number_is, named_is, binders_are}
use Rattle.sm_expressions.proofs.Trying.{split_at, stopped_same, then_goes}
use Rattle.sm_expressions.proofs.AddendSums.{first_stops, first_goes, term_stops, term_goes}
use Rattle.sm_expressions.proofs.Factors.{FactorsFrom, factor_goes, product_goes, indices-length, unknown_stops, indices_stop, named_goes}
use Rattle.sm_expressions.proofs.Products.{own}
use Rattle.sm_expressions.proofs.TupleSums.{part_stops, part_goes, tuple_stops, tuple_goes, binders_stop, sum_begins, sum_ends, stopped_nowhere, zero_goes}
use Rattle.sm_expressions.proofs.Comparing.{right_stops, sides_relate}
use Rattle.sm_expressions.proofs.evaluate.+evaluating.Goals as goal

-- ---- terms that are added

pub addend-returns : goal.addend-returns
addend-returns t c =
    let x = c.args.x.now in
    let s = c.args.scope.now in
    let b = c.args.cases.now.tuple in
    let g : Meaning = with_addend (value_at c.args.sum) (out-Addend x).sign (product_worth (term_of (out-Addend x).term) s.names b) in
    let W : Sign × Product → Type 0 = λ a. GoesThrough (product_tried a.1 s b ▸ value_tried s (with_addend (value_at c.args.sum) a.0 (product_worth a.1 s.names b))) c.args.visited.now c.product.new.visited
    (IsFormOf (count_of s) (with_addend (value_at c.args.sum) a.0 (product_worth a.1 s.names b))) c.added.result in
    subst W (sym (addend_is x))
    (then_goes (product_tried (term_of (out-Addend x).term) s b) (value_tried s g) c.args.visited.now c.product.new.visited c.product.new.visited (IsFormOf (count_of s) g) c.added.result c.in_ok-term.ensures.0
    (c.added.ensures s (value_at c.args.sum) (product_worth (term_of (out-Addend x).term) s.names b) (own s c.args.sum c.requires) c.in_ok-term.ensures.1 c.product.new.visited))

pub expression-returns-in_err-sum : goal.expression-returns-in_err-sum
expression-returns-in_err-sum t c =
    let x = c.args.x.now in
    let s = c.args.scope.now in
    let b = c.args.cases.now.tuple in
    let p = err_from_is_err_and c.from_residual-in_err-sum.result c.from_residual-in_err-sum.ensures.1 in
    rw (p.1, p.2) (first_stops x s b c.in_err-sum.field-0.0 c.args.visited.now c.product.new.visited c.in_ok-first.ensures.0
    (c.in_err-sum.ensures s (product_worth (term_of (out-Expr x).first) s.names b) c.in_ok-first.ensures.1 c.product.new.visited))

pub expression-loop-more-init : goal.expression-loop-more-init
expression-loop-more-init t c =
    let x = c.args.x.now in
    let s = c.args.scope.now in
    let b = c.args.cases.now.tuple in
    rw c.as_slice-more-items.ensures (first_goes x s b c.in_ok-sum.sum c.args.visited.now c.product.new.visited c.in_ok-first.ensures.0
    (c.in_ok-sum.ensures s (product_worth (term_of (out-Expr x).first) s.names b) c.in_ok-first.ensures.1 c.product.new.visited))

pub expression-returns-in_err-sum-2 : goal.expression-returns-in_err-sum-2
expression-returns-in_err-sum-2 t c =
    let s = c.args.scope.now in
    let b = c.args.cases.now.tuple in
    let p = err_from_is_err_and c.from_residual-in_err-sum-2.result c.from_residual-in_err-sum-2.ensures.1 in
    let xs = c.as_slice-more-items.result.now in
    let rest = drop (c.loop-more.more-index + 1) xs in
    let split = split_at xs c.loop-more.more-index c.more-item.result c.loop-more-test.true c.more-item.is in
    let left = ap (λ (ys : List Addend). sum_tried (addends_of (map addend_of ys)) s b (value_at c.loop-more.sum) c.loop-more.visited) (sym split) ∙ c.loop-more.invariant.0 in
    rw (p.1, p.2) (stopped_same c.in_err-sum-2.field-0.0 (sum_tried (addends_of (map addend_of (c.more-item.result ∷ rest))) s b (value_at c.loop-more.sum) c.loop-more.visited) _ left
    (term_stops c.more-item.result rest s b c.loop-more.sum c.in_err-sum-2.field-0.0 c.loop-more.visited c.in_err-sum-2.ensures))

pub expression-loop-more-preserved : goal.expression-loop-more-preserved
expression-loop-more-preserved t c =
    let s = c.args.scope.now in
    let b = c.args.cases.now.tuple in
    let xs = c.as_slice-more-items.result.now in
    let rest = drop (c.loop-more.more-index + 1) xs in
    let split = split_at xs c.loop-more.more-index c.more-item.result c.loop-more-test.true c.more-item.is in
    let left = ap (λ (ys : List Addend). sum_tried (addends_of (map addend_of ys)) s b (value_at c.loop-more.sum) c.loop-more.visited) (sym split) ∙ c.loop-more.invariant.0 in
    let worths = ap (λ (ys : List Addend). sum_worth (addends_of (map addend_of ys)) s.names b (value_at c.loop-more.sum)) (sym split) ∙ c.loop-more.invariant.1 in
    let goes = term_goes c.more-item.result rest s b c.loop-more.sum c.in_ok-sum-2.sum c.loop-more.visited c.addend.new.visited c.in_ok-sum-2.ensures in
    (goes.0 ∙ left, goes.1 ∙ worths, goes.2)

-- ---- factors that are multiplied

pub product-loop-other-preserved : goal.product-loop-other-preserved
product-loop-other-preserved t c =
    let s = c.args.scope.now in
    let b = c.args.cases.now.tuple in
    let xs = c.as_slice-other-items.result.now in
    let rest = drop (c.loop-other.other-index + 1) xs in
    let split = split_at xs c.loop-other.other-index c.other-item.result c.loop-other-test.true c.other-item.is in
    factor_goes c.args.x.now xs rest c.other-item.result s b c.in_ok-first.first c.in_ok-factor.field-0 c.loop-other.more.items c.push.new.self.items c.args.visited.now c.loop-other.visited c.factor-in-loop-other.new.visited
    (subst (λ (ys : List Factor). FactorsFrom c.args.x.now xs ys s b c.in_ok-first.first c.loop-other.more.items c.args.visited.now c.loop-other.visited) split c.loop-other.invariant)
    c.in_ok-factor.ensures c.in_ok-push.ensures.items

pub product-returns : goal.product-returns
product-returns t c =
    let s = c.args.scope.now in
    let b = c.args.cases.now.tuple in
    let xs = c.as_slice-other-items.result.now in
    let ends = drop_all c.loop-other.other-index xs (omega (arith, c.loop-other-test.false)) in
    let left = subst (λ (ys : List Factor). FactorsFrom c.args.x.now xs ys s b c.in_ok-first.first c.loop-other.more.items c.args.visited.now c.loop-other.visited) ends c.loop-other.invariant in
    product_goes c.args.x.now s b c.in_ok-first.first c.loop-other.more.items c.args.visited.now c.loop-other.visited c.product_form.result
    (subst (λ (ys : List Factor). FactorsFrom c.args.x.now ys [] s b c.in_ok-first.first c.loop-other.more.items c.args.visited.now c.loop-other.visited) c.as_slice-other-items.ensures left)
    (c.product_form.ensures s left.2.form left.3 c.loop-other.visited)

pub factor-returns-in-Number : goal.factor-returns-in-Number
factor-returns-in-Number t c =
    let s = c.args.scope.now in
    let b = c.args.cases.now.tuple in
    let fits : FitsSigned w128 c.from.result = search rules in
    let is = to_z-of_z w128 c.from.result fits ∙ c.from.ensures in
    let W : Operand → Type 0 = λ o. GoesThrough (operand_tried o s b) c.args.visited.now c.args.visited.now (IsFormOf (count_of s) (operand_worth o s.names b)) c.number_form.result in
    subst W (sym (ap factor_of c.in-Number.is ∙ number_is c.in-Number.place c.in-Number.number))
    (subst (λ (z : ℤ). GoesThrough (value_tried s (whole_number z)) c.args.visited.now c.args.visited.now (IsFormOf (count_of s) (whole_number z)) c.number_form.result) is (c.number_form.ensures s c.args.visited.now))

pub factor-returns-in-Name : goal.factor-returns-in-Name
factor-returns-in-Name t c =
    let s = c.args.scope.now in
    let b = c.args.cases.now.tuple in
    let W : Operand → Type 0 = λ o. GoesThrough (operand_tried o s b) c.args.visited.now c.named.new.visited (IsFormOf (count_of s) (operand_worth o s.names b)) c.named.result in
    subst W (sym (ap factor_of c.in-Name.is ∙ named_is c.in-Name.place c.in-Name.name c.in-Name.indices)) (rw c.as_slice.ensures at c.named.ensures)

pub named-named_form-requires-clause-numbers : goal.named-named_form-requires-clause-numbers
named-named_form-requires-clause-numbers t c =
    ap length c.as_slice.ensures.value ∙ ap length c.in_ok-numbers.ensures.1 ∙ indices-length c.args.indices.now c.args.scope.now c.args.cases.now.tuple

pub named-returns-in_err-known : goal.named-returns-in_err-known
named-returns-in_err-known t c =
    let p = err_from_is_err_and c.from_residual.result c.from_residual.ensures.1 in
    rw (p.1, p.2) (unknown_stops c.args.place c.args.name.now (expressions_of (map expression_of c.args.indices.now)) c.args.scope.now c.args.cases.now.tuple c.in_err-known.field-0.0 c.args.visited.now
    (c.in_err-known.ensures.known c.args.visited.now))

pub named-returns-in_err-numbers : goal.named-returns-in_err-numbers
named-returns-in_err-numbers t c =
    let p = err_from_is_err_and c.from_residual-in_err-numbers.result c.from_residual-in_err-numbers.ensures.1 in
    rw (p.1, p.2) (indices_stop c.args.place c.args.name.now (expressions_of (map expression_of c.args.indices.now)) c.args.scope.now c.args.cases.now.tuple c.in_err-numbers.field-0.0 c.args.visited.now
    (c.in_ok-known.ensures.known c.args.visited.now).0 c.in_err-numbers.ensures)

pub named-returns : goal.named-returns
named-returns t c =
    let s = c.args.scope.now in
    let known = c.in_ok-known.ensures.known c.args.visited.now in
    named_goes c.args.place c.args.name.now (expressions_of (map expression_of c.args.indices.now)) s c.args.cases.now.tuple c.in_ok-known.known c.in_ok-numbers.numbers.items c.args.visited.now c.numbers.new.visited c.named_form.result
    known.0 known.1 c.in_ok-numbers.ensures.0 c.in_ok-numbers.ensures.1 (rw c.as_slice.ensures.value at (c.named_form.ensures s c.in_ok-known.ensures.variables c.numbers.new.visited))

-- ---- whole numbers

pub number-returns : goal.number-returns
number-returns t c =
    let x = c.args.x.now in
    let s = c.args.scope.now in
    let b = c.args.cases.now.tuple in
    let place : (out-Expr x).place ≡ place_of (expression_of x) = ap place_of (sym (expression_is x)) in
    let W : ℤ → Type 0 = λ z. z ≡ number_of s (expression_of x) b in
    then_goes (expression_tried (expression_of x) s b) (whole_tried s (place_of (expression_of x)) (worth (expression_of x) s.names b)) c.args.visited.now c.expression.new.visited c.expression.new.visited W c.whole.result
    c.in_ok-form.ensures.0
    (subst (λ (p : Place). GoesThrough (whole_tried s p (worth (expression_of x) s.names b)) c.expression.new.visited c.expression.new.visited W c.whole.result) place
    (c.whole.ensures s (worth (expression_of x) s.names b) c.in_ok-form.ensures.1 c.expression.new.visited))

-- ---- tests

pub test_passes-returns-in_err-right : goal.test_passes-returns-in_err-right
test_passes-returns-in_err-right t c =
    let p = err_from_is_err_and c.from_residual-in_err-right.result c.from_residual-in_err-right.ensures.1 in
    rw (p.1, p.2) (right_stops c.args.x.now c.args.scope.now c.args.cases.now.tuple c.in_err-right.field-0.0 c.args.visited.now c.number.new.visited c.in_ok-left.ensures.0 c.in_err-right.ensures)

pub test_passes-returns : goal.test_passes-returns
test_passes-returns t c =
    let y : FitsSigned w64 c.in_ok-left.left = search rules in
    let z : FitsSigned w64 c.in_ok-right.right = search rules in
    sides_relate c.args.x.now c.args.scope.now c.args.cases.now.tuple c.in_ok-left.left c.in_ok-right.right c.relates.result c.args.visited.now c.number.new.visited c.number-2.new.visited c.in_ok-left.ensures.0 c.in_ok-right.ensures.0
    c.in_ok-left.ensures.1 c.in_ok-right.ensures.1 (rw (to_z-of_z w64 c.in_ok-left.left y, to_z-of_z w64 c.in_ok-right.right z) at c.relates.ensures)

-- ---- sums over tuples

pub tuple_added-returns-in_err-term : goal.tuple_added-returns-in_err-term
tuple_added-returns-in_err-term t c =
    let s = c.args.scope.now in
    let b = c.args.cases.now.tuple in
    let ts = comparisons_of (map test_of c.args.comparisons.now) in
    let x = expression_of c.args.part.now in
    let p = err_from_is_err_and c.from_residual-in_err-term.result c.from_residual-in_err-term.ensures.1 in
    rw (p.1, p.2) (part_stops (tests_tried ts s b) (expression_tried x s b) s (value_at c.args.sum) (worth x s.names b) (all_pass ts s.names b) c.in_err-term.field-0.0 c.args.visited.now c.visit.new.visited c.tests.new.visited
    c.in_ok-visit.ensures.0 c.in_ok-tests.ensures.0 (sym c.in_ok-tests.ensures.1 ∙ c.if-not-branch.false) c.in_err-term.ensures)

pub tuple_added-returns : goal.tuple_added-returns
tuple_added-returns t c =
    let s = c.args.scope.now in
    let b = c.args.cases.now.tuple in
    let ts = comparisons_of (map test_of c.args.comparisons.now) in
    let x = expression_of c.args.part.now in
    part_goes (tests_tried ts s b) (expression_tried x s b) s (value_at c.args.sum) (worth x s.names b) (all_pass ts s.names b) c.args.visited.now c.visit.new.visited c.tests.new.visited c.expression.new.visited c.added.result
    c.in_ok-visit.ensures.0 c.in_ok-tests.ensures.0 (sym c.in_ok-tests.ensures.1 ∙ c.if-not-branch.false) c.in_ok-term.ensures.0
    (c.added.ensures s (value_at c.args.sum) (worth x s.names b) (own s c.args.sum c.requires) c.in_ok-term.ensures.1 c.expression.new.visited)

pub summed-returns-in_err-inner : goal.summed-returns-in_err-inner
summed-returns-in_err-inner t c =
    let p = err_from_is_err_and c.from_residual.result c.from_residual.ensures.1 in
    rw (p.1, p.2) (binders_stop (expression_of c.args.part.now) c.args.binders.now c.args.scope.now c.args.cases.now.tuple c.in_err-inner.field-0.0 c.args.visited.now (rw c.as_slice.ensures at (c.in_err-inner.ensures c.args.visited.now)))

pub summed-returns-in_err-sum : goal.summed-returns-in_err-sum
summed-returns-in_err-sum t c =
    let s = c.args.scope.now in
    let p = err_from_is_err_and c.from_residual-in_err-sum.result c.from_residual-in_err-sum.ensures.1 in
    rw (p.1, p.2) (stopped_nowhere c.in_err-sum.field-0.0 0 _ (rw (zero_goes s 0) at (c.in_err-sum.ensures s 0)))

pub summed-loop-alloc-init : goal.summed-loop-alloc-init
summed-loop-alloc-init t c =
    let s = c.args.scope.now in
    let b = c.args.cases.now.tuple in
    let inner = rw c.as_slice.ensures at (c.in_ok-inner.ensures c.args.visited.now) in
    sum_begins (expression_of c.args.part.now) c.args.binders.now s b c.in_ok-sum.sum c.in_ok-inner.inner.to_come c.args.visited.now inner.0 inner.1 (c.in_ok-sum.ensures s 0).1

pub summed-returns-in_err-sum-2 : goal.summed-returns-in_err-sum-2
summed-returns-in_err-sum-2 t c =
    let s = c.args.scope.now in
    let x = expression_of c.args.part.now in
    let here = c.advance.new.self.tuple in
    let p = err_from_is_err_and c.from_residual-in_err-sum-2.result c.from_residual-in_err-sum-2.ensures.1 in
    let tests = ap (λ us. comparisons_of (map test_of us)) c.as_slice-in-loop-alloc.ensures ∙ sym (ap tests_in (binders_are c.args.binders.now)) in
    let stop = subst (λ (ts : Comparisons). IsStopped c.in_err-sum-2.field-0.0 (tuple_tried (tests_tried ts s here) (all_pass ts s.names here) (expression_tried x s here) s (value_at c.loop-alloc.sum) (worth x s.names here) c.loop-alloc.visited))
    tests c.in_err-sum-2.ensures in
    rw (p.1, p.2) (stopped_same c.in_err-sum-2.field-0.0 _ _ c.loop-alloc.invariant.0
    (tuple_stops x (tests_in (binding_of c.args.binders.now)) s here c.advance.new.self.to_come c.loop-alloc.inner.to_come c.loop-alloc.sum c.loop-alloc-test.ensures c.in_err-sum-2.field-0.0 c.loop-alloc.visited stop))

pub summed-loop-alloc-preserved : goal.summed-loop-alloc-preserved
summed-loop-alloc-preserved t c =
    let s = c.args.scope.now in
    let x = expression_of c.args.part.now in
    let here = c.advance.new.self.tuple in
    let tests = ap (λ us. comparisons_of (map test_of us)) c.as_slice-in-loop-alloc.ensures ∙ sym (ap tests_in (binders_are c.args.binders.now)) in
    let W : Comparisons → Form → Type 0 = λ ts. IsFormOf (count_of s) (counted (all_pass ts s.names here) (value_at c.loop-alloc.sum) (worth x s.names here)) in
    let one = subst (λ (ts : Comparisons). GoesThrough (tuple_tried (tests_tried ts s here) (all_pass ts s.names here) (expression_tried x s here) s (value_at c.loop-alloc.sum) (worth x s.names here))
    c.loop-alloc.visited c.tuple_added.new.visited (W ts) (Ok c.in_ok-sum-2.sum)) tests c.in_ok-sum-2.ensures in
    let goes = tuple_goes x (tests_in (binding_of c.args.binders.now)) s here c.advance.new.self.to_come c.loop-alloc.inner.to_come c.loop-alloc.sum c.loop-alloc-test.ensures c.in_ok-sum-2.sum c.loop-alloc.visited c.tuple_added.new.visited one in
    (goes.0 ∙ c.loop-alloc.invariant.0, goes.1 ∙ c.loop-alloc.invariant.1, goes.2)

pub summed-returns : goal.summed-returns
summed-returns t c =
    sum_ends (expression_of c.args.part.now) c.args.binders.now c.args.scope.now c.args.cases.now.tuple c.loop-alloc.sum c.loop-alloc.inner.to_come c.args.visited.now c.loop-alloc.visited c.loop-alloc-test.ensures
    c.loop-alloc.invariant.0 c.loop-alloc.invariant.1 c.loop-alloc.invariant.2

-- The plain data of each tree, one level down.
use Rattle.std.proofs.Common.{◌≡◌, ◌∙◌, ap, sym, List, map}
use Rattle.sm_syntax.specs.declared.place.Place.{Place}
use Rattle.sm_syntax.specs.declared.tree.Name.{Name}
use Rattle.sm_syntax.specs.declared.tree.Number.{Number}
use Rattle.sm_syntax.specs.declared.tree.Sign.{Sign}
use Rattle.sm_syntax.specs.declared.expression.Expr.{Expr, out-Expr, fold_out-Expr}
use Rattle.sm_syntax.specs.declared.expression.Addend.{Addend, out-Addend, fold_out-Addend}
use Rattle.sm_syntax.specs.declared.expression.Term.{Term, out-Term, fold_out-Term}
use Rattle.sm_syntax.specs.declared.expression.Binders.{Binders, out-Binders, fold_out-Binders}
use Rattle.sm_syntax.specs.declared.expression.Test.{Test, out-Test, fold_out-Test}
use Rattle.sm_syntax.specs.declared.expression.Factor.{fold-roll-Factor}
use Rattle.sm_syntax.specs.declared.expression.Factor.TheVariants as f
use Rattle.sm_syntax.specs.declared.expression.Factor.TheOpen.{Factor-F}
use Rattle.sm_syntax.specs.Expressions.{Expression, expression, Product, product, Operand, number, named, Binding, binding, Comparison, comparison, addends_of, operands_of, expressions_of, comparisons_of, factor_step, expr_step, addend_step, term_step, binders_step, test_step, expression_of, binding_of, factor_of, addend_of, term_of, test_of}

pub expression_is : (x : Expr) → expression_of x ≡ expression (out-Expr x).place (out-Expr x).is_negated (term_of (out-Expr x).first) (addends_of (map addend_of (out-Expr x).more))
expression_is = fold_out-Expr Operand (Sign × Product) Binding Expression Product Comparison factor_step addend_step binders_step expr_step term_step test_step

pub addend_is : (x : Addend) → addend_of x ≡ ((out-Addend x).sign, term_of (out-Addend x).term)
addend_is = fold_out-Addend Operand (Sign × Product) Binding Expression Product Comparison factor_step addend_step binders_step expr_step term_step test_step

pub term_is : (x : Term) → term_of x ≡ product (out-Term x).place (factor_of (out-Term x).first) (operands_of (map factor_of (out-Term x).more))
term_is = fold_out-Term Operand (Sign × Product) Binding Expression Product Comparison factor_step addend_step binders_step expr_step term_step test_step

pub binders_are : (x : Binders) → binding_of x ≡ binding (out-Binders x).place (out-Binders x).first (out-Binders x).more (comparisons_of (map test_of (out-Binders x).tests))
binders_are = fold_out-Binders Operand (Sign × Product) Binding Expression Product Comparison factor_step addend_step binders_step expr_step term_step test_step

pub test_is : (x : Test) → test_of x ≡ comparison (out-Test x).place (expression_of (out-Test x).left) (out-Test x).relation (expression_of (out-Test x).right)
test_is = fold_out-Test Operand (Sign × Product) Binding Expression Product Comparison factor_step addend_step binders_step expr_step term_step test_step

pub number_is : (p : Place) (n : Number) → factor_of (f.Number p n) ≡ number p n
number_is p n =
    ap factor_of (sym (f.rolls-Number p n))
    ∙ fold-roll-Factor Operand (Sign × Product) Binding Expression Product Comparison factor_step addend_step binders_step expr_step term_step test_step (Factor-F.Number p n)

pub named_is : (p : Place) (n : Name) (xs : List Expr) → factor_of (f.Name p n xs) ≡ named p n (expressions_of (map expression_of xs))
named_is p n xs =
    ap factor_of (sym (f.rolls-Name p n xs))
    ∙ fold-roll-Factor Operand (Sign × Product) Binding Expression Product Comparison factor_step addend_step binders_step expr_step term_step test_step (Factor-F.Name p n xs)

-- Binders and expressions as plain data.
use Rattle.std.proofs.Common.{◌≡◌, ap, map}
use Rattle.sm_syntax.specs.declared.tree.Sign.{Sign}
use Rattle.sm_syntax.specs.declared.expression.Binders.{Binders, out-Binders, fold_out-Binders}
use Rattle.sm_syntax.specs.declared.expression.Expr.{Expr, out-Expr, fold_out-Expr}
use Rattle.sm_meaning.specs.Places.{place_of}
use Rattle.sm_syntax.specs.Expressions.{expression_of, Operand, Product, Binding, Expression, Comparison, binding, binding_of, comparisons_of, test_of, factor_step, addend_step, binders_step, expr_step, term_step, test_step}

pub binding_view : (b : Binders) → binding_of b ≡ binding (out-Binders b).place (out-Binders b).first (out-Binders b).more (comparisons_of (map test_of (out-Binders b).tests))
binding_view b = fold_out-Binders Operand (Sign × Product) Binding Expression Product Comparison factor_step addend_step binders_step expr_step term_step test_step b

pub expression_place : (x : Expr) → place_of (expression_of x) ≡ (out-Expr x).place
expression_place x = ap place_of (fold_out-Expr Operand (Sign × Product) Binding Expression Product Comparison factor_step addend_step binders_step expr_step term_step test_step x)

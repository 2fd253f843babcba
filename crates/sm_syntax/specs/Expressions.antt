-- Expressions and binders as plain data, and the steps that list them.
use Rattle.std.specs.Prelude.{Bool, List, [], ◌∷◌}
use Rattle.sm_syntax.specs.declared.place.Place.{Place}
use Rattle.sm_syntax.specs.declared.tree.Name.{Name}
use Rattle.sm_syntax.specs.declared.tree.Number.{Number}
use Rattle.sm_syntax.specs.declared.tree.Bind.{Bind}
use Rattle.sm_syntax.specs.declared.tree.Sign.{Sign}
use Rattle.sm_syntax.specs.declared.tree.Relation.{Relation}
use Rattle.sm_syntax.specs.declared.expression.Expr.{Expr, fold-Expr}
use Rattle.sm_syntax.specs.declared.expression.Binders.{Binders, fold-Binders}
use Rattle.sm_syntax.specs.declared.expression.Factor.{Factor, fold-Factor}
use Rattle.sm_syntax.specs.declared.expression.Term.{Term, fold-Term}
use Rattle.sm_syntax.specs.declared.expression.Addend.{Addend, fold-Addend}
use Rattle.sm_syntax.specs.declared.expression.Test.{Test, fold-Test}
use Rattle.sm_syntax.specs.declared.expression.Factor.TheOpen.{Expr-F, Addend-F, Term-F, Factor-F, Binders-F, Test-F}
use Rattle.sm_syntax.specs.declared.tree.Lit.{Lit}
use Rattle.sm_syntax.specs.declared.tree.LitRelation.{LitRelation}

-- ---- plain data

mutual
  -- its place, whether a minus stands before it, its first product, and more
  pub data Expression : Type 0 where
    expression : Place → Bool → Product → Addends → Expression

  pub data Addends : Type 0 where
    no_addends : Addends
    addend : Sign → Product → Addends → Addends

  pub data Product : Type 0 where
    product : Place → Operand → Operands → Product

  pub data Operands : Type 0 where
    no_operands : Operands
    times : Operand → Operands → Operands

  pub data Operand : Type 0 where
    number : Place → Number → Operand
    named : Place → Name → Expressions → Operand
    group : Place → Expression → Operand
    sum : Place → Expression → Binding → Operand

  pub data Expressions : Type 0 where
    no_expressions : Expressions
    another : Expression → Expressions → Expressions

  -- its first bind, more, and the tests
  pub data Binding : Type 0 where
    binding : Place → Bind → List Bind → Comparisons → Binding

  pub data Comparisons : Type 0 where
    no_comparisons : Comparisons
    besides : Comparison → Comparisons → Comparisons

  pub data Comparison : Type 0 where
    comparison : Place → Expression → Relation → Expression → Comparison

-- ---- the plain data of a tree, by one fold

abbrev pub addends_of : List (Sign × Product) → Addends
addends_of [] = no_addends
addends_of (x ∷ xs) = addend x.0 x.1 (addends_of xs)

abbrev pub operands_of : List Operand → Operands
operands_of [] = no_operands
operands_of (x ∷ xs) = times x (operands_of xs)

abbrev pub expressions_of : List Expression → Expressions
expressions_of [] = no_expressions
expressions_of (x ∷ xs) = another x (expressions_of xs)

abbrev pub comparisons_of : List Comparison → Comparisons
comparisons_of [] = no_comparisons
comparisons_of (x ∷ xs) = besides x (comparisons_of xs)

-- one level of a tree, with the plain data of each part
abbrev pub factor_step : Factor-F Operand (Sign × Product) Binding Expression Product Comparison → Operand
factor_step (Factor-F.Number p n) = number p n
factor_step (Factor-F.Name p n xs) = named p n (expressions_of xs)
factor_step (Factor-F.Group p x) = group p x
factor_step (Factor-F.Sum p x b) = sum p x b

abbrev pub expr_step : Expr-F Operand (Sign × Product) Binding Expression Product Comparison → Expression
expr_step x = expression x.place x.is_negated x.first (addends_of x.more)

abbrev pub addend_step : Addend-F Operand (Sign × Product) Binding Expression Product Comparison → Sign × Product
addend_step a = (a.sign, a.term)

abbrev pub term_step : Term-F Operand (Sign × Product) Binding Expression Product Comparison → Product
term_step t = product t.place t.first (operands_of t.more)

abbrev pub binders_step : Binders-F Operand (Sign × Product) Binding Expression Product Comparison → Binding
binders_step b = binding b.place b.first b.more (comparisons_of b.tests)

abbrev pub test_step : Test-F Operand (Sign × Product) Binding Expression Product Comparison → Comparison
test_step t = comparison t.place t.left t.relation t.right

abbrev pub expression_of : Expr → Expression
expression_of = fold-Expr Operand (Sign × Product) Binding Expression Product Comparison factor_step addend_step binders_step expr_step term_step test_step

abbrev pub binding_of : Binders → Binding
binding_of = fold-Binders Operand (Sign × Product) Binding Expression Product Comparison factor_step addend_step binders_step expr_step term_step test_step

abbrev pub factor_of : Factor → Operand
factor_of = fold-Factor Operand (Sign × Product) Binding Expression Product Comparison factor_step addend_step binders_step expr_step term_step test_step

abbrev pub addend_of : Addend → Sign × Product
addend_of = fold-Addend Operand (Sign × Product) Binding Expression Product Comparison factor_step addend_step binders_step expr_step term_step test_step

abbrev pub term_of : Term → Product
term_of = fold-Term Operand (Sign × Product) Binding Expression Product Comparison factor_step addend_step binders_step expr_step term_step test_step

abbrev pub test_of : Test → Comparison
test_of = fold-Test Operand (Sign × Product) Binding Expression Product Comparison factor_step addend_step binders_step expr_step term_step test_step

-- ---- literals

pub data Literal : Type 0 where
  a_literal : Place → Expression → LitRelation → Expression → Literal

abbrev pub literal_of : Lit → Literal
literal_of l = a_literal l.place (expression_of l.left) l.relation (expression_of l.right)

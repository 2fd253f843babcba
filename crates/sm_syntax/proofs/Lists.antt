-- The lists inside expressions and formulas, an item at a time.
use Rattle.std.proofs.Common.{◌≡◌, ap, refl, List, [], ◌∷◌}
use Rattle.sm_syntax.specs.declared.place.Place.{Place}
use Rattle.sm_syntax.specs.declared.tree.Sign.{Sign}
use Rattle.sm_syntax.specs.Grammar as g
use Rattle.sm_syntax.specs.Parsing.{Step, becomes}
use Rattle.sm_syntax.specs.Reading.{each}
use Rattle.sm_syntax.specs.Expressions.{Expression, Product, Operand, Comparison, addends_of, operands_of, expressions_of, comparisons_of}
use Rattle.sm_syntax.specs.Formulas.{Claim, Conjunction, claims_of, conjunctions_of, negated}
use Rattle.sm_syntax.specs.TreeSteps.{item_step, sign_then, product_then, operand_then, expression_then, comparison_then, addends_then, operands_then, expressions_then, comparisons_then, conjunction_then, conjunctions_then, claim_then, claims_then, negation_then}

abbrev pub addend_step : Sign × Product → List Step → List Step
addend_step a r = becomes g.more_terms (g.sign ∷ g.term ∷ g.more_terms ∷ []) ∷ sign_then a.0 (product_then a.1 r)

pub addends_each : (xs : List (Sign × Product)) (r : List Step) → each addend_step xs (becomes g.more_terms [] ∷ r) ≡ addends_then (addends_of xs) r
addends_each [] r = refl
addends_each (x ∷ xs) r = ap (addend_step x) (addends_each xs r)

abbrev pub factor_step : Operand → List Step → List Step
factor_step = item_step g.more_factors (g.token_times ∷ g.factor ∷ g.more_factors ∷ []) operand_then

pub operands_each : (xs : List Operand) (r : List Step) → each factor_step xs (becomes g.more_factors [] ∷ r) ≡ operands_then (operands_of xs) r
operands_each [] r = refl
operands_each (x ∷ xs) r = ap (factor_step x) (operands_each xs r)

abbrev pub expression_step : Expression → List Step → List Step
expression_step = item_step g.more_exprs (g.token_comma ∷ g.expr ∷ g.more_exprs ∷ []) expression_then

pub expressions_each : (xs : List Expression) (r : List Step) → each expression_step xs (becomes g.more_exprs [] ∷ r) ≡ expressions_then (expressions_of xs) r
expressions_each [] r = refl
expressions_each (x ∷ xs) r = ap (expression_step x) (expressions_each xs r)

abbrev pub test_step : Comparison → List Step → List Step
test_step = item_step g.more_tests (g.token_and ∷ g.test ∷ g.more_tests ∷ []) comparison_then

pub tests_each : (xs : List Comparison) (r : List Step) → each test_step xs (becomes g.more_tests [] ∷ r) ≡ comparisons_then (comparisons_of xs) r
tests_each [] r = refl
tests_each (x ∷ xs) r = ap (test_step x) (tests_each xs r)

abbrev pub conj_step : Conjunction → List Step → List Step
conj_step = item_step g.more_conjs (g.token_or ∷ g.conj ∷ g.more_conjs ∷ []) conjunction_then

pub conjs_each : (xs : List Conjunction) (r : List Step) → each conj_step xs (becomes g.more_conjs [] ∷ r) ≡ conjunctions_then (conjunctions_of xs) r
conjs_each [] r = refl
conjs_each (x ∷ xs) r = ap (conj_step x) (conjs_each xs r)

abbrev pub unit_step : Claim → List Step → List Step
unit_step = item_step g.more_units (g.token_and ∷ g.unit ∷ g.more_units ∷ []) claim_then

pub units_each : (xs : List Claim) (r : List Step) → each unit_step xs (becomes g.more_units [] ∷ r) ≡ claims_then (claims_of xs) r
units_each [] r = refl
units_each (x ∷ xs) r = ap (unit_step x) (units_each xs r)

pub negated_each : (ps : List Place) (x : Claim) (r : List Step) → each negation_then ps (claim_then x r) ≡ claim_then (negated ps x) r
negated_each [] x r = refl
negated_each (p ∷ ps) x r = ap (negation_then p) (negated_each ps x r)

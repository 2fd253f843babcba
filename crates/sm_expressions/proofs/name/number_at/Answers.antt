use Rattle.std.proofs.Common.{rules, ◌∙◌, subst, ℤ, map, FitsSigned}
use Rattle.std.specs.Int.{w64, w128}
use Rattle.std.proofs.lemmas.Int.{to_z-of_z}
use Rattle.std.proofs.lemmas.Result.{err_from_is_err_and}
use Rattle.std.specs.Prelude.{not, ◌==◌}
use Rattle.sm_syntax.specs.Expressions.{expression_of, expressions_of}
use Rattle.sm_forms.specs.Forms.{IsFormOf}
use Rattle.sm_meaning.specs.declared.refusal.Wrong.TheVariants.{Shape}
use Rattle.sm_meaning.specs.Refusals.{wrong_if}
use Rattle.sm_meaning.specs.Scopes.{count_of}
use Rattle.sm_meaning.specs.Trials.{tried, GoesThrough}
use Rattle.sm_meaning.specs.Worths.{whole}
use Rattle.sm_meaning.specs.ExpressionTrials.{expression_count, value_tried}
use Rattle.sm_expressions.proofs.Trying.{stops, then_goes}
use Rattle.sm_expressions.proofs.name.number_at.Goals as goal

pub returns-in_err-expect_count : goal.returns-in_err-expect_count
returns-in_err-expect_count c =
    let p = err_from_is_err_and c.from_residual.result c.from_residual.ensures.1 in
    rw (p.1, p.2) (λ s visited.
    stops c.in_err-expect_count.field-0.0 (tried (wrong_if (not (0 == expression_count (expressions_of (map expression_of c.args.parts.now)))) c.args.place Shape))
    (value_tried s (whole c.args.number)) visited (c.in_err-expect_count.ensures.tried visited))

pub returns : goal.returns
returns c = λ s visited.
    let narrow : FitsSigned w64 c.args.number = search rules in
    let fits : FitsSigned w128 c.from.result = search rules in
    let is = to_z-of_z w128 c.from.result fits ∙ c.from.ensures ∙ to_z-of_z w64 c.args.number narrow in
    then_goes (tried (wrong_if (not (0 == expression_count (expressions_of (map expression_of c.args.parts.now)))) c.args.place Shape))
    (value_tried s (whole c.args.number)) visited visited visited (IsFormOf (count_of s) (whole c.args.number)) c.number_form.result (c.in_ok-expect_count.ensures.tried visited).0
    (subst (λ (y : ℤ). GoesThrough (value_tried s (whole y)) visited visited (IsFormOf (count_of s) (whole y)) c.number_form.result) is (c.number_form.ensures s visited))

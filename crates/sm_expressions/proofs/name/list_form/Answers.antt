use Rattle.std.proofs.Common.{rules, ◌∙◌, ap, subst, ℕ, ℤ, pos, length, FitsSigned}
use Rattle.std.specs.Int.{w64, w128}
use Rattle.std.proofs.lemmas.Int.{to_z-of_z}
use Rattle.std.proofs.lemmas.Result.{err_from_is_err_and}
use Rattle.std.specs.Prelude.{not, unsigned_abs, slice_index_or}
use Rattle.sm_syntax.specs.Expressions.{expression_of}
use Rattle.sm_forms.specs.Forms.{IsFormOf}
use Rattle.sm_meaning.specs.declared.refusal.Wrong.TheVariants.{Index}
use Rattle.sm_meaning.specs.Refusals.{wrong_if}
use Rattle.sm_meaning.specs.Places.{place_of}
use Rattle.sm_meaning.specs.Scopes.{count_of}
use Rattle.sm_meaning.specs.Trials.{tried, GoesThrough}
use Rattle.sm_meaning.specs.Worths.{whole}
use Rattle.sm_meaning.specs.ExpressionTrials.{value_tried, is_within, places_of}
use Rattle.sm_expressions.proofs.Trying.{stops, then_goes}
use Rattle.sm_expressions.proofs.name.list_form.Goals as goal

pub returns-in_err-at : goal.returns-in_err-at
returns-in_err-at c =
    let narrow : FitsSigned w64 c.args.number = search rules in
    let p = err_from_is_err_and c.from_residual.result c.from_residual.ensures.1 in
    rw (p.1, p.2) (λ s visited.
    stops c.in_err-at.field-0.0 (tried (wrong_if (not (is_within (places_of (length c.args.entries.now)) c.args.number)) (place_of (expression_of c.args.part.now)) Index))
    (value_tried s (whole (slice_index_or c.args.entries.now (unsigned_abs c.args.number) (pos 0)))) visited (rw (to_z-of_z w64 c.args.number narrow) at (c.in_err-at.ensures.tried visited)))

pub returns : goal.returns
returns c = λ s visited.
    let z = slice_index_or c.args.entries.now (unsigned_abs c.args.number) (pos 0) in
    let fits : FitsSigned w128 c.from.result = search rules in
    let narrow : FitsSigned w64 c.args.number = search rules in
    let entry = slice_index_or c.args.entries.now c.in_ok-at.at (pos 0) in
    let short : FitsSigned w64 entry = search rules in
    let place = c.in_ok-at.ensures.place ∙ ap unsigned_abs (to_z-of_z w64 c.args.number narrow) in
    let is = to_z-of_z w128 c.from.result fits ∙ c.from.ensures ∙ to_z-of_z w64 entry short ∙ ap (λ (k : ℕ). slice_index_or c.args.entries.now k (pos 0)) place in
    then_goes (tried (wrong_if (not (is_within (places_of (length c.args.entries.now)) c.args.number)) (place_of (expression_of c.args.part.now)) Index))
    (value_tried s (whole z)) visited visited visited (IsFormOf (count_of s) (whole z)) c.number_form.result (rw (to_z-of_z w64 c.args.number narrow) at (c.in_ok-at.ensures.tried visited).0)
    (subst (λ (y : ℤ). GoesThrough (value_tried s (whole y)) visited visited (IsFormOf (count_of s) (whole y)) c.number_form.result) is (c.number_form.ensures s visited))

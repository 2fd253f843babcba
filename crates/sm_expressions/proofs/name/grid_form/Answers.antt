use Rattle.std.proofs.Common.{rules, ◌∙◌, ap, ap₂, sym, subst, ℕ, ℤ, pos, [], length, FitsSigned}
use Rattle.std.specs.Int.{w64, w128}
use Rattle.std.proofs.lemmas.Int.{to_z-of_z}
use Rattle.std.proofs.lemmas.Result.{err_from_is_err_and}
use Rattle.std.specs.Prelude.{not, unsigned_abs, slice_index_or}
use Rattle.sm_syntax.specs.Expressions.{expression_of}
use Rattle.sm_forms.specs.Forms.{IsFormOf}
use Rattle.sm_meaning.specs.declared.refusal.Wrong.TheVariants.{Index}
use Rattle.sm_meaning.specs.Refusals.{wrong_if}
use Rattle.sm_meaning.specs.Places.{place_of}
use Rattle.sm_meaning.specs.Scopes.{count_of}
use Rattle.sm_meaning.specs.Trials.{Trial, ◌▸◌, tried, GoesThrough, IsStopped}
use Rattle.sm_meaning.specs.Worths.{whole}
use Rattle.sm_meaning.specs.ExpressionTrials.{value_tried, is_within, places_of}
use Rattle.sm_expressions.proofs.Trying.{stops, stops_later, then_goes}
use Rattle.sm_expressions.proofs.name.grid_form.Goals as goal

pub returns-in_err-row : goal.returns-in_err-row
returns-in_err-row c =
    let low : FitsSigned w64 c.args.row = search rules in
    let far : FitsSigned w64 c.args.column = search rules in
    let p = err_from_is_err_and c.from_residual.result c.from_residual.ensures.1 in
    rw (p.1, p.2) (λ s visited.
    let first = tried (wrong_if (not (is_within (places_of (length c.args.rows.now)) c.args.row)) (place_of (expression_of c.args.row_part.now)) Index) in
    let second = tried (wrong_if (not (is_within (places_of (length (slice_index_or c.args.rows.now 0 []))) c.args.column)) (place_of (expression_of c.args.column_part.now)) Index) in
    let value = value_tried s (whole (slice_index_or (slice_index_or c.args.rows.now (unsigned_abs c.args.row) []) (unsigned_abs c.args.column) (pos 0))) in
    stops c.in_err-row.field-0.0 first (second ▸ value) visited (rw (to_z-of_z w64 c.args.row low) at (c.in_err-row.ensures.tried visited)))

pub returns-in_err-column : goal.returns-in_err-column
returns-in_err-column c =
    let low : FitsSigned w64 c.args.row = search rules in
    let far : FitsSigned w64 c.args.column = search rules in
    let p = err_from_is_err_and c.from_residual-in_err-column.result c.from_residual-in_err-column.ensures.1 in
    rw (p.1, p.2) (λ s visited.
    let first = tried (wrong_if (not (is_within (places_of (length c.args.rows.now)) c.args.row)) (place_of (expression_of c.args.row_part.now)) Index) in
    let second : ℕ → Trial = λ n. tried (wrong_if (not (is_within (places_of n) c.args.column)) (place_of (expression_of c.args.column_part.now)) Index) in
    let value = value_tried s (whole (slice_index_or (slice_index_or c.args.rows.now (unsigned_abs c.args.row) []) (unsigned_abs c.args.column) (pos 0))) in
    let stopped = subst (λ (n : ℕ). IsStopped c.in_err-column.field-0.0 (second n visited)) c.width.ensures (rw (to_z-of_z w64 c.args.column far) at (c.in_err-column.ensures.tried visited)) in
    stops_later c.in_err-column.field-0.0 first (second (length (slice_index_or c.args.rows.now 0 [])) ▸ value) visited visited (rw (to_z-of_z w64 c.args.row low) at (c.in_ok-row.ensures.tried visited).0)
    (stops c.in_err-column.field-0.0 (second (length (slice_index_or c.args.rows.now 0 []))) value visited stopped))

pub returns : goal.returns
returns c = λ s visited.
    let low : FitsSigned w64 c.args.row = search rules in
    let far : FitsSigned w64 c.args.column = search rules in
    let first = tried (wrong_if (not (is_within (places_of (length c.args.rows.now)) c.args.row)) (place_of (expression_of c.args.row_part.now)) Index) in
    let second : ℕ → Trial = λ n. tried (wrong_if (not (is_within (places_of n) c.args.column)) (place_of (expression_of c.args.column_part.now)) Index) in
    let at : ℕ → ℕ → ℤ = λ i j. slice_index_or (slice_index_or c.args.rows.now i []) j (pos 0) in
    let z = at (unsigned_abs c.args.row) (unsigned_abs c.args.column) in
    let n = length (slice_index_or c.args.rows.now 0 []) in
    let short : FitsSigned w64 c.entry.result = search rules in
    let fits : FitsSigned w128 c.from.result = search rules in
    let is = to_z-of_z w128 c.from.result fits ∙ c.from.ensures ∙ to_z-of_z w64 c.entry.result short ∙ c.entry.ensures
    ∙ ap₂ at (c.in_ok-row.ensures.place ∙ ap unsigned_abs (to_z-of_z w64 c.args.row low)) (c.in_ok-column.ensures.place ∙ ap unsigned_abs (to_z-of_z w64 c.args.column far)) in
    let goes = ap (λ (n : ℕ). second n visited) (sym c.width.ensures) ∙ (rw (to_z-of_z w64 c.args.column far) at (c.in_ok-column.ensures.tried visited).0) in
    then_goes first (second n ▸ value_tried s (whole z)) visited visited visited (IsFormOf (count_of s) (whole z)) c.number_form.result (rw (to_z-of_z w64 c.args.row low) at (c.in_ok-row.ensures.tried visited).0)
    (then_goes (second n) (value_tried s (whole z)) visited visited visited (IsFormOf (count_of s) (whole z)) c.number_form.result goes
    (subst (λ (y : ℤ). GoesThrough (value_tried s (whole y)) visited visited (IsFormOf (count_of s) (whole y)) c.number_form.result) is (c.number_form.ensures s visited)))

use Rattle.std.proofs.Common.{rules, ◌∙◌, pos, [], ◌∷◌, length, map, FitsSigned}
use Rattle.std.specs.Int.{w64}
use Rattle.std.proofs.lemmas.Int.{to_z-of_z}
use Rattle.std.proofs.lemmas.Result.{err_from_is_err_and}
use Rattle.std.specs.Prelude.{not, ◌==◌, slice_index_or}
use Rattle.sm_syntax.specs.Expressions.{expression_of, expressions_of}
use Rattle.sm_meaning.specs.declared.refusal.Wrong.TheVariants.{Shape}
use Rattle.sm_meaning.specs.Refusals.{wrong_if}
use Rattle.sm_meaning.specs.Scopes.{count_of}
use Rattle.sm_meaning.specs.Trials.{◌▸◌, tried}
use Rattle.sm_meaning.specs.ExpressionTrials.{expression_count, value_tried}
use Rattle.sm_expressions.proofs.Trying.{stops}
use Rattle.std.specs.Prelude.{None, Some}
use Rattle.sm_data.specs.declared.table.Table.TheVariants as table
use Rattle.sm_meaning.specs.Scopes as thing
use Rattle.sm_meaning.specs.Worths.{named_worth}
use Rattle.sm_meaning.specs.ExpressionTrials.{indices_within, places_of}
use Rattle.sm_expressions.proofs.Entries.{two_of, two_by, grid_goes}
use Rattle.sm_expressions.proofs.name.grid_at.Goals as goal

pub returns-in_err-expect_count : goal.returns-in_err-expect_count
returns-in_err-expect_count c =
    let p = err_from_is_err_and c.from_residual.result c.from_residual.ensures.1 in
    let xs = expressions_of (map expression_of c.args.parts.now) in
    rw (p.1, p.2) (λ s visited.
    stops c.in_err-expect_count.field-0.0 (tried (wrong_if (not (2 == expression_count xs)) c.args.place Shape))
    (indices_within (places_of (length c.args.rows.now) ∷ places_of (length (slice_index_or c.args.rows.now 0 [])) ∷ []) c.args.numbers.now xs ▸ value_tried s (named_worth None (Some (thing.table (table.Grid c.args.rows.now))) c.args.numbers.now)) visited (c.in_err-expect_count.ensures.tried visited))

pub returns : goal.returns
returns c = λ s visited.
    let y = slice_index_or c.args.numbers.now 0 (pos 0) in
    let z = slice_index_or c.args.numbers.now 1 (pos 0) in
    let low : FitsSigned w64 y = search rules in
    let far : FitsSigned w64 z = search rules in
    let x = c.index-parts-0.result in
    let w = c.index-parts-1.result in
    let numbers = two_of c.args.numbers.now (pos 0) (c.requires ∙ c.in_ok-expect_count.ensures.count) in
    let parts = two_by c.args.parts.now x w c.in_ok-expect_count.ensures.count c.index-parts-0.is c.index-parts-1.is in
    grid_goes s c.args.place c.args.rows.now c.args.numbers.now c.args.parts.now y z x w visited c.grid_form.result numbers parts (rw (to_z-of_z w64 y low, to_z-of_z w64 z far) at (c.grid_form.ensures s visited))

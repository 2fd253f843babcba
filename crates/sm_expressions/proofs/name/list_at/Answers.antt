use Rattle.std.proofs.Common.{rules, ◌∙◌, ap, sym, pos, [], ◌∷◌, length, map, FitsSigned}
use Rattle.std.specs.Int.{w64}
use Rattle.std.proofs.lemmas.Int.{to_z-of_z}
use Rattle.std.proofs.lemmas.Result.{err_from_is_err_and}
use Rattle.std.specs.Prelude.{not, ◌==◌, slice_index_or}
use Rattle.sm_syntax.specs.declared.expression.Expr.{Expr}
use Rattle.sm_syntax.specs.Expressions.{expression_of, expressions_of}
use Rattle.sm_meaning.specs.declared.refusal.Wrong.TheVariants.{Shape}
use Rattle.sm_meaning.specs.Refusals.{wrong_if}
use Rattle.sm_meaning.specs.Scopes.{count_of}
use Rattle.sm_meaning.specs.Trials.{◌▸◌, tried}
use Rattle.sm_meaning.specs.ExpressionTrials.{expression_count, value_tried}
use Rattle.sm_expressions.proofs.Trying.{stops}
use Rattle.std.specs.Prelude.{None, Some}
use Rattle.sm_data.specs.declared.table.Table.TheVariants as table
use Rattle.sm_meaning.specs.Scopes as thing
use Rattle.sm_meaning.specs.Worths.{named_worth}
use Rattle.sm_meaning.specs.ExpressionTrials.{indices_within, places_of}
use Rattle.sm_expressions.proofs.Entries.{one_of, list_goes}
use Rattle.sm_expressions.proofs.name.list_at.Goals as goal

pub returns-in_err-expect_count : goal.returns-in_err-expect_count
returns-in_err-expect_count c =
    let p = err_from_is_err_and c.from_residual.result c.from_residual.ensures.1 in
    let xs = expressions_of (map expression_of c.args.parts.now) in
    rw (p.1, p.2) (λ s visited.
    stops c.in_err-expect_count.field-0.0 (tried (wrong_if (not (1 == expression_count xs)) c.args.place Shape))
    (indices_within (places_of (length c.args.entries.now) ∷ []) c.args.numbers.now xs ▸ value_tried s (named_worth None (Some (thing.table (table.List c.args.entries.now))) c.args.numbers.now)) visited (c.in_err-expect_count.ensures.tried visited))

pub returns : goal.returns
returns c = λ s visited.
    let z = slice_index_or c.args.numbers.now 0 (pos 0) in
    let narrow : FitsSigned w64 z = search rules in
    let x = c.index-parts-0.result in
    let numbers = one_of c.args.numbers.now (pos 0) (c.requires ∙ c.in_ok-expect_count.ensures.count) in
    let parts = one_of c.args.parts.now x c.in_ok-expect_count.ensures.count ∙ ap (λ (y : Expr). y ∷ []) (sym c.index-parts-0.is) in
    list_goes s c.args.place c.args.entries.now c.args.numbers.now c.args.parts.now z x visited c.list_form.result numbers parts (rw (to_z-of_z w64 z narrow) at (c.list_form.ensures s visited))

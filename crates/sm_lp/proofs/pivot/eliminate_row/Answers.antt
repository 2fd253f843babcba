use Rattle.std.proofs.Common.{◌∙◌, sym, ap, List, refl, arith, ◌+◌}
use Rattle.std.proofs.lemmas.Result.{err_from_is_err_and}
use Rattle.std.proofs.lemmas.Int.{ints}
use Rattle.sm_frac.specs.declared.fraction.Frac.{Frac}
use Rattle.sm_certificate.specs.Numbers.{number_at}
use Rattle.sm_certificate.proofs.FineLemmas.{value_of_zero}
use Rattle.sm_lp.proofs.PivotSteps.{eliminated_none, eliminated_some, last_passed}
use Rattle.sm_lp.proofs.pivot.eliminate_row.Goals as goal

pub returns-then-n-eq0-clause-row : goal.returns-then-n-eq0-clause-row
returns-then-n-eq0-clause-row c = eliminated_none c.args.cells.items c.args.quotients.now c.args.start c.args.column (sym (ap (λ (xs : List Frac). number_at xs (c.args.start + c.args.column)) c.deref.ensures.value) ∙ c.cell_of-factor.ensures ∙ value_of_zero c.cell_of-factor.result (omega (arith, ints)))

pub subtract_row-requires-clause-factor : goal.subtract_row-requires-clause-factor
subtract_row-requires-clause-factor c = sym c.cell_of-factor.ensures ∙ ap (λ (xs : List Frac). number_at xs (c.args.start + c.args.column)) c.deref.ensures.value

pub returns-in_err-cells-2-clause-passed : goal.returns-in_err-cells-2-clause-passed
returns-in_err-cells-2-clause-passed c =
    let p = err_from_is_err_and c.from_residual-in_err-cells-2.result c.from_residual-in_err-cells-2.ensures.1 in
    let e = c.in_err-cells-2.field-0.0 in
    let factor = sym c.cell_of-factor.ensures ∙ ap (λ (xs : List Frac). number_at xs (c.args.start + c.args.column)) c.deref.ensures.value in
    rw (p.1, p.2) (last_passed c.args.cells.items c.args.quotients.now c.args.start c.args.column c.cell_of-factor.result c.cell_of.result e c.requires.column factor (sym c.cell_of.ensures) c.in_err-cells-2.ensures.carried (c.in_err-cells-2.ensures.passed.0 refl))

pub returns-clause-row : goal.returns-clause-row
returns-clause-row c =
    let factor = sym c.cell_of-factor.ensures ∙ ap (λ (xs : List Frac). number_at xs (c.args.start + c.args.column)) c.deref.ensures.value in
    eliminated_some c.args.cells.items c.in_ok-cells.cells.items c.args.quotients.now c.args.start c.args.column c.cell_of-factor.result c.cell_of.result c.in_ok-cells-2.field-0 (omega (arith, c.args.cells.ok.0)) c.requires.column factor (sym c.cell_of.ensures) c.in_ok-cells-2.ensures.exact (λ p. absurd (let e = c.in_ok-cells-2.ensures.passed.1 p in cc)) c.in_ok-cells.ensures.row

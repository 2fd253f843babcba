use Rattle.std.proofs.Common.{◌∙◌, sym, ap, List, refl, arith}
use Rattle.std.proofs.lemmas.Result.{err_from_is_err_and}
use Rattle.std.proofs.lemmas.Int.{ints}
use Rattle.sm_frac.specs.declared.fraction.Frac.{Frac}
use Rattle.sm_frac.specs.Frac.{value_of}
use Rattle.sm_certificate.specs.Numbers.{number_at}
use Rattle.sm_certificate.proofs.FineLemmas.{value_of_zero}
use Rattle.sm_lp.proofs.PivotSteps.{subtracted_none, subtracted_some, product_passed, difference_passed}
use Rattle.sm_lp.proofs.pivot.subtract_at.Goals as goal

pub returns-then-n-eq0-clause-subtracted : goal.returns-then-n-eq0-clause-subtracted
returns-then-n-eq0-clause-subtracted c = subtracted_none c.args.cells.items c.args.place (value_of c.args.factor) (value_of c.args.quotient) (value_of_zero c.args.quotient (omega (arith, ints)))

pub returns-in_err-product-clause-passed : goal.returns-in_err-product-clause-passed
returns-in_err-product-clause-passed c =
    let p = err_from_is_err_and c.from_residual.result c.from_residual.ensures.1 in
    rw (p.1, p.2) (product_passed (number_at c.args.cells.items c.args.place) c.args.factor c.args.quotient c.in_err-product.field-0.0 c.in_err-product.ensures.carried (c.in_err-product.ensures.passed.0 refl))

pub returns-in_err-cells-clause-passed : goal.returns-in_err-cells-clause-passed
returns-in_err-cells-clause-passed c =
    let p = err_from_is_err_and c.from_residual-in_err-cells.result c.from_residual-in_err-cells.ensures.1 in
    let was = sym (ap (λ (xs : List Frac). number_at xs c.args.place) c.deref.ensures.value) ∙ c.cell_of-old.ensures in
    rw (p.1, p.2) (difference_passed (number_at c.args.cells.items c.args.place) c.cell_of-old.result c.args.factor c.args.quotient c.in_ok-product.product c.in_err-cells.field-0.0 was c.in_ok-product.ensures.exact c.in_err-cells.ensures.carried (c.in_err-cells.ensures.passed.0 refl))

pub returns-clause-subtracted : goal.returns-clause-subtracted
returns-clause-subtracted c =
    let was = sym (ap (λ (xs : List Frac). number_at xs c.args.place) c.deref.ensures.value) ∙ c.cell_of-old.ensures in
    subtracted_some c.args.cells.items c.args.place c.args.factor c.args.quotient c.in_ok-product.product c.cell_of-old.result c.in_ok-cells.field-0 (omega (arith, c.args.cells.ok.0)) was c.in_ok-product.ensures.exact c.in_ok-cells.ensures.exact (λ p. absurd (let e = c.in_ok-product.ensures.passed.1 p in cc)) (λ p. absurd (let e = c.in_ok-cells.ensures.passed.1 p in cc))

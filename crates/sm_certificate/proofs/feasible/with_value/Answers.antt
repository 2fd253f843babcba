use Rattle.std.proofs.Common.{arith, unsigned_abs}
use Rattle.std.proofs.lemmas.Int.{ints, to_z-of_z}
use Rattle.std.proofs.lemmas.Result.{err_from_is_err_and}
use Rattle.sm_frac.specs.Rational.{whole_ℚ, fraction}
use Rattle.sm_frac.specs.Frac.{value_of}
use Rattle.sm_certificate.proofs.PointLemmas.{zero_value, value_passed, value_more, value_product_passed}
use Rattle.sm_certificate.proofs.feasible.with_value.Goals as goal

pub returns-then-numerator-eq0-clause-exact : goal.returns-then-numerator-eq0-clause-exact
returns-then-numerator-eq0-clause-exact c = zero_value (value_of c.args.sum) (whole_ℚ c.args.number) c.args.numerator c.args.denominator c.requires.denominator (let f = c.ranges.numerator in omega (arith, ints))

pub returns-in_err-value-clause-passed : goal.returns-in_err-value-clause-passed
returns-in_err-value-clause-passed c =
    let p = err_from_is_err_and c.from_residual.result c.from_residual.ensures.1 in
    let e = c.in_err-value.field-0.0 in
    let n = c.ranges.numerator in
    let d = c.ranges.denominator in
    rw (p.1, p.2) (value_passed (value_of c.args.sum) (whole_ℚ c.args.number) c.args.numerator c.args.denominator e.op e.left e.right (simp to_z-of_z at c.in_err-value.ensures.passed))

pub returns-clause-exact : goal.returns-clause-exact
returns-clause-exact c =
    let m = c.ranges.number in
    let n = c.ranges.numerator in
    let d = c.ranges.denominator in
    value_more c.with_product.result (value_of c.args.sum) c.fraction_of.result c.in_ok-value.value c.args.number (fraction c.args.numerator (unsigned_abs c.args.denominator)) (simp to_z-of_z at c.fraction_of.ensures) (simp to_z-of_z at c.in_ok-value.ensures.exact) c.with_product.ensures.exact

pub returns-clause-passed : goal.returns-clause-passed
returns-clause-passed c =
    let m = c.ranges.number in
    let n = c.ranges.numerator in
    let d = c.ranges.denominator in
    value_product_passed c.with_product.result (value_of c.args.sum) c.fraction_of.result c.in_ok-value.value c.args.number c.args.numerator c.args.denominator (simp to_z-of_z at c.fraction_of.ensures) (simp to_z-of_z at c.in_ok-value.ensures.exact) c.with_product.ensures.passed

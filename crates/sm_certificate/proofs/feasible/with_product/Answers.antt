use Rattle.std.proofs.Common.{arith, refl}
use Rattle.std.proofs.lemmas.Int.{ints}
use Rattle.std.proofs.lemmas.Result.{err_from_is_err_and}
use Rattle.sm_frac.specs.Frac.{value_of}
use Rattle.sm_frac.specs.declared.operation.Op.TheVariants.{Times}
use Rattle.sm_certificate.specs.Checking.{IsProductStep}
use Rattle.sm_certificate.proofs.CertificateLemmas.{passes_at}
use Rattle.sm_certificate.proofs.FineLemmas.{value_of_zero}
use Rattle.sm_certificate.proofs.PointLemmas.{product_none, other_none, sum_exact, sum_passed, zero_product_fine, product_zero_fine, sum_fine}
use Rattle.sm_certificate.proofs.feasible.with_product.Goals as goal

pub returns-then-n-eq0-clause-exact : goal.returns-then-n-eq0-clause-exact
returns-then-n-eq0-clause-exact c = product_none (value_of c.args.sum) (value_of c.args.number) (value_of c.args.other) (value_of_zero c.args.number (omega (arith, ints)))

pub returns-then-n-eq0-2-clause-exact : goal.returns-then-n-eq0-2-clause-exact
returns-then-n-eq0-2-clause-exact c = other_none (value_of c.args.sum) (value_of c.args.number) (value_of c.args.other) (value_of_zero c.args.other (omega (arith, ints)))

pub returns-in_err-product-clause-passed : goal.returns-in_err-product-clause-passed
returns-in_err-product-clause-passed c =
    let p = err_from_is_err_and c.from_residual.result c.from_residual.ensures.1 in
    rw (p.1, p.2) (passes_at (IsProductStep (value_of c.args.sum) (value_of c.args.number) (value_of c.args.other)) Times c.args.number c.args.other c.in_err-product.field-0.0 c.in_err-product.ensures.carried (c.in_err-product.ensures.passed.0 refl) (refl, refl))

pub returns-clause-exact : goal.returns-clause-exact
returns-clause-exact c = sum_exact c.plus.result c.args.sum c.args.number c.args.other c.in_ok-product.product c.in_ok-product.ensures.exact c.plus.ensures.exact

pub returns-clause-passed : goal.returns-clause-passed
returns-clause-passed c = sum_passed c.plus.result c.args.sum c.args.number c.args.other c.in_ok-product.product c.in_ok-product.ensures.exact c.plus.ensures.passed.0 c.plus.ensures.carried

pub returns-then-n-eq0-clause-fine : goal.returns-then-n-eq0-clause-fine
returns-then-n-eq0-clause-fine c = zero_product_fine (value_of c.args.sum) (value_of c.args.number) (value_of c.args.other) (value_of_zero c.args.number (omega (arith, ints)))

pub returns-then-n-eq0-2-clause-fine : goal.returns-then-n-eq0-2-clause-fine
returns-then-n-eq0-2-clause-fine c = product_zero_fine (value_of c.args.sum) (value_of c.args.number) (value_of c.args.other) (value_of_zero c.args.other (omega (arith, ints)))

pub returns-clause-fine : goal.returns-clause-fine
returns-clause-fine c = sum_fine c.plus.result c.args.sum c.args.number c.args.other c.in_ok-product.product (λ p. absurd (let no = c.in_ok-product.ensures.passed.1 p in cc)) c.in_ok-product.ensures.exact c.plus.ensures.passed.1

use Rattle.std.proofs.Common.{arith}
use Rattle.std.proofs.lemmas.Int.{ints}
use Rattle.sm_frac.specs.Rational.{whole_ℚ}
use Rattle.sm_frac.specs.Frac.{value_of}
use Rattle.sm_certificate.specs.Checking.{least_end}
use Rattle.sm_certificate.proofs.FineLemmas.{value_of_zero, zero_parts}
use Rattle.sm_certificate.proofs.PointLemmas.{product_none}
use Rattle.sm_certificate.proofs.CombinationLemmas.{zero_end_fine, end_exact, end_fine, end_passed}
use Rattle.sm_certificate.proofs.combination.with_end.Goals as goal

pub returns-then-n-eq0-clause-exact : goal.returns-then-n-eq0-clause-exact
returns-then-n-eq0-clause-exact c = product_none (value_of c.args.bound) (value_of c.args.coefficient) (least_end (value_of c.args.coefficient) (whole_ℚ c.args.ends.now.0) (whole_ℚ c.args.ends.now.1)) (value_of_zero c.args.coefficient (omega (arith, ints)))

pub returns-then-n-eq0-clause-fine : goal.returns-then-n-eq0-clause-fine
returns-then-n-eq0-clause-fine c = zero_end_fine (value_of c.args.bound) (value_of c.args.coefficient) (whole_ℚ c.args.ends.now.0) (whole_ℚ c.args.ends.now.1) (value_of_zero c.args.coefficient (omega (arith, ints)))

pub returns-clause-exact : goal.returns-clause-exact
returns-clause-exact c = end_exact c.with_product.result (value_of c.args.bound) (value_of c.args.coefficient) (whole_ℚ c.args.ends.now.0) (whole_ℚ c.args.ends.now.1) (value_of c.end_for.result) c.end_for.ensures c.with_product.ensures.exact

pub returns-clause-fine : goal.returns-clause-fine
returns-clause-fine c = end_fine c.with_product.result (value_of c.args.bound) (value_of c.args.coefficient) (whole_ℚ c.args.ends.now.0) (whole_ℚ c.args.ends.now.1) (value_of c.end_for.result) c.end_for.ensures c.with_product.ensures.fine

pub returns-clause-passed : goal.returns-clause-passed
returns-clause-passed c = end_passed c.with_product.result (value_of c.args.bound) (value_of c.args.coefficient) (whole_ℚ c.args.ends.now.0) (whole_ℚ c.args.ends.now.1) (value_of c.end_for.result) (λ e. let z = (zero_parts c.args.coefficient e).0 in absurd (omega (arith, ints))) c.end_for.ensures c.with_product.ensures.passed

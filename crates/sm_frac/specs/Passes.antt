-- When an operation passes the range.
use Rattle.std.specs.Prelude.{ℤ, pos, neg_ℤ, unsigned_abs, ℕ, ◌<◌, ◌^◌}
use Rattle.sm_frac.specs.declared.operation.Op.{Op}
use Rattle.sm_frac.specs.declared.operation.Op.TheVariants.{Plus, Minus, Times, Over, Lcm}
use Rattle.sm_frac.specs.declared.fraction.Frac.{Frac}
use Rattle.sm_frac.specs.Lowest.{IsLeastMultiple}
use Rattle.sm_frac.specs.Frac.{SumPasses, ProductPasses, signed_like}

-- the least common multiple is above 2 ^ 52
abbrev pub LcmPasses : ℤ → ℤ → Type 0
LcmPasses n m = (k : ℕ) → IsLeastMultiple (unsigned_abs n) (unsigned_abs m) k → 2 ^ 52 < k

-- The operation on these fractions passes the range. A difference is the sum with the negated number, a quotient the product with the reciprocal.
abbrev pub Passes : Op → Frac → Frac → Type 0
Passes Plus f g = SumPasses f.n f.d g.n g.d
Passes Minus f g = SumPasses f.n f.d (neg_ℤ g.n) g.d
Passes Times f g = ProductPasses f.n f.d g.n g.d
Passes Over f g = ProductPasses f.n f.d (signed_like g.n g.d) (pos (unsigned_abs g.n))
Passes Lcm f g = LcmPasses f.n g.n

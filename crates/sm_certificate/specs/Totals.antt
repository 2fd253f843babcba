-- Sums of rationals.
use Rattle.std.specs.Prelude.{ℕ, suc, zero}
use Rattle.sm_frac.specs.Rational.{ℚ, ◌+ℚ◌, zero_ℚ}

-- the sum of f at the places below n
unfoldable pub total : ℕ → (ℕ → ℚ) → ℚ
total zero f = zero_ℚ
total (suc n) f = total n f +ℚ f n

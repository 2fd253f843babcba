-- The whole numbers next to a number.
use Rattle.std.specs.Prelude.{ℤ, ◌≤ℤ◌}
use Rattle.sm_frac.specs.Rational.{ℚ, ◌≤ℚ◌, whole_ℚ}

-- the greatest whole number that is at most x
pub record IsFloor (x : ℚ) (z : ℤ) : Type 0 where
  pub below : whole_ℚ z ≤ℚ x
  pub greatest : (w : ℤ) → whole_ℚ w ≤ℚ x → w ≤ℤ z

-- the least whole number that is at least x
pub record IsCeiling (x : ℚ) (z : ℤ) : Type 0 where
  pub above : x ≤ℚ whole_ℚ z
  pub least : (w : ℤ) → x ≤ℚ whole_ℚ w → z ≤ℤ w

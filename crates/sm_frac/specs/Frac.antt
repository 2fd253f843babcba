-- The number of a fraction, and when an operation on two fractions passes the range.
use Rattle.std.specs.Prelude.{ℤ, pos, negsuc, unsigned_abs, ◌*ℤ◌, ◌+ℤ◌, neg_ℤ, ◌⊎◌}
use Rattle.sm_frac.specs.declared.fraction.Frac.{Frac}
use Rattle.sm_frac.specs.Rational.{ℚ, fraction}
use Rattle.sm_frac.specs.Lowest.{IsBeyond, LowestTerms}

-- the number that a fraction stands for
unfoldable pub value_of : Frac → ℚ
value_of f = fraction f.n (unsigned_abs f.d)

-- d with the sign of n
abbrev pub signed_like : ℤ → ℤ → ℤ
signed_like (pos n) d = d
signed_like (negsuc n) d = neg_ℤ d

-- The sum of n/d and m/e passes the range: with d/e in lowest terms left/right, a numerator over the least common
-- denominator d * right, the sum of the two numerators, or that denominator is out of range.
pub record SumPasses (n d m e : ℤ) : Type 0 where
  pub left : ℤ
  pub right : ℤ
  pub terms : LowestTerms d e left right
  pub beyond : IsBeyond (n *ℤ right) ⊎ (IsBeyond (m *ℤ left) ⊎ (IsBeyond (n *ℤ right +ℤ m *ℤ left) ⊎ IsBeyond (d *ℤ right)))

-- The product of n/d and m/e passes the range: with n/e in lowest terms top/bottom and m/d in lowest terms
-- other_top/other_bottom, the product of the two numerators or that of the two denominators is out of range.
pub record ProductPasses (n d m e : ℤ) : Type 0 where
  pub top : ℤ
  pub bottom : ℤ
  pub other_top : ℤ
  pub other_bottom : ℤ
  pub terms : LowestTerms n e top bottom
  pub other_terms : LowestTerms m d other_top other_bottom
  pub beyond : IsBeyond (top *ℤ other_top) ⊎ IsBeyond (other_bottom *ℤ bottom)

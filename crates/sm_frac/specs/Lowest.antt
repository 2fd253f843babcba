-- Lowest terms, the range, and the least common multiple.
use Rattle.std.specs.Prelude.{◌≡◌, ℤ, pos, unsigned_abs, ℕ, ◌^◌, ◌≤◌, ◌*ℤ◌, ◌<ℤ◌}
use Rattle.std.specs.Int.{IsGcd, ◌∣◌}

-- n and d have no common divisor but 1
pub record IsLowest (n d : ℤ) : Type 0 where
  pub apart : IsGcd (unsigned_abs n) (unsigned_abs d) 1

-- z is out of range, which goes from -(2 ^ 127 - 1) to 2 ^ 127 - 1
abbrev pub IsBeyond : ℤ → Type 0
IsBeyond z = 2 ^ 127 ≤ unsigned_abs z

-- m/e is n/d in lowest terms
pub record LowestTerms (n d m e : ℤ) : Type 0 where
  pub same : m *ℤ d ≡ n *ℤ e
  pub above : pos 0 <ℤ e
  pub lowest : IsLowest m e

-- m is a multiple of a and of b, and each multiple of both is one of m
pub record IsLeastMultiple (a b m : ℕ) : Type 0 where
  pub left : a ∣ m
  pub right : b ∣ m
  pub least : (k : ℕ) → a ∣ k → b ∣ k → m ∣ k

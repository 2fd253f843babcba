-- Sums of variables with coefficients.
use Rattle.std.specs.Prelude.{◌≢◌, ℕ, ◌+◌, ◌<◌, List, [], ◌∷◌, length, ℤ, pos, ◌+ℤ◌, ◌*ℤ◌, All, slice_index_or}
use Rattle.sm_kinds.specs.declared.var.Var.{Var}
use Rattle.sm_kinds.specs.Limits.{IsSmall}

-- the sum of the terms, times the denominator
abbrev pub sum_at : List (ℕ × ℤ) → (ℕ → ℤ) → ℤ
sum_at [] numerator = pos 0
sum_at (t ∷ ts) numerator = (t.1 *ℤ numerator t.0) +ℤ sum_at ts numerator

-- the variables of the terms rise
abbrev pub VariablesRise : List (ℕ × ℤ) → Type 0
VariablesRise terms = (k : ℕ) → k + 1 < length terms → (slice_index_or terms k (0, pos 0)).0 < (slice_index_or terms (k + 1) (0, pos 0)).0

-- the sum is over known variables, each once and in order, with coefficients other than 0 within 2^31
pub record IsSum (vars : List Var) (terms : List (ℕ × ℤ)) : Type 0 where
  pub known : All (λ t. t.0 < length vars) terms
  pub rising : VariablesRise terms
  pub nonzero : All (λ t. t.1 ≢ pos 0) terms
  pub small : All (λ t. IsSmall t.1) terms

-- Assignments of fractions to variables, over any common denominator.
use Rattle.std.specs.Prelude.{◌≡◌, ℕ, ℤ, ◌*ℤ◌, Bool}
use Rattle.std.specs.Ordering.{int_eq}
use Rattle.sm_kinds.specs.Vars.{IsMultiple}

-- variable i has the value numerator i / denominator
pub record Point : Type 0 where
  pub denominator : ℤ
  pub numerator : ℕ → ℤ

-- the variable has this whole value
abbrev pub has_value : Point → ℕ → ℤ → Bool
has_value a i v = int_eq (a.numerator i) (v *ℤ a.denominator)

abbrev pub HasValue : Point → ℕ → ℤ → Type 0
HasValue a i v = a.numerator i ≡ v *ℤ a.denominator

-- the variable's fraction is a whole number
abbrev pub IsWhole : Point → ℕ → Type 0
IsWhole a i = IsMultiple (a.numerator i) a.denominator

-- Linear: the sum compares with the bound as written.
use Rattle.std.specs.Prelude.{◌≡◌, ℕ, ◌≤◌, List, length, ℤ, ◌*ℤ◌, ◌≤ℤ◌, All}
use Rattle.sm_kinds.specs.declared.var.Var.{Var}
use Rattle.sm_kinds.specs.declared.linear.Cmp.{Cmp}
use Rattle.sm_kinds.specs.declared.linear.Cmp.TheVariants.{AtMost, AtLeast, Equal}
use Rattle.sm_kinds.specs.declared.linear.LinRow.{LinRow}
use Rattle.sm_kinds.specs.Limits.{IsSmall, most_terms}
use Rattle.sm_kinds.specs.Points.{Point}
use Rattle.sm_kinds.specs.Sums.{sum_at, IsSum}

-- ---- its limits, and how its parts fit

pub record IsLinear (vars : List Var) (row : LinRow) : Type 0 where
  pub sum : IsSum vars row.terms
  pub few : length row.terms ≤ most_terms
  pub bound : IsSmall row.bound

-- ---- its size

abbrev pub linear_size : LinRow → ℕ
linear_size row = length row.terms

-- ---- its variables

-- each of its variables has this property
abbrev pub EachLinearVar : (ℕ → Type 0) → LinRow → Type 0
EachLinearVar P row = All (λ t. P t.0) row.terms

-- ---- when it holds

-- the sum compares with the bound
abbrev pub Compares : Cmp → ℤ → ℤ → Type 0
Compares AtMost sum bound = sum ≤ℤ bound
Compares AtLeast sum bound = bound ≤ℤ sum
Compares Equal sum bound = sum ≡ bound

-- The weighted values of its variables, added up, are at most, at least or just the bound.
abbrev pub SatLinear : LinRow → Point → Type 0
SatLinear row a = Compares row.cmp (sum_at row.terms a.numerator) (row.bound *ℤ a.denominator)

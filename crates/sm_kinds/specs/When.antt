-- When: some literal is false, or the row holds.
use Rattle.std.specs.Prelude.{◌≡◌, ℕ, ◌+◌, List, length, Bool, true, All}
use Rattle.std.specs.List.{list_all}
use Rattle.sm_kinds.specs.declared.var.Var.{Var}
use Rattle.sm_kinds.specs.declared.literal.Literal.{Literal}
use Rattle.sm_kinds.specs.declared.linear.LinRow.{LinRow}
use Rattle.sm_kinds.specs.Limits.{greatest_number}
use Rattle.sm_kinds.specs.Literals.{is_true, IsLiteral}
use Rattle.sm_kinds.specs.Linear.{IsLinear, linear_size, EachLinearVar, SatLinear}
use Rattle.sm_kinds.specs.Logic.{EachLiteralVar}
use Rattle.sm_kinds.specs.Points.{Point}

-- ---- its limits, and how its parts fit

pub record IsWhen (vars : List Var) (literals : List Literal) (row : LinRow) : Type 0 where
  pub conditions : All (IsLiteral vars greatest_number) literals
  pub fits : IsLinear vars row

-- ---- its size

abbrev pub when_size : List Literal → LinRow → ℕ
when_size literals row = length literals + linear_size row

-- ---- its variables

-- each of its variables has this property
abbrev pub EachWhenVar : (ℕ → Type 0) → List Literal → LinRow → Type 0
EachWhenVar P literals row = EachLiteralVar P literals × EachLinearVar P row

-- ---- when it holds

abbrev pub all_true : Point → List Literal → Bool
all_true a literals = list_all (is_true a) literals

-- Where all its conditions are true, the row holds.
abbrev pub SatWhen : List Literal → LinRow → Point → Type 0
SatWhen literals row a = all_true a literals ≡ true → SatLinear row a

-- Alldiff: the values at different positions differ.
use Rattle.std.specs.Prelude.{◌≢◌, ℕ, ◌≤◌, List, length, All, AllPairs}
use Rattle.sm_kinds.specs.declared.var.Var.{Var}
use Rattle.sm_kinds.specs.Limits.{most_terms}
use Rattle.sm_kinds.specs.Points.{Point}
use Rattle.sm_kinds.specs.Vars.{IsSet}

-- ---- its limits, and how its parts fit

pub record IsAlldiff (vars : List Var) (positions : List ℕ) : Type 0 where
  pub few : length positions ≤ most_terms
  pub each : All (IsSet vars) positions

-- ---- its size

abbrev pub alldiff_size : List ℕ → ℕ
alldiff_size positions = 0

-- ---- its variables

-- each of its variables has this property
abbrev pub EachAlldiffVar : (ℕ → Type 0) → List ℕ → Type 0
EachAlldiffVar P positions = All P positions

-- ---- when it holds

abbrev pub Differ : Point → ℕ → ℕ → Type 0
Differ a x y = a.numerator x ≢ a.numerator y

-- No two of its positions have the same value.
abbrev pub SatAlldiff : List ℕ → Point → Type 0
SatAlldiff positions a = AllPairs (Differ a) positions

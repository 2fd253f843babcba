-- Indexsum: each x_i lies in its table, and z equals the sum of t_i[x_i].
use Rattle.std.specs.Prelude.{ℕ, List}
use Rattle.sm_kinds.specs.declared.var.Var.{Var}
use Rattle.sm_kinds.specs.declared.choice.Choice.{Choice}
use Rattle.sm_kinds.specs.Choices.{IsChoice, choice_size, EachChoiceVar, AddUpTo}
use Rattle.sm_kinds.specs.Points.{Point}

-- ---- its limits, and how its parts fit

abbrev pub IsIndexSum : List Var → Choice → Type 0
IsIndexSum vars c = IsChoice vars c

-- ---- its size

abbrev pub indexsum_size : Choice → ℕ
indexsum_size c = choice_size c

-- ---- its variables

-- each of its variables has this property
abbrev pub EachIndexSumVar : (ℕ → Type 0) → Choice → Type 0
EachIndexSumVar P c = EachChoiceVar P c

-- ---- when it holds

-- Each variable chooses a member of its table, and z has the sum of what they choose.
abbrev pub SatIndexSum : Choice → Point → Type 0
SatIndexSum c a = AddUpTo a c.picks (a.numerator c.z)

-- Assign: the x_i are all different, each lies in its table, and z equals the sum of t_i[x_i].
use Rattle.std.specs.Prelude.{ℕ, List, AllPairs}
use Rattle.sm_kinds.specs.declared.var.Var.{Var}
use Rattle.sm_kinds.specs.declared.choice.Choice.{Choice}
use Rattle.sm_kinds.specs.Alldiff.{Differ}
use Rattle.sm_kinds.specs.Choices.{IsChoice, choice_size, EachChoiceVar, AddUpTo}
use Rattle.sm_kinds.specs.Points.{Point}

-- ---- its limits, and how its parts fit

abbrev pub IsAssign : List Var → Choice → Type 0
IsAssign vars c = IsChoice vars c

-- ---- its size

abbrev pub assign_size : Choice → ℕ
assign_size c = choice_size c

-- ---- its variables

-- each of its variables has this property
abbrev pub EachAssignVar : (ℕ → Type 0) → Choice → Type 0
EachAssignVar P c = EachChoiceVar P c

-- ---- when it holds

-- Each variable chooses a member of its table, no two at the same place, and z has the sum of what they choose.
pub record SatAssign (c : Choice) (a : Point) : Type 0 where
  pub different : AllPairs (λ p q. Differ a p.0 q.0) c.picks
  pub sum : AddUpTo a c.picks (a.numerator c.z)

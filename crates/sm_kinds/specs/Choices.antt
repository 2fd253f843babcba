-- Choices: variables that choose a member of a table each, and the sum of what they choose.
use Rattle.std.specs.Prelude.{◌≡◌, ℕ, ◌≤◌, ◌<◌, List, [], ◌∷◌, length, ℤ, pos, ◌-ℤ◌, ◌*ℤ◌, All, sum_by, slice_index_or}
use Rattle.sm_kinds.specs.declared.var.Var.{Var}
use Rattle.sm_kinds.specs.declared.choice.Choice.{Choice}
use Rattle.sm_kinds.specs.Limits.{IsSmall, most_terms, most_members}
use Rattle.sm_kinds.specs.Points.{Point, HasValue}
use Rattle.sm_kinds.specs.Vars.{IsSet, IsDiscrete}

-- a variable with its table
pub record IsPick (vars : List Var) (pick : ℕ × List ℤ) : Type 0 where
  pub variable : IsSet vars pick.0
  pub few : length pick.1 ≤ most_members
  pub small : All IsSmall pick.1

pub record IsChoice (vars : List Var) (c : Choice) : Type 0 where
  pub few : length c.picks ≤ most_terms
  pub each : All (IsPick vars) c.picks
  pub value : IsDiscrete vars c.z

abbrev pub pick_size : (ℕ × List ℤ) → ℕ
pick_size pick = length pick.1

abbrev pub choice_size : Choice → ℕ
choice_size c = sum_by pick_size c.picks

-- each of its variables has this property
abbrev pub EachChoiceVar : (ℕ → Type 0) → Choice → Type 0
EachChoiceVar P c = P c.z × All (λ p. P p.0) c.picks

-- the variable of a pick, by the pick's number
abbrev pub variable_at : List (ℕ × List ℤ) → ℕ → ℕ
variable_at picks i = (slice_index_or picks i (0, [])).0

-- the member of a table of this number, from 0
abbrev pub member : List ℤ → ℕ → ℤ
member table j = slice_index_or table j (pos 0)

-- the value of each variable is the number of a member of its table, and these members add up to the total, which is times
-- the denominator
abbrev pub AddUpTo : Point → List (ℕ × List ℤ) → ℤ → Type 0
AddUpTo a [] total = total ≡ pos 0
AddUpTo a (p ∷ ps) total = (j : ℕ) × (j < length p.1) × HasValue a p.0 (pos j) × AddUpTo a ps (total -ℤ (member p.1 j *ℤ a.denominator))

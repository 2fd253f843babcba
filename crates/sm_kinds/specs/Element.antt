-- Element: x is from 0 to n - 1, and z equals entry number x.
use Rattle.std.specs.Prelude.{◌≡◌, ℕ, ◌≤◌, ◌<◌, List, length, ℤ, pos, ◌*ℤ◌, All, slice_index_or}
use Rattle.sm_kinds.specs.declared.var.Var.{Var}
use Rattle.sm_kinds.specs.declared.element.Entry.{Entry}
use Rattle.sm_kinds.specs.declared.element.Entry.TheVariants.{Number, Variable}
use Rattle.sm_kinds.specs.Limits.{IsSmall, most_members}
use Rattle.sm_kinds.specs.Points.{Point, HasValue}
use Rattle.sm_kinds.specs.Vars.{IsSet, IsDiscrete}

-- ---- its limits, and how its parts fit

abbrev pub IsEntry : List Var → Entry → Type 0
IsEntry vars (Number k) = IsSmall k
IsEntry vars (Variable v) = IsDiscrete vars v

pub record IsElement (vars : List Var) (x : ℕ) (entries : List Entry) (z : ℕ) : Type 0 where
  pub index : IsSet vars x
  pub few : length entries ≤ most_members
  pub each : All (IsEntry vars) entries
  pub value : IsDiscrete vars z

-- ---- its size

abbrev pub element_size : List Entry → ℕ
element_size entries = length entries

-- ---- its variables

abbrev pub EachEntryVar : (ℕ → Type 0) → Entry → Type 0
EachEntryVar P (Number k) = Unit {0}
EachEntryVar P (Variable v) = P v

-- each of its variables has this property
pub record EachElementVar (P : ℕ → Type 0) (x : ℕ) (entries : List Entry) (z : ℕ) : Type 0 where
  pub index : P x
  pub value : P z
  pub each : All (EachEntryVar P) entries

-- ---- when it holds

-- the value of an entry, times the denominator
abbrev pub entry_value : Point → Entry → ℤ
entry_value a (Number k) = k *ℤ a.denominator
entry_value a (Variable v) = a.numerator v

abbrev pub entry_at : List Entry → ℕ → Entry
entry_at entries j = slice_index_or entries j (Number (pos 0))

-- The value of x is the number, from 0, of one of the entries, and z has the value of that entry.
abbrev pub SatElement : ℕ → List Entry → ℕ → Point → Type 0
SatElement x entries z a = (j : ℕ) × (j < length entries) × HasValue a x (pos j) × (a.numerator z ≡ entry_value a (entry_at entries j))

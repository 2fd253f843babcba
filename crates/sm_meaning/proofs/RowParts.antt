-- Short words for the rows.
use Rattle.std.specs.Prelude.{ℕ, zero, suc, List, [], ◌∷◌, ◌++◌, ℤ, Option, Some, None, slice_get}
use Rattle.sm_syntax.specs.declared.place.Place.{Place}
use Rattle.sm_syntax.specs.declared.tree.Name.{Name}
use Rattle.sm_syntax.specs.declared.tree.Number.{Number}
use Rattle.sm_syntax.specs.declared.tree.Bind.{Bind}
use Rattle.sm_forms.specs.Meanings.{Meaning, coefficient, constant_of}
use Rattle.sm_meaning.specs.Demands.{Demand, row, formula, row_when, kind}
use Rattle.sm_meaning.specs.Expansions.{Expansion, Post}

abbrev pub at : ℕ → ℕ → Place
at line column = record { line = line; column = column }

abbrev pub name_at : ℕ → ℕ → List ℕ → Name
name_at line column text = record { place = at line column; text = text }

abbrev pub number_at : ℕ → ℕ → ℕ → Number
number_at line column value = record { place = at line column; value = value }

abbrev pub bind_at : Place → Name → Name → Bind
bind_at p name set = record { place = p; name = name; set = set }

-- the first k coefficients
abbrev pub coefficients_of : ℕ → Meaning → List ℤ
coefficients_of zero g = []
coefficients_of (suc k) g = coefficients_of k g ++ coefficient g k ∷ []

abbrev pub numbers_of_demand : ℕ → Demand → List ℤ
numbers_of_demand k (row c g) = coefficients_of k g ++ constant_of g ∷ []
numbers_of_demand k (row_when ls c g) = coefficients_of k g ++ constant_of g ∷ []
numbers_of_demand k (formula q) = []
numbers_of_demand k (kind f) = []

-- the first k coefficients of a row, and its constant
abbrev pub numbers_of_row : ℕ → Option Post → List ℤ
numbers_of_row k None = []
numbers_of_row k (Some p) = numbers_of_demand k p.demand

-- Logic: each clause has a true literal.
use Rattle.std.specs.Prelude.{◌≡◌, ℕ, ◌≤◌, List, length, Bool, true, All, sum_by}
use Rattle.std.specs.List.{list_all, list_any}
use Rattle.sm_kinds.specs.declared.var.Var.{Var}
use Rattle.sm_kinds.specs.declared.literal.Literal.{Literal}
use Rattle.sm_kinds.specs.declared.logic.Clause.{Clause}
use Rattle.sm_kinds.specs.Limits.{most_clauses, greatest_clause_bound}
use Rattle.sm_kinds.specs.Literals.{is_true, IsLiteral}
use Rattle.sm_kinds.specs.Points.{Point}

-- ---- its limits, and how its parts fit

abbrev pub IsClause : List Var → Clause → Type 0
IsClause vars c = All (IsLiteral vars greatest_clause_bound) c.literals

pub record IsLogic (vars : List Var) (clauses : List Clause) : Type 0 where
  pub few : length clauses ≤ most_clauses
  pub each : All (IsClause vars) clauses

-- ---- its size

abbrev pub clause_size : Clause → ℕ
clause_size c = length c.literals

abbrev pub logic_size : List Clause → ℕ
logic_size clauses = sum_by clause_size clauses

-- ---- its variables

abbrev pub EachLiteralVar : (ℕ → Type 0) → List Literal → Type 0
EachLiteralVar P literals = All (λ (l : Literal). P l.var) literals

-- each of its variables has this property
abbrev pub EachLogicVar : (ℕ → Type 0) → List Clause → Type 0
EachLogicVar P clauses = All (λ (c : Clause). EachLiteralVar P c.literals) clauses

-- ---- when it holds

-- some literal is true
abbrev pub has_true : Point → List Literal → Bool
has_true a ls = list_any (is_true a) ls

-- each clause has a true literal
abbrev pub satisfies_each : Point → List Clause → Bool
satisfies_each a cs = list_all (λ (c : Clause). has_true a c.literals) cs

-- In each of its clauses at least one of the alternatives is true.
abbrev pub SatLogic : List Clause → Point → Type 0
SatLogic clauses a = satisfies_each a clauses ≡ true

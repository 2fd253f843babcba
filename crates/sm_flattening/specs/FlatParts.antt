-- The flat parts of what a front of a text has come to: its variables and its constraints, within all limits.
use Rattle.std.specs.Prelude.{◌≢◌, List, All}
use Rattle.sm_kinds.specs.declared.var.Var.{Var}
use Rattle.sm_flat.specs.declared.form.Constraint.{Constraint}
use Rattle.sm_flat.specs.declared.form.Kind.TheVariants as form_kind
use Rattle.sm_flat.specs.Forms as flat
use Rattle.sm_flat.specs.Limits.{AreVars, AreConstraints}
use Rattle.sm_meaning.specs.Demands.{Demand, row, formula, row_when, kind}
use Rattle.sm_meaning.specs.Expansions.{Post, Expansion}
use Rattle.sm_flattening.specs.Flattening.{IsFlattened}
use Rattle.sm_flattening.specs.Regularity.{HaveFewClauses}

-- a kind is no row: rows are demanded by their meanings
abbrev pub HasOwnKind : Demand → Type 0
HasOwnKind (row c g) = Unit {0}
HasOwnKind (formula q) = Unit {0}
HasOwnKind (row_when ls c g) = Unit {0}
HasOwnKind (kind f) = (flat.kind_of f ≢ form_kind.Linear) × (flat.kind_of f ≢ form_kind.When)

-- The variables and constraints are those of the expansion, and within all limits. By few and kinds, limits count of the posts
-- what they count of the constraints.
pub record AreFlatParts (e : Expansion) (vars : List Var) (cs : List Constraint) : Type 0 where
  pub flattened : IsFlattened e vars cs
  pub domains : AreVars vars
  pub fitting : AreConstraints vars cs
  pub few : HaveFewClauses e.posts
  pub kinds : All (λ (p : Post). HasOwnKind p.demand) e.posts

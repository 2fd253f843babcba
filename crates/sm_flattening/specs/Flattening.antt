-- The flat constraints and goals of what a text demands, and when values meet an expansion.
use Rattle.std.specs.Prelude.{◌≡◌, ℕ, List, map, length, ℤ, neg_ℤ, false, All, Some, slice_get}
use Rattle.sm_kinds.specs.declared.linear.Cmp.{Cmp}
use Rattle.sm_kinds.specs.declared.linear.LinRow.{LinRow}
use Rattle.sm_kinds.specs.declared.var.Var.{Var}
use Rattle.sm_kinds.specs.Vars.{LiesIn}
use Rattle.sm_flat.specs.declared.form.Constraint.{Constraint}
use Rattle.sm_flat.specs.declared.form.Form.{Form}
use Rattle.sm_flat.specs.declared.form.Form.TheVariants as form
use Rattle.sm_flat.specs.declared.goal.Goal.{Goal}
use Rattle.sm_clausify.specs.Clauses.{clauses_of}
use Rattle.sm_forms.specs.Meanings.{Values, Meaning, constant_of, terms_of}
use Rattle.sm_meaning.specs.Demands.{Demand, row, formula, row_when, kind, Holds}
use Rattle.sm_meaning.specs.Expansions.{Post, Declared, Expansion, vars_of}
use Rattle.sm_flattening.specs.Regularity.{AreRegular}

-- ---- constraints

-- the row that says how a meaning of n variables compares with 0: its constant stands on the other side
abbrev pub row_of : ℕ → Cmp → Meaning → LinRow
row_of n c g = record { terms = terms_of n g; cmp = c; bound = neg_ℤ (constant_of g) }

-- the flat form of a demand, where there are n variables
abbrev pub form_of : ℕ → Demand → Form
form_of n (row c g) = form.Linear (row_of n c g)
form_of n (formula q) = form.Logic (clauses_of q false)
form_of n (row_when ls c g) = form.When ls (row_of n c g)
form_of n (kind f) = f

-- the flat constraint of a post
abbrev pub constraint_of : ℕ → Post → Constraint
constraint_of n p = record { form = form_of n p.demand; tags = p.tags }

-- those of posts, in order
abbrev pub constraints_of : ℕ → List Post → List Constraint
constraints_of n ps = map (constraint_of n) ps

-- ---- models

-- all that is posted can be flattened; the variables are those of the expansion, and the constraints are those of its posts
pub record IsFlattened (e : Expansion) (vars : List Var) (cs : List Constraint) : Type 0 where
  pub regular : AreRegular vars e.posts
  pub variables : vars ≡ vars_of e
  pub constraints : cs ≡ constraints_of (length vars) e.posts

-- each variable has a value of its declared domain, and all that is posted holds
pub record Meets (e : Expansion) (a : Values) : Type 0 where
  pub fits : (i : ℕ) (v : Declared) → slice_get e.variables i ≡ Some v → LiesIn v.var.kind v.var.values (a.numerator i) a.denominator
  pub holds : All (λ (p : Post). Holds p.demand a) e.posts

-- ---- goals

-- the numbers of a goal
abbrev pub goal_numbers : Goal → List (ℕ × ℤ) × ℤ
goal_numbers goal = (goal.terms, goal.constant)

-- the numbers of a meaning of n variables
abbrev pub meaning_numbers : ℕ → Meaning → List (ℕ × ℤ) × ℤ
meaning_numbers n g = (terms_of n g, constant_of g)

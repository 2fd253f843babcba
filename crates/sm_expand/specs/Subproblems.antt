-- The subproblems of the constraints that a real variable stands in, of the flat constraints.
use Rattle.std.specs.Prelude.{ℕ, ℤ, List, map, ◌==◌, Bool, false, Option}
use Rattle.std.specs.List.{list_any, filter}
use Rattle.sm_flat.specs.declared.form.Constraint.{Constraint}
use Rattle.sm_flat.specs.declared.form.Form.{Form}
use Rattle.sm_flat.specs.declared.form.Form.TheVariants as form

-- the variable has a term
abbrev pub has_term : ℕ → List (ℕ × ℤ) → Bool
has_term i ts = list_any (λ (t : ℕ × ℤ). t.0 == i) ts

-- the variable stands in the row
abbrev pub stands_in_form : ℕ → Form → Bool
stands_in_form i (form.Linear row) = has_term i row.terms
stands_in_form i (form.When ls row) = has_term i row.terms
stands_in_form i _ = false

-- the subproblem of each constraint that has the variable
abbrev pub subs_in : ℕ → List Constraint → List (Option ℕ)
subs_in i cs = map (λ (c : Constraint). c.tags.sub) (filter (λ (c : Constraint). stands_in_form i c.form) cs)

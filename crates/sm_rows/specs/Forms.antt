-- Column forms of literals: a constant and columns whose sum is 1 where the literal is true, else 0.
use Rattle.std.specs.Prelude.{ℕ, ◌+◌, List, [], ◌∷◌, length, map, filter, ℤ, pos, negsuc, ◌+ℤ◌, ◌*ℤ◌, int_le, nat_lt, unsigned_abs, Bool, true, false, ◌&&◌, if◌then◌else◌, Option, Some, None}
use Rattle.sm_kinds.specs.declared.var.Var.{Var as Variable}
use Rattle.sm_kinds.specs.declared.literal.Literal.{Literal}
use Rattle.sm_kinds.specs.declared.literal.Test.{Test}
use Rattle.sm_kinds.specs.declared.literal.Test.TheVariants.{AtMost, AtLeast, Equal, Unequal}
use Rattle.sm_kinds.specs.Literals.{passes}
use Rattle.sm_kinds.specs.Points.{Point}
use Rattle.sm_kinds.specs.Vars.{var_at, first_of, last_of}
use Rattle.sm_flat.specs.Models.{FlatModel}
use Rattle.sm_step.specs.declared.row.Col.{Col}
use Rattle.sm_step.specs.declared.row.Col.TheVariants.{Var, Is}
use Rattle.sm_rows.specs.declared.form.ColumnForm.{ColumnForm}
use Rattle.sm_rows.specs.Links.{is_linked}
use Rattle.sm_rows.specs.Rows.{row_sum}
use Rattle.sm_rows.specs.Terms.{add_terms, weight}

-- what the form comes to at the point, times the denominator
abbrev pub form_at : Point → ColumnForm → ℤ
form_at a f = (f.constant *ℤ a.denominator) +ℤ row_sum a f.terms

-- the sum with `by` times the form more
abbrev pub add_form : ColumnForm → ℤ → ColumnForm → ColumnForm
add_form sum by f = record { constant = sum.constant +ℤ (by *ℤ f.constant); terms = add_terms sum.terms by f.terms }

-- the absolute values of the constant and of the coefficients, added up
abbrev pub form_weight : ColumnForm → ℕ
form_weight f = unsigned_abs f.constant + weight f.terms

-- the variable is declared within 0 to 1
abbrev pub is_binary : List Variable → ℕ → Bool
is_binary vars i = nat_lt i (length vars) && (int_le (pos 0) (first_of (var_at vars i).values) && int_le (last_of (var_at vars i).values) (pos 1))

-- by the literal's truth at 0 and at 1: the column, one less it, or a constant
abbrev pub binary_form : ℕ → Bool → Bool → ColumnForm
binary_form v false false = record { constant = pos 0; terms = [] }
binary_form v false true = record { constant = pos 0; terms = (Var v, pos 1) ∷ [] }
binary_form v true false = record { constant = pos 1; terms = (Var v, negsuc 0) ∷ [] }
binary_form v true true = record { constant = pos 1; terms = [] }

-- the indicator of a value, with the coefficient of that value
abbrev pub indicator : ℕ → (ℤ → ℤ) → ℤ → Col × ℤ
indicator v f w = (Is v w, f w)

abbrev pub indicators : ℕ → (ℤ → ℤ) → List ℤ → List (Col × ℤ)
indicators v f values = map (indicator v f) values

-- the same coefficient at each value
abbrev pub same_each : ℤ → ℤ → ℤ
same_each k w = k

-- the literal that is true at the bound alone
abbrev pub equality : Literal → Literal
equality l = record { var = l.var; test = Equal; bound = l.bound }

-- the indicators of the values of which the literal is true, added up
abbrev pub sum_form : Literal → List ℤ → ColumnForm
sum_form l values = record { constant = pos 0; terms = indicators l.var (same_each (pos 1)) (filter (passes l) values) }

-- one less the indicator of the bound, where that is one of the values
abbrev pub less_form : Literal → List ℤ → ColumnForm
less_form l values = record { constant = pos 1; terms = indicators l.var (same_each (negsuc 0)) (filter (passes (equality l)) values) }

abbrev pub linked_form : Test → Literal → List ℤ → ColumnForm
linked_form AtMost l values = sum_form l values
linked_form AtLeast l values = sum_form l values
linked_form Equal l values = sum_form l values
linked_form Unequal l values = less_form l values

-- the column form of a literal, where it has one
abbrev pub form_of : FlatModel → Literal → Option ColumnForm
form_of m l = if is_binary m.vars l.var then Some (binary_form l.var (passes l (pos 0)) (passes l (pos 1))) else (if is_linked m l.var then Some (linked_form l.test l (var_at m.vars l.var).values) else None)

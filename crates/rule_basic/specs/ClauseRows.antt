-- clause.K.C: the column forms of the literals of clause C of logic constraint K sum to at least 1. Each literal has to have one.
use Rattle.std.specs.Prelude.{ℕ, List, [], ◌∷◌, ℤ, pos, ◌-ℤ◌, false, Option, Some, None, slice_get}
use Rattle.sm_kinds.specs.declared.literal.Literal.{Literal}
use Rattle.sm_kinds.specs.declared.logic.Clause.{Clause}
use Rattle.sm_flat.specs.declared.form.Form.{Form}
use Rattle.sm_flat.specs.declared.form.Form.TheVariants as form
use Rattle.sm_flat.specs.Models.{FlatModel}
use Rattle.sm_rows.specs.declared.row.Row.{Row}
use Rattle.sm_rows.specs.declared.form.ColumnForm.{ColumnForm}
use Rattle.sm_rows.specs.Terms.{without_zeros}
use Rattle.sm_rows.specs.Forms.{add_form, form_of}

-- what `add` makes of the form, where there is one
abbrev pub then_form : Option ColumnForm → (ColumnForm → Option ColumnForm) → Option ColumnForm
then_form None add = None
then_form (Some f) add = add f

-- the sum with `by` times the form of each literal more, where all have one
abbrev pub add_forms : FlatModel → ℤ → ColumnForm → List Literal → Option ColumnForm
add_forms m by sum [] = Some sum
add_forms m by sum (l ∷ ls) = then_form (form_of m l) (λ f. add_forms m by (add_form sum by f) ls)

abbrev pub no_sum : ColumnForm
no_sum = record { constant = pos 0; terms = [] }

-- the sum is at least 1
abbrev pub at_least_one : ColumnForm → Row
at_least_one sum = record { terms = without_zeros sum.terms; equal = false; bound = pos 1 -ℤ sum.constant }

abbrev pub if_sum : Option ColumnForm → Option Row
if_sum None = None
if_sum (Some sum) = Some (at_least_one sum)

abbrev pub clause_row : FlatModel → List Literal → Option Row
clause_row m literals = if_sum (add_forms m (pos 1) no_sum literals)

abbrev pub clause_at : FlatModel → Option Clause → Option Row
clause_at m None = None
clause_at m (Some c) = clause_row m c.literals

-- the row of clause c of a constraint of this form
abbrev pub clause_in : FlatModel → ℕ → Form → Option Row
clause_in m c (form.Linear row) = None
clause_in m c (form.Logic clauses) = clause_at m (slice_get clauses c)
clause_in m c (form.When literals row) = None
clause_in m c (form.Alldiff positions) = None
clause_in m c (form.Element x entries z) = None
clause_in m c (form.IndexSum choice) = None
clause_in m c (form.Cumulative capacity tasks) = None
clause_in m c (form.Disjunctive tasks) = None
clause_in m c (form.Packing packing) = None
clause_in m c (form.Circuit successors) = None
clause_in m c (form.Assign choice) = None

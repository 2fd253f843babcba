-- lin.K: linear constraint K as a row, `<=` turned.
use Rattle.std.specs.Prelude.{ℕ, List, map, ℤ, neg_ℤ, true, false, Option, Some, None}
use Rattle.sm_kinds.specs.declared.linear.Cmp.{Cmp}
use Rattle.sm_kinds.specs.declared.linear.Cmp.TheVariants.{AtMost, AtLeast, Equal}
use Rattle.sm_kinds.specs.declared.linear.LinRow.{LinRow}
use Rattle.sm_flat.specs.declared.form.Form.{Form}
use Rattle.sm_flat.specs.declared.form.Form.TheVariants as form
use Rattle.sm_step.specs.declared.row.Col.{Col}
use Rattle.sm_step.specs.declared.row.Col.TheVariants.{Var}
use Rattle.sm_rows.specs.declared.row.Row.{Row}

abbrev pub column_term : ℕ × ℤ → Col × ℤ
column_term t = (Var t.0, t.1)

abbrev pub turned_term : ℕ × ℤ → Col × ℤ
turned_term t = (Var t.0, neg_ℤ t.1)

abbrev pub column_terms : List (ℕ × ℤ) → List (Col × ℤ)
column_terms terms = map column_term terms

abbrev pub turned_terms : List (ℕ × ℤ) → List (Col × ℤ)
turned_terms terms = map turned_term terms

abbrev pub lin_row_by : Cmp → LinRow → Row
lin_row_by AtMost row = record { terms = turned_terms row.terms; equal = false; bound = neg_ℤ row.bound }
lin_row_by AtLeast row = record { terms = column_terms row.terms; equal = false; bound = row.bound }
lin_row_by Equal row = record { terms = column_terms row.terms; equal = true; bound = row.bound }

-- the linear constraint as a row
abbrev pub lin_row : LinRow → Row
lin_row row = lin_row_by row.cmp row

-- the row of a constraint of this form, where it is linear
abbrev pub lin_in : Form → Option Row
lin_in (form.Linear row) = Some (lin_row row)
lin_in (form.Logic clauses) = None
lin_in (form.When literals row) = None
lin_in (form.Alldiff positions) = None
lin_in (form.Element x entries z) = None
lin_in (form.IndexSum choice) = None
lin_in (form.Cumulative capacity tasks) = None
lin_in (form.Disjunctive tasks) = None
lin_in (form.Packing packing) = None
lin_in (form.Circuit successors) = None
lin_in (form.Assign choice) = None

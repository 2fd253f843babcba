-- What a constraint means rests on its variables' values alone, whatever the denominator.
use Rattle.std.proofs.Common.{ℕ, ◌↔◌, pos}
use Rattle.std.specs.Prelude.{◌≤ℤ◌}
use Rattle.sm_kinds.specs.Points.{Point}
use Rattle.sm_kinds.proofs.EachVar.{each_linear_var, each_logic_var, each_when_var, each_alldiff_var, each_element_var, each_indexsum_var, each_cumulative_var, each_disjunctive_var, each_packing_var, each_circuit_var, each_assign_var}
use Rattle.sm_kinds.proofs.SameValues.{EqualAt, linear_same_values, logic_same_values, when_same_values, alldiff_same_values, element_same_values, indexsum_same_values, cumulative_same_values, disjunctive_same_values, packing_same_values, circuit_same_values, assign_same_values}
use Rattle.sm_flat.specs.Forms.{Sat, EachVar}
use Rattle.sm_flat.specs.declared.form.Form.{Form}
use Rattle.sm_flat.specs.declared.form.Form.TheVariants as form

pub same_values : (a b : Point) → pos 1 ≤ℤ a.denominator → pos 1 ≤ℤ b.denominator → (f : Form) → EachVar (EqualAt a b) f → Sat f a ↔ Sat f b
same_values a b ua ub (form.Linear row) e = linear_same_values a b ua ub row e
same_values a b ua ub (form.Logic clauses) e = logic_same_values a b ua ub clauses e
same_values a b ua ub (form.When literals row) e = when_same_values a b ua ub literals row e
same_values a b ua ub (form.Alldiff positions) e = alldiff_same_values a b ua ub positions e
same_values a b ua ub (form.Element x entries z) e = element_same_values a b ua ub x entries z e
same_values a b ua ub (form.IndexSum choice) e = indexsum_same_values a b ua ub choice e
same_values a b ua ub (form.Cumulative capacity tasks) e = cumulative_same_values a b ua ub capacity tasks e
same_values a b ua ub (form.Disjunctive tasks) e = disjunctive_same_values a b ua ub tasks e
same_values a b ua ub (form.Packing packing) e = packing_same_values a b ua ub packing e
same_values a b ua ub (form.Circuit successors) e = circuit_same_values a b ua ub successors e
same_values a b ua ub (form.Assign choice) e = assign_same_values a b ua ub choice e

-- what each variable has by one property, it has by a weaker one
pub each_var : (P Q : ℕ → Type 0) → ((v : ℕ) → P v → Q v) → (f : Form) → EachVar P f → EachVar Q f
each_var P Q w (form.Linear row) e = each_linear_var P Q w row e
each_var P Q w (form.Logic clauses) e = each_logic_var P Q w clauses e
each_var P Q w (form.When literals row) e = each_when_var P Q w literals row e
each_var P Q w (form.Alldiff positions) e = each_alldiff_var P Q w positions e
each_var P Q w (form.Element x entries z) e = each_element_var P Q w x entries z e
each_var P Q w (form.IndexSum choice) e = each_indexsum_var P Q w choice e
each_var P Q w (form.Cumulative capacity tasks) e = each_cumulative_var P Q w tasks e
each_var P Q w (form.Disjunctive tasks) e = each_disjunctive_var P Q w tasks e
each_var P Q w (form.Packing packing) e = each_packing_var P Q w packing e
each_var P Q w (form.Circuit successors) e = each_circuit_var P Q w successors e
each_var P Q w (form.Assign choice) e = each_assign_var P Q w choice e

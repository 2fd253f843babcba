-- The variables of a constraint that fits a model are variables of it.
use Rattle.std.proofs.Common.{ℕ, ◌<◌, List, length, None, Some}
use Rattle.std.specs.Prelude.{Option, IfSome}
use Rattle.sm_kinds.specs.declared.element.Entry.{Entry}
use Rattle.sm_kinds.specs.declared.element.Entry.TheVariants.{Number, Variable}
use Rattle.sm_kinds.specs.declared.literal.Literal.{Literal}
use Rattle.sm_kinds.specs.declared.tasks.Task.{Task}
use Rattle.sm_kinds.specs.declared.var.Var.{Var}
use Rattle.sm_kinds.specs.Element.{IsEntry, EachEntryVar}
use Rattle.sm_kinds.specs.Limits.{greatest_number}
use Rattle.sm_kinds.specs.Literals.{IsLiteral}
use Rattle.sm_kinds.specs.Tasks.{AreTasks, EachTasksVar}
use Rattle.sm_flat.specs.Forms.{IsForm, EachVar}
use Rattle.sm_flat.specs.declared.form.Form.{Form}
use Rattle.sm_flat.specs.declared.form.Form.TheVariants as form

module _ (vars : List Var) where
  abbrev pub IsKnown : ℕ → Type 0
  IsKnown v = v < length vars

  entry_known : (e : Entry) → IsEntry vars e → EachEntryVar IsKnown e
  entry_known (Number k) h = tt
  entry_known (Variable v) h = h.known

  literal_known : (o : Option Literal) → IfSome o (IsLiteral vars greatest_number) → IfSome o (λ l. IsKnown l.var)
  literal_known None h = tt
  literal_known (Some l) h = h.discrete.known

  tasks_known : (tasks : List Task) → AreTasks vars tasks → EachTasksVar IsKnown tasks
  tasks_known tasks h k d lt = record { start = (h.each k d lt).start.known; present = literal_known _ (h.each k d lt).present }

  pub form_known : (f : Form) → IsForm vars f → EachVar IsKnown f
  form_known (form.Linear row) h = h.sum.known
  form_known (form.Logic clauses) h = λ k d lt j e below. (h.each k d lt j e below).discrete.known
  form_known (form.When literals row) h = ((λ k d lt. (h.conditions k d lt).discrete.known), h.fits.sum.known)
  form_known (form.Alldiff positions) h = λ k d lt. (h.each k d lt).known
  form_known (form.Element x entries z) h = record { index = h.index.known; value = h.value.known; each = λ k d lt. entry_known _ (h.each k d lt) }
  form_known (form.IndexSum choice) h = (h.value.known, (λ k d lt. (h.each k d lt).variable.known))
  form_known (form.Cumulative capacity tasks) h = tasks_known tasks h.fit
  form_known (form.Disjunctive tasks) h = tasks_known tasks h.fit
  form_known (form.Packing packing) h = (h.value.known, (λ k d lt. (h.each k d lt).group.known))
  form_known (form.Circuit successors) h = λ k d lt. (h.each k d lt).known
  form_known (form.Assign choice) h = (h.value.known, (λ k d lt. (h.each k d lt).variable.known))

-- What each variable of a constraint has, it has too where that follows from what each has.
use Rattle.std.proofs.Common.{ℕ, List, Option, None, Some}
use Rattle.std.proofs.lemmas.List.Elements.{All-weaker}
use Rattle.std.specs.Prelude.{ℤ, IfSome}
use Rattle.sm_kinds.specs.Linear.{EachLinearVar}
use Rattle.sm_kinds.specs.Logic.{EachLiteralVar, EachLogicVar}
use Rattle.sm_kinds.specs.When.{EachWhenVar}
use Rattle.sm_kinds.specs.Alldiff.{EachAlldiffVar}
use Rattle.sm_kinds.specs.Element.{EachEntryVar, EachElementVar}
use Rattle.sm_kinds.specs.IndexSum.{EachIndexSumVar}
use Rattle.sm_kinds.specs.Assign.{EachAssignVar}
use Rattle.sm_kinds.specs.Tasks.{EachTaskVar, EachTasksVar}
use Rattle.sm_kinds.specs.Cumulative.{EachCumulativeVar}
use Rattle.sm_kinds.specs.Disjunctive.{EachDisjunctiveVar}
use Rattle.sm_kinds.specs.Packing.{EachPackingVar}
use Rattle.sm_kinds.specs.Circuit.{EachCircuitVar}
use Rattle.sm_kinds.specs.declared.linear.LinRow.{LinRow}
use Rattle.sm_kinds.specs.declared.literal.Literal.{Literal}
use Rattle.sm_kinds.specs.declared.logic.Clause.{Clause}
use Rattle.sm_kinds.specs.declared.element.Entry.{Entry}
use Rattle.sm_kinds.specs.declared.element.Entry.TheVariants.{Number, Variable}
use Rattle.sm_kinds.specs.declared.choice.Choice.{Choice}
use Rattle.sm_kinds.specs.declared.tasks.Task.{Task}
use Rattle.sm_kinds.specs.declared.packing.Item.{Item}
use Rattle.sm_kinds.specs.declared.packing.Packing.{Packing}

module _ (P Q : ℕ → Type 0) (then : (v : ℕ) → P v → Q v) where
  pub each_linear_var : (row : LinRow) → EachLinearVar P row → EachLinearVar Q row
  each_linear_var row each = All-weaker (λ (t : ℕ × ℤ). P t.0) (λ (t : ℕ × ℤ). Q t.0) (λ t. then t.0) row.terms each

  pub each_literal_var : (literals : List Literal) → EachLiteralVar P literals → EachLiteralVar Q literals
  each_literal_var literals each = All-weaker (λ (l : Literal). P l.var) (λ (l : Literal). Q l.var) (λ l. then l.var) literals each

  pub each_logic_var : (clauses : List Clause) → EachLogicVar P clauses → EachLogicVar Q clauses
  each_logic_var clauses each = All-weaker (λ (c : Clause). EachLiteralVar P c.literals) (λ (c : Clause). EachLiteralVar Q c.literals) (λ c. each_literal_var c.literals) clauses each

  pub each_when_var : (literals : List Literal) (row : LinRow) → EachWhenVar P literals row → EachWhenVar Q literals row
  each_when_var literals row each = (each_literal_var literals each.0, each_linear_var row each.1)

  pub each_alldiff_var : (positions : List ℕ) → EachAlldiffVar P positions → EachAlldiffVar Q positions
  each_alldiff_var positions each = All-weaker P Q then positions each

  entry_var : (e : Entry) → EachEntryVar P e → EachEntryVar Q e
  entry_var (Number k) h = h
  entry_var (Variable v) h = then v h

  pub each_element_var : (x : ℕ) (entries : List Entry) (z : ℕ) → EachElementVar P x entries z → EachElementVar Q x entries z
  each_element_var x entries z each = record {
    index = then x each.index;
    value = then z each.value;
    each = All-weaker (EachEntryVar P) (EachEntryVar Q) entry_var entries each.each;
  }

  pub each_indexsum_var : (c : Choice) → EachIndexSumVar P c → EachIndexSumVar Q c
  each_indexsum_var c each = (then c.z each.0, All-weaker (λ (p : ℕ × List ℤ). P p.0) (λ (p : ℕ × List ℤ). Q p.0) (λ p. then p.0) c.picks each.1)

  pub each_assign_var : (c : Choice) → EachAssignVar P c → EachAssignVar Q c
  each_assign_var c each = each_indexsum_var c each

  present_var : (o : Option Literal) → IfSome o (λ (l : Literal). P l.var) → IfSome o (λ (l : Literal). Q l.var)
  present_var None h = h
  present_var (Some l) h = then l.var h

  each_tasks_var : (tasks : List Task) → EachTasksVar P tasks → EachTasksVar Q tasks
  each_tasks_var tasks each = All-weaker (EachTaskVar P) (EachTaskVar Q) (λ t h. record { start = then t.start h.start; present = present_var t.present h.present }) tasks each

  pub each_cumulative_var : (tasks : List Task) → EachCumulativeVar P tasks → EachCumulativeVar Q tasks
  each_cumulative_var tasks each = each_tasks_var tasks each

  pub each_disjunctive_var : (tasks : List Task) → EachDisjunctiveVar P tasks → EachDisjunctiveVar Q tasks
  each_disjunctive_var tasks each = each_tasks_var tasks each

  pub each_packing_var : (p : Packing) → EachPackingVar P p → EachPackingVar Q p
  each_packing_var p each = (then p.z each.0, All-weaker (λ (i : Item). P i.group) (λ (i : Item). Q i.group) (λ i. then i.group) p.items each.1)

  pub each_circuit_var : (successors : List ℕ) → EachCircuitVar P successors → EachCircuitVar Q successors
  each_circuit_var successors each = All-weaker P Q then successors each

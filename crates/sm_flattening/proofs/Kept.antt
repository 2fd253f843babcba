-- What fits the variables of a model fits them among more variables.
use Rattle.std.proofs.Common.{◌≡◌, ◌∙◌, ap, refl, sym, subst₂, ℕ, ◌<◌, arith, List, ◌++◌, length, Option, None, Some, Bool, if◌then◌else◌}
use Rattle.std.specs.Prelude.{ℤ, pos, ◌-ℤ◌, ◌+ℤ◌, ◌≤ℤ◌, All, IfSome}
use Rattle.std.proofs.lemmas.List.{get_or_append_left, length-append}
use Rattle.std.proofs.lemmas.List.Elements.{All-weaker}
use Rattle.sm_kinds.specs.declared.choice.Choice.{Choice}
use Rattle.sm_kinds.specs.declared.element.Entry.{Entry}
use Rattle.sm_kinds.specs.declared.element.Entry.TheVariants.{Number, Variable}
use Rattle.sm_kinds.specs.declared.linear.LinRow.{LinRow}
use Rattle.sm_kinds.specs.declared.literal.Literal.{Literal}
use Rattle.sm_kinds.specs.declared.logic.Clause.{Clause}
use Rattle.sm_kinds.specs.declared.packing.Item.{Item}
use Rattle.sm_kinds.specs.declared.tasks.Task.{Task}
use Rattle.sm_kinds.specs.declared.var.Var.{Var}
use Rattle.sm_kinds.specs.Choices.{IsPick, IsChoice}
use Rattle.sm_kinds.specs.Element.{IsEntry}
use Rattle.sm_kinds.specs.Limits.{greatest_number, greatest_clause_bound, most_horizon}
use Rattle.sm_kinds.specs.Linear.{IsLinear}
use Rattle.sm_kinds.specs.Literals.{IsLiteral}
use Rattle.sm_kinds.specs.Logic.{IsClause}
use Rattle.sm_kinds.specs.Packing.{IsItem}
use Rattle.sm_kinds.specs.Sums.{IsSum}
use Rattle.sm_kinds.specs.Tasks.{IsTask, AreTasks, EndsNear, earliest_start}
use Rattle.sm_kinds.specs.Vars.{IsSet, var_at, no_var, first_of, last_of}
use Rattle.sm_flat.specs.declared.form.Constraint.{Constraint}
use Rattle.sm_flat.specs.declared.form.Form.{Form}
use Rattle.sm_flat.specs.declared.form.Form.TheVariants as form
use Rattle.sm_flat.specs.Forms.{IsForm, IsConstraint}
use Rattle.sm_flat.specs.Limits.{has_real, one_if_real_row, AreConstraints}
use Rattle.sm_flattening.proofs.Constraints.{discrete_wider}
use Rattle.sm_flattening.proofs.Lists.{sum_same}
use Rattle.sm_flattening.proofs.Wider.{real_same}

module _ (vars more : List Var) where
  abbrev all_vars : List Var
  all_vars = vars ++ more

  -- ---- parts

  same_var : (v : ℕ) → v < length vars → var_at all_vars v ≡ var_at vars v
  same_var v lt = get_or_append_left vars more no_var v lt

  set_kept : (v : ℕ) → IsSet vars v → IsSet all_vars v
  set_kept v h = record {
    known = omega (arith, h.known, length-append vars more);
    kind = ap (λ (x : Var). x.kind) (same_var v h.known) ∙ h.kind;
  }

  sets_kept : (vs : List ℕ) → All (IsSet vars) vs → All (IsSet all_vars) vs
  sets_kept = All-weaker (IsSet vars) (IsSet all_vars) set_kept

  literal_kept : (limit : ℕ) (l : Literal) → IsLiteral vars limit l → IsLiteral all_vars limit l
  literal_kept limit l h = record { discrete = discrete_wider vars more l.var h.discrete; small = h.small }

  clause_kept : (c : Clause) → IsClause vars c → IsClause all_vars c
  clause_kept c = All-weaker (IsLiteral vars greatest_clause_bound) (IsLiteral all_vars greatest_clause_bound) (literal_kept greatest_clause_bound) c.literals

  sum_kept : (ts : List (ℕ × ℤ)) → IsSum vars ts → IsSum all_vars ts
  sum_kept ts h = record {
    known = λ k d lt. omega (arith, h.known k d lt, length-append vars more);
    rising = h.rising;
    nonzero = h.nonzero;
    small = h.small;
  }

  row_kept : (r : LinRow) → IsLinear vars r → IsLinear all_vars r
  row_kept r h = record { sum = sum_kept r.terms h.sum; few = h.few; bound = h.bound }

  entry_kept : (e : Entry) → IsEntry vars e → IsEntry all_vars e
  entry_kept (Number k) h = h
  entry_kept (Variable v) h = discrete_wider vars more v h

  pick_kept : (p : ℕ × List ℤ) → IsPick vars p → IsPick all_vars p
  pick_kept p h = record { variable = set_kept p.0 h.variable; few = h.few; small = h.small }

  choice_kept : (c : Choice) → IsChoice vars c → IsChoice all_vars c
  choice_kept c h = record { few = h.few; each = All-weaker (IsPick vars) (IsPick all_vars) pick_kept c.picks h.each; value = discrete_wider vars more c.z h.value }

  item_kept : (groups : ℕ) (i : Item) → IsItem vars groups i → IsItem all_vars groups i
  item_kept groups i h = record { group = set_kept i.group h.group; size = h.size; costs = h.costs; small = h.small }

  -- ---- tasks

  presence_kept : (o : Option Literal) → IfSome o (IsLiteral vars greatest_number) → IfSome o (IsLiteral all_vars greatest_number)
  presence_kept None h = tt
  presence_kept (Some l) h = literal_kept greatest_number l h

  task_kept : (t : Task) → IsTask vars t → IsTask all_vars t
  task_kept t h = record { start = set_kept t.start h.start; duration = h.duration; demand = h.demand; present = presence_kept t.present h.present }

  -- the domains of the starts are the same
  ends_kept : (t u : Task) → IsTask vars t → IsTask vars u → EndsNear vars (earliest_start vars u) t → EndsNear all_vars (earliest_start all_vars u) t
  ends_kept t u known other h =
      subst₂ (λ (x y : Var). ((last_of x.values +ℤ t.duration) -ℤ first_of y.values) ≤ℤ pos most_horizon)
      (sym (same_var t.start known.start.known)) (sym (same_var u.start other.start.known)) h

  tasks_kept : (ts : List Task) → AreTasks vars ts → AreTasks all_vars ts
  tasks_kept ts h = record {
    few = h.few;
    each = All-weaker (IsTask vars) (IsTask all_vars) task_kept ts h.each;
    near = λ k d lt j e below. ends_kept _ _ (h.each j e below) (h.each k d lt) (h.near k d lt j e below);
  }

  -- ---- constraints

  form_kept : (f : Form) → IsForm vars f → IsForm all_vars f
  form_kept (form.Linear r) h = row_kept r h
  form_kept (form.Logic cs) h = record { few = h.few; each = All-weaker (IsClause vars) (IsClause all_vars) clause_kept cs h.each }
  form_kept (form.When ls r) h = record {
    conditions = All-weaker (IsLiteral vars greatest_number) (IsLiteral all_vars greatest_number) (literal_kept greatest_number) ls h.conditions;
    fits = row_kept r h.fits;
  }
  form_kept (form.Alldiff xs) h = record { few = h.few; each = sets_kept xs h.each }
  form_kept (form.Element x es z) h = record {
    index = set_kept x h.index;
    few = h.few;
    each = All-weaker (IsEntry vars) (IsEntry all_vars) entry_kept es h.each;
    value = discrete_wider vars more z h.value;
  }
  form_kept (form.IndexSum c) h = choice_kept c h
  form_kept (form.Cumulative capacity ts) h = record { room = h.room; fit = tasks_kept ts h.fit }
  form_kept (form.Disjunctive ts) h = record { fit = tasks_kept ts h.fit; demands = h.demands }
  form_kept (form.Packing p) h = record {
    value = discrete_wider vars more p.z h.value;
    groups = h.groups;
    capacities = h.capacities;
    opened = h.opened;
    opening = h.opening;
    few = h.few;
    each = All-weaker (IsItem vars (length p.capacities)) (IsItem all_vars (length p.capacities)) (item_kept (length p.capacities)) p.items h.each;
  }
  form_kept (form.Circuit xs) h = record { few = h.few; each = sets_kept xs h.each }
  form_kept (form.Assign c) h = choice_kept c h

  constraint_kept : (c : Constraint) → IsConstraint vars c → IsConstraint all_vars c
  constraint_kept c h = record { fits = form_kept c.form h.fits; tagged = h.tagged }

  abbrev one_if : Bool → ℕ
  one_if b = if b then 1 else 0

  row_real : (r : LinRow) → IsLinear vars r → one_if (has_real all_vars r.terms) ≡ one_if (has_real vars r.terms)
  row_real r h = ap one_if (real_same vars more r.terms h.sum.known)

  real_kept : (f : Form) → IsForm vars f → one_if_real_row all_vars f ≡ one_if_real_row vars f
  real_kept (form.Linear r) h = row_real r h
  real_kept (form.Logic cs) h = refl
  real_kept (form.When ls r) h = row_real r h.fits
  real_kept (form.Alldiff xs) h = refl
  real_kept (form.Element x es z) h = refl
  real_kept (form.IndexSum c) h = refl
  real_kept (form.Cumulative capacity ts) h = refl
  real_kept (form.Disjunctive ts) h = refl
  real_kept (form.Packing p) h = refl
  real_kept (form.Circuit xs) h = refl
  real_kept (form.Assign c) h = refl

  pub constraints_kept : (cs : List Constraint) → AreConstraints vars cs → AreConstraints all_vars cs
  constraints_kept cs h = record {
    few = h.few;
    each = All-weaker (IsConstraint vars) (IsConstraint all_vars) constraint_kept cs h.each;
    total = h.total;
    real_rows =
        let same = sum_same (λ (c : Constraint). one_if_real_row all_vars c.form) (λ (c : Constraint). one_if_real_row vars c.form) cs
        (λ k d lt. real_kept _ (h.each k d lt).fits) in
        omega (arith, h.real_rows, same);
  }

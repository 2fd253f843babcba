-- A flat model: variables with their declared domains, constraints, and goals, most important first.
use Rattle.std.specs.Prelude.{List}
use Rattle.sm_kinds.specs.declared.var.Var.{Var}
use Rattle.sm_flat.specs.declared.form.Constraint.{Constraint}
use Rattle.sm_flat.specs.declared.goal.Goal.{Goal}

pub record FlatModel : Type 0 where
  pub vars : List Var
  pub constraints : List Constraint
  pub goals : List Goal

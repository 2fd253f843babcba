use Rattle.std.proofs.Common.{◌≡◌, ◌≤◌, ◌+◌, drop}
use Rattle.std.specs.Prelude.{sum_by}
use Rattle.sm_flat.specs.Limits.{one_if_real_row}
use Rattle.sm_flat.specs.declared.form.Constraint.{Constraint}
use Rattle.sm_flat.proofs.limits.real_rows_of.Given as goal

abbrev pub invariant-loop-constraint : goal.invariant-loop-constraint
invariant-loop-constraint l = record {
  so_far : l.total + sum_by (λ (c : Constraint). one_if_real_row l.vars c.form) (drop l.constraint-index l.constraints) ≡ sum_by (λ (c : Constraint). one_if_real_row l.vars c.form) l.constraints;
  bound : l.total ≤ l.constraint-index;
}

use Rattle.std.proofs.Common.{◌≡◌, ◌+◌, drop}
use Rattle.std.specs.Prelude.{sum_by}
use Rattle.sm_kinds.specs.Limits.{most_total}
use Rattle.sm_flat.specs.Forms.{size_of}
use Rattle.sm_flat.specs.declared.form.Constraint.{Constraint}
use Rattle.sm_flat.proofs.limits.is_total_within.Given as goal

-- what is left, less the size of the constraints to come, is the limit less the size of all
abbrev pub invariant-loop-constraint : goal.invariant-loop-constraint
invariant-loop-constraint l = l.left + sum_by (λ (c : Constraint). size_of c.form) l.constraints ≡ most_total + sum_by (λ (c : Constraint). size_of c.form) (drop l.constraint-index l.constraints)

use Rattle.std.proofs.Common.{◌≡◌, ℕ, ◌<◌, Some}
use Rattle.std.specs.Prelude.{slice_get}
use Rattle.sm_flat.specs.declared.form.Constraint.{Constraint}
use Rattle.sm_flat.specs.Assignments.{point_of}
use Rattle.sm_flat.specs.Forms.{Sat}
use Rattle.sm_search.proofs.leaf.first_failing.Given as goal

abbrev pub invariant-loop-k : goal.invariant-loop-k
invariant-loop-k l = (j : ℕ) (c : Constraint) → j < l.k → slice_get l.flat.constraints j ≡ Some c → Sat c.form (point_of l.a)

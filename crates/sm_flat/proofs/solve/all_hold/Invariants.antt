use Rattle.std.proofs.Common.{◌≡◌, ℕ, ◌<◌, Some}
use Rattle.std.specs.Prelude.{slice_get}
use Rattle.sm_flat.specs.declared.form.Constraint.{Constraint}
use Rattle.sm_flat.specs.Forms.{Sat}
use Rattle.sm_flat.proofs.solve.all_hold.Given as goal

abbrev pub invariant-loop-k : goal.invariant-loop-k
invariant-loop-k g l = (j : ℕ) (c : Constraint) → j < l.k → slice_get l.constraints j ≡ Some c → Sat c.form (g.V.Values.point l.a)

use Rattle.std.proofs.Common.{◌≡◌, ℕ, ◌<◌, Some}
use Rattle.std.specs.Prelude.{slice_get}
use Rattle.sm_flat.specs.declared.form.Constraint.{Constraint}
use Rattle.sm_flat.specs.Subproblems.{Mentions}
use Rattle.sm_flat.proofs.subproblem.all_tagged.Given as goal

abbrev pub invariant-loop-k : goal.invariant-loop-k
invariant-loop-k l = (j : ℕ) (c : Constraint) → j < l.k → slice_get l.flat.constraints j ≡ Some c → Mentions c.form l.var → c.tags.sub ≡ Some l.sub

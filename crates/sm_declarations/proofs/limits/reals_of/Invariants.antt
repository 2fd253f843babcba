use Rattle.std.proofs.Common.{◌≡◌, ◌+◌, ◌≤◌, drop}
use Rattle.std.specs.Prelude.{sum_by}
use Rattle.sm_flat.specs.Limits.{one_if_real}
use Rattle.sm_declarations.proofs.limits.reals_of.Given as goal

abbrev pub invariant-loop-var : goal.invariant-loop-var
invariant-loop-var l = record { value : l.reals + sum_by one_if_real (drop l.var-index l.vars) ≡ sum_by one_if_real l.vars; bound : l.reals ≤ l.var-index }

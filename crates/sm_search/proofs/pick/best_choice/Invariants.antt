use Rattle.std.specs.Prelude.{IfSome}
use Rattle.sm_search.specs.Leaves.{IsUnfixed}
use Rattle.sm_search.proofs.pick.best_choice.Given as goal

abbrev pub invariant-loop-constraint : goal.invariant-loop-constraint
invariant-loop-constraint l = IfSome l.found (λ c. IsUnfixed l.store c.var)

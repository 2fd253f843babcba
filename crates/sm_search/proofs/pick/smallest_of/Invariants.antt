use Rattle.std.specs.Prelude.{IfSome}
use Rattle.sm_search.specs.Leaves.{IsUnfixed}
use Rattle.sm_search.proofs.pick.smallest_of.Given as goal

abbrev pub invariant-loop-term : goal.invariant-loop-term
invariant-loop-term l = IfSome l.found (λ v. IsUnfixed l.store v)

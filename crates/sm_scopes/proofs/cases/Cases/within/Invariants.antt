use Rattle.std.proofs.Common.{◌∷◌, drop}
use Rattle.sm_scopes.proofs.Within.{Bound}
use Rattle.sm_scopes.proofs.cases.Cases.within.Given as goal

abbrev pub invariant-loop-binder : goal.invariant-loop-binder
invariant-loop-binder l = Bound (l.fn.first ∷ l.fn.more) l.fn.scope l.fn.outside.tuple (drop l.binder-index l.more) l.wheels.items

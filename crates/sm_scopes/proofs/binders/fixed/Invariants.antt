use Rattle.sm_scopes.proofs.Copying.{Copies}
use Rattle.sm_scopes.proofs.binders.fixed.Given as goal

abbrev pub invariant-loop-wheel : goal.invariant-loop-wheel
invariant-loop-wheel l = Copies l.outside l.wheel-index l.wheels.items

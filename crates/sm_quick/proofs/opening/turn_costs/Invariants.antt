use Rattle.sm_quick.specs.Shape.{IsSameShape}
use Rattle.sm_quick.proofs.opening.turn_costs.Given as goal

abbrev pub invariant-loop-j : goal.invariant-loop-j
invariant-loop-j l = IsSameShape l.initial.tableau l.tableau

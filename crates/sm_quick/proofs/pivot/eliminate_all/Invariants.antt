use Rattle.sm_quick.specs.Shape.{IsSameShape}
use Rattle.sm_quick.proofs.pivot.eliminate_all.Given as goal

abbrev pub invariant-loop-i : goal.invariant-loop-i
invariant-loop-i l = IsSameShape l.initial.tableau l.tableau

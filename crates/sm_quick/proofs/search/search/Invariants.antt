use Rattle.sm_quick.specs.Shape.{IsSameShape}
use Rattle.sm_quick.proofs.search.search.Given as goal

abbrev pub invariant-loop : goal.invariant-loop
invariant-loop l = IsSameShape l.initial.tableau l.tableau

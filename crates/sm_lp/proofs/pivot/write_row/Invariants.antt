use Rattle.sm_lp.proofs.PivotSteps.{TurnedSoFar}
use Rattle.sm_lp.proofs.pivot.write_row.Given as goal

abbrev pub invariant-loop-j : goal.invariant-loop-j
invariant-loop-j l = TurnedSoFar l.initial.cells.items l.cells.items l.quotients l.start l.column l.j

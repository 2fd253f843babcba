use Rattle.sm_lp.proofs.PivotSteps.{RowsSoFar}
use Rattle.sm_lp.proofs.pivot.eliminate_rows.Given as goal

abbrev pub invariant-loop-i : goal.invariant-loop-i
invariant-loop-i l = RowsSoFar l.initial.cells.items l.cells.items l.quotients l.row l.column l.i

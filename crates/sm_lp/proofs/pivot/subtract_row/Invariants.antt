use Rattle.sm_frac.specs.Frac.{value_of}
use Rattle.sm_lp.proofs.PivotSteps.{RowSoFar}
use Rattle.sm_lp.proofs.pivot.subtract_row.Given as goal

abbrev pub invariant-loop-j : goal.invariant-loop-j
invariant-loop-j l = RowSoFar l.initial.cells.items l.cells.items (value_of l.factor) l.quotients l.start l.column l.j

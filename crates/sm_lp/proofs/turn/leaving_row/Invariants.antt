use Rattle.sm_lp.specs.Table.{dictionary_of}
use Rattle.sm_lp.proofs.TurnLemmas.{LeavingSoFar}
use Rattle.sm_lp.proofs.turn.leaving_row.Given as goal

abbrev pub invariant-loop-i : goal.invariant-loop-i
invariant-loop-i l = LeavingSoFar (dictionary_of l.table) l.column l.i l.best

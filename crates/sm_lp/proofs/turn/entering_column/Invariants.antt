use Rattle.sm_lp.specs.Table.{dictionary_of}
use Rattle.sm_lp.proofs.TurnLemmas.{EnteringSoFar}
use Rattle.sm_lp.proofs.turn.entering_column.Given as goal

abbrev pub invariant-loop-j : goal.invariant-loop-j
invariant-loop-j l = EnteringSoFar (dictionary_of l.table) l.row l.positive l.j l.best

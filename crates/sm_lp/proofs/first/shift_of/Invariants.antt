use Rattle.sm_lp.proofs.WritingLemmas.{ShiftSoFar}
use Rattle.sm_lp.proofs.first.shift_of.Given as goal

abbrev pub invariant-loop-j : goal.invariant-loop-j
invariant-loop-j l = ShiftSoFar l.numbers l.columns l.j l.shift

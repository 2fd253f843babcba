use Rattle.sm_lp.proofs.WritingLemmas.{WrittenSoFar}
use Rattle.sm_lp.proofs.first.write_row.Given as goal

abbrev pub invariant-loop-j : goal.invariant-loop-j
invariant-loop-j l = WrittenSoFar l.initial.cells.items l.cells.items l.start l.numbers l.turned l.j

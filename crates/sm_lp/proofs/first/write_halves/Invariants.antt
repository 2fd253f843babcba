use Rattle.sm_lp.proofs.WritingLemmas.{HalvesSoFar}
use Rattle.sm_lp.proofs.first.write_halves.Given as goal

abbrev pub invariant-loop-row : goal.invariant-loop-row
invariant-loop-row l = HalvesSoFar l.program l.initial.cells.items l.cells.items l.row-index l.half

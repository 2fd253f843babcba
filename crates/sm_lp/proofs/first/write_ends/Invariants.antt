use Rattle.sm_lp.proofs.WritingLemmas.{EndsSoFar}
use Rattle.sm_lp.proofs.first.write_ends.Given as goal

abbrev pub invariant-loop-k : goal.invariant-loop-k
invariant-loop-k l = EndsSoFar l.program l.initial.cells.items l.cells.items l.k

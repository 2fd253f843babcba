use Rattle.sm_lp.proofs.WritingLemmas.{NumbersSoFar}
use Rattle.sm_lp.proofs.first.numbers_of.Given as goal

abbrev pub invariant-loop-term : goal.invariant-loop-term
invariant-loop-term l = NumbersSoFar l.columns l.terms l.term-index l.numbers.items

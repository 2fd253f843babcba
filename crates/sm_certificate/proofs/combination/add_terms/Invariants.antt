use Rattle.sm_frac.specs.Frac.{value_of}
use Rattle.sm_certificate.proofs.CombinationLemmas.{TermsSoFar}
use Rattle.sm_certificate.proofs.combination.add_terms.Given as goal

abbrev pub invariant-loop-i : goal.invariant-loop-i
invariant-loop-i l = TermsSoFar l.initial.sums.items l.sums.items (value_of l.multiplier) l.terms l.i

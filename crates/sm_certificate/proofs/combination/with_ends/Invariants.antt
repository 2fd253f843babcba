use Rattle.sm_frac.specs.Frac.{value_of}
use Rattle.sm_certificate.specs.Numbers.{number_at}
use Rattle.sm_certificate.proofs.CombinationLemmas.{EndsSoFar}
use Rattle.sm_certificate.proofs.combination.with_ends.Given as goal

abbrev pub invariant-loop-j : goal.invariant-loop-j
invariant-loop-j l = EndsSoFar l.program (value_of l.initial.bound) (number_at l.rest) l.j (value_of l.bound)

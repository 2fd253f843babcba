use Rattle.std.proofs.Common.{map}
use Rattle.sm_frac.specs.Frac.{value_of}
use Rattle.sm_certificate.proofs.CombinationLemmas.{BoundSoFar}
use Rattle.sm_certificate.proofs.combination.rows_bound.Given as goal

abbrev pub invariant-loop-i : goal.invariant-loop-i
invariant-loop-i l = BoundSoFar l.rows (map value_of l.multipliers) l.i (value_of l.bound)

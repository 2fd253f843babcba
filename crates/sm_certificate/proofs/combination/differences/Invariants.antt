use Rattle.sm_certificate.specs.Program.{target_at}
use Rattle.sm_certificate.proofs.CombinationLemmas.{DifferencesSoFar}
use Rattle.sm_certificate.proofs.combination.differences.Given as goal

abbrev pub invariant-loop-j : goal.invariant-loop-j
invariant-loop-j l = DifferencesSoFar l.initial.sums.items l.sums.items (target_at l.target) l.j

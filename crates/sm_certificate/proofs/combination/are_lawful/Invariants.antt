use Rattle.std.proofs.Common.{map}
use Rattle.sm_frac.specs.Frac.{value_of}
use Rattle.sm_certificate.proofs.CombinationLemmas.{LawfulFrom}
use Rattle.sm_certificate.proofs.combination.are_lawful.Given as goal

abbrev pub invariant-loop-i : goal.invariant-loop-i
invariant-loop-i l = LawfulFrom l.rows (map value_of l.multipliers) l.i

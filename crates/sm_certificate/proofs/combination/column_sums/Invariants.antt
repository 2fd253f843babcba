use Rattle.std.proofs.Common.{◌≡◌, vec_len, map}
use Rattle.sm_frac.specs.Frac.{value_of}
use Rattle.sm_certificate.proofs.CombinationLemmas.{RowsSoFar}
use Rattle.sm_certificate.proofs.combination.column_sums.Given as goal

abbrev pub invariant-loop-i : goal.invariant-loop-i
invariant-loop-i l = record {
  long : vec_len l.sums ≡ vec_len l.initial.sums;
  rows : RowsSoFar (vec_len l.initial.sums) l.sums.items l.rows (map value_of l.multipliers) l.i;
}

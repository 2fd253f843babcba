use Rattle.std.proofs.Common.{drop, take}
use Rattle.std.specs.Prelude.{All, unsigned_abs}
use Rattle.sm_step.specs.Grammar.{IsWideNumber}
use Rattle.sm_step.proofs.Divisors.{SameDivisors}
use Rattle.sm_step.proofs.range.are_in_lowest_terms.Given as goal

abbrev pub invariant-loop-numerator : goal.invariant-loop-numerator
invariant-loop-numerator l = record {
  divisors : SameDivisors l.divisor (drop l.numerator-index l.numerators) (unsigned_abs l.denominator) l.numerators;
  whole : All IsWideNumber (take l.numerator-index l.numerators);
}

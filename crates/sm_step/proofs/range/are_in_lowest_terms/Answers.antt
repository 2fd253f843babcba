use Rattle.std.proofs.Common.{◌≡◌, ◌∙◌, ap, sym, arith, pos, ℕ, subst, rules, FitsSigned, get_or}
use Rattle.std.specs.Prelude.{unsigned_abs}
use Rattle.std.specs.Int.{w64, w128, IsGcd}
use Rattle.std.proofs.lemmas.Int.{to_z-of_z}
use Rattle.std.proofs.lemmas.List.Elements.{All-nil, All-more, All-same}
use Rattle.std.proofs.lemmas.List.{take_all}
use Rattle.sm_step.specs.Grammar.{IsWideNumber}
use Rattle.sm_step.proofs.Divisors.{same_at_first, same_after, same_at_last}
use Rattle.sm_step.proofs.range.are_in_lowest_terms.Goals as goal

pub loop-numerator-init : goal.loop-numerator-init
loop-numerator-init c = record {
  divisors = same_at_first c.from-divisor.result _ c.args.numerators.now (c.from-divisor.ensures ∙ c.unsigned_abs.ensures.value);
  whole = All-nil IsWideNumber;
}

pub loop-numerator-preserved : goal.loop-numerator-preserved
loop-numerator-preserved c =
    let i = c.loop-numerator.numerator-index in
    let fits : FitsSigned w128 (get_or c.args.numerators.now i (pos 0)) = search rules in
    let size : c.unsigned_abs-in-loop-numerator.result ≡ unsigned_abs (get_or c.args.numerators.now i (pos 0)) = c.unsigned_abs-in-loop-numerator.ensures.value ∙ ap unsigned_abs (to_z-of_z w128 (get_or c.args.numerators.now i (pos 0)) fits) in
    record {
      divisors = same_after c.loop-numerator.divisor c.gcd-divisor.result _ i c.args.numerators.now c.loop-numerator.invariant.divisors (omega arith) (subst (λ (n : ℕ). IsGcd c.loop-numerator.divisor n c.gcd-divisor.result) size c.gcd-divisor.ensures);
      whole = All-more IsWideNumber c.args.numerators.now i (pos 0) (omega arith) c.loop-numerator.invariant.whole fits;
    }

pub returns-clause-whole : goal.returns-clause-whole
returns-clause-whole c = All-same IsWideNumber c.args.numerators.now _ (sym (take_all c.loop-numerator.numerator-index c.args.numerators.now (omega arith))) c.loop-numerator.invariant.whole

pub returns-clause-lowest : goal.returns-clause-lowest
returns-clause-lowest c = same_at_last c.loop-numerator.divisor _ c.loop-numerator.numerator-index c.args.numerators.now c.args.denominator c.loop-numerator.invariant.divisors (omega arith)
    (ap unsigned_abs (to_z-of_z w64 c.args.denominator c.ranges.denominator))

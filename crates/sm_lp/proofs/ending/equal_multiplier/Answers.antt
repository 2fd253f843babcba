use Rattle.std.proofs.Common.{sym, ◌∙◌, arith, ◌≡◌}
use Rattle.std.proofs.Math.Logic.{⊎_elim}
use Rattle.std.proofs.lemmas.Int.{ints}
use Rattle.sm_frac.specs.Rational.{zero_ℚ}
use Rattle.sm_frac.specs.Frac.{value_of}
use Rattle.sm_frac.proofs.OperationLemmas.{zero_of}
use Rattle.sm_certificate.proofs.FineLemmas.{value_of_zero}
use Rattle.sm_lp.proofs.EndingLemmas.{first_zero, second_zero}
use Rattle.sm_lp.proofs.ending.equal_multiplier.Goals as goal

pub returns-then-n-eq0 : goal.returns-then-n-eq0
returns-then-n-eq0 c = c.turned.ensures ∙ sym (first_zero (value_of c.args.upper) (value_of c.args.lower) (value_of_zero c.args.upper (omega (arith, ints))))

pub returns-else-n-eq0 : goal.returns-else-n-eq0
returns-else-n-eq0 c = ⊎_elim
    (λ (z : value_of c.args.upper ≡ zero_ℚ). absurd (let n = zero_of c.args.upper z in omega (arith, ints)))
    (λ (z : value_of c.args.lower ≡ zero_ℚ). second_zero (value_of c.args.upper) (value_of c.args.lower) z) c.requires

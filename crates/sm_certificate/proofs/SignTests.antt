-- The signs of a fraction.
use Rattle.std.proofs.Common.{sym, arith, subst}
use Rattle.std.specs.Prelude.{IsTrue, pos, ◌<ℤ◌, ◌≤ℤ◌, neg_ℤ, unsigned_abs}
use Rattle.std.proofs.lemmas.Int.{ints}
use Rattle.sm_frac.specs.Frac.{value_of}
use Rattle.sm_frac.specs.declared.fraction.Frac.{Frac}
use Rattle.sm_frac.specs.Rational.{ℚ, neg_ℚ, neg_ℚ-fraction, is_nonnegative, is_nonnegative-fraction}
use Rattle.sm_frac.proofs.OperationLemmas.{sign_of, abs_above}
use Rattle.sm_certificate.specs.Signs.{AtLeast, Below, AtMost, Above}

pub below_zero : (f : Frac) → f.n <ℤ pos 0 → Below (value_of f)
below_zero f h = record { is = λ (a : AtLeast (value_of f)). let low = (sign_of f).0 a.is in absurd (omega (arith, ints)) }

pub not_below_zero : (f : Frac) → pos 0 ≤ℤ f.n → AtLeast (value_of f)
not_below_zero f h = record { is = (sign_of f).1 h }

turned_sign : (f : Frac) → IsTrue (is_nonnegative (neg_ℚ (value_of f))) → pos 0 ≤ℤ neg_ℤ f.n
unfolding value_of
turned_sign f h = (is_nonnegative-fraction (neg_ℤ f.n) (unsigned_abs f.d) (abs_above f.d f.positive)).0 (subst (λ (x : ℚ). IsTrue (is_nonnegative x)) (neg_ℚ-fraction f.n (unsigned_abs f.d) (abs_above f.d f.positive)) h)

sign_turned : (f : Frac) → pos 0 ≤ℤ neg_ℤ f.n → IsTrue (is_nonnegative (neg_ℚ (value_of f)))
unfolding value_of
sign_turned f h = subst (λ (x : ℚ). IsTrue (is_nonnegative x)) (sym (neg_ℚ-fraction f.n (unsigned_abs f.d) (abs_above f.d f.positive))) ((is_nonnegative-fraction (neg_ℤ f.n) (unsigned_abs f.d) (abs_above f.d f.positive)).1 h)

pub above_zero : (f : Frac) → pos 0 <ℤ f.n → Above (value_of f)
above_zero f h = record { is = λ (a : AtMost (value_of f)). let low = turned_sign f a.is in absurd (omega (arith, ints)) }

pub not_above_zero : (f : Frac) → f.n ≤ℤ pos 0 → AtMost (value_of f)
not_above_zero f h = record { is = sign_turned f (omega (arith, ints)) }

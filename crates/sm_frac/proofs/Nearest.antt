-- The whole numbers next to a fraction.
use Rattle.std.proofs.Common.{◌≡◌, ℕ, ap, ◌∙◌, arith}
use Rattle.std.specs.Prelude.{ℤ, pos, negsuc, ◌*ℤ◌, ◌+ℤ◌, ◌-ℤ◌, neg_ℤ, ◌≤ℤ◌, ◌<ℤ◌, unsigned_abs}
use Rattle.std.specs.Int.{int_div_euclid}
use Rattle.std.proofs.lemmas.Int.{ints, by_lt_z}
use Rattle.sm_frac.specs.declared.fraction.Frac.{Frac}
use Rattle.sm_frac.specs.Rational.{ℚ, ◌≤ℚ◌, ◌<ℚ◌, whole_ℚ}
use Rattle.sm_frac.specs.Frac.{value_of}
use Rattle.sm_frac.specs.Rounding.{IsFloor, IsCeiling}
use Rattle.sm_frac.proofs.IntRing.{pos_abs, +ℤ-*ℤ}
use Rattle.sm_frac.proofs.Order.{fraction_le_cross, lt_from_not_le}
use Rattle.sm_frac.proofs.OperationLemmas.{abs_above}
use Rattle.sm_frac.proofs.RoundingLemmas.{floor_from, ceil_from}

-- a product with a number above zero keeps the order
times_above : (a b d : ℤ) → pos 0 <ℤ d → a ≤ℤ b → (a *ℤ d) ≤ℤ (b *ℤ d)
times_above a b d h k =
    let n : ℕ = unsigned_abs (b -ℤ a) in
    let more : b ≡ a +ℤ pos n = omega (arith, ints) in
    let rest = above_zero n d h in
    let whole : b *ℤ d ≡ a *ℤ d +ℤ pos n *ℤ d = ap (λ (x : ℤ). x *ℤ d) more ∙ +ℤ-*ℤ a (pos n) d in
    joined (a *ℤ d) (b *ℤ d) (pos n *ℤ d) whole rest
  where
    above_zero : (n : ℕ) (d : ℤ) → pos 0 <ℤ d → pos 0 ≤ℤ (pos n *ℤ d)
    above_zero n (pos d) h = omega (arith, ints)
    above_zero n (negsuc d) h = absurd (omega (arith, ints))

    joined : (x y z : ℤ) → y ≡ x +ℤ z → pos 0 ≤ℤ z → x ≤ℤ y
    joined x y z e h = omega (arith, ints)

-- a whole number beside a fraction
pub whole_below : (z : ℤ) (f : Frac) → (z *ℤ f.d) ≤ℤ f.n → whole_ℚ z ≤ℚ value_of f
unfolding value_of
whole_below z f h = (fraction_le_cross z f.n 1 (unsigned_abs f.d) (omega arith) (abs_above f.d f.positive)).1 (rw (pos_abs f.d f.positive) (over_one (z *ℤ f.d) f.n h))
  where
    over_one : (x n : ℤ) → x ≤ℤ n → x ≤ℤ (n *ℤ pos 1)
    over_one x n h = omega (arith, ints)

pub from_whole_below : (z : ℤ) (f : Frac) → whole_ℚ z ≤ℚ value_of f → (z *ℤ f.d) ≤ℤ f.n
unfolding value_of
from_whole_below z f h = under_one (z *ℤ f.d) f.n (rw (pos_abs f.d f.positive) at ((fraction_le_cross z f.n 1 (unsigned_abs f.d) (omega arith) (abs_above f.d f.positive)).0 h))
  where
    under_one : (x n : ℤ) → x ≤ℤ (n *ℤ pos 1) → x ≤ℤ n
    under_one x n h = omega (arith, ints)

pub whole_above : (f : Frac) (z : ℤ) → f.n ≤ℤ (z *ℤ f.d) → value_of f ≤ℚ whole_ℚ z
unfolding value_of
whole_above f z h = (fraction_le_cross f.n z (unsigned_abs f.d) 1 (abs_above f.d f.positive) (omega arith)).1 (rw (pos_abs f.d f.positive) (over_one f.n (z *ℤ f.d) h))
  where
    over_one : (n x : ℤ) → n ≤ℤ x → (n *ℤ pos 1) ≤ℤ x
    over_one n x h = omega (arith, ints)

pub from_whole_above : (f : Frac) (z : ℤ) → value_of f ≤ℚ whole_ℚ z → f.n ≤ℤ (z *ℤ f.d)
unfolding value_of
from_whole_above f z h = under_one f.n (z *ℤ f.d) (rw (pos_abs f.d f.positive) at ((fraction_le_cross f.n z (unsigned_abs f.d) 1 (abs_above f.d f.positive) (omega arith)).0 h))
  where
    under_one : (n x : ℤ) → (n *ℤ pos 1) ≤ℤ x → n ≤ℤ x
    under_one n x h = omega (arith, ints)

next_product : (z d : ℤ) → (z +ℤ pos 1) *ℤ d ≡ z *ℤ d +ℤ d
next_product z d = +ℤ-*ℤ z (pos 1) d ∙ ap (λ (x : ℤ). z *ℤ d +ℤ x) (one_times d)
  where
    one_times : (d : ℤ) → pos 1 *ℤ d ≡ d
    one_times d = omega (arith, ints)

next_le : (a b : ℤ) → a <ℤ b → (a +ℤ pos 1) ≤ℤ b
next_le a b h = omega (arith, ints)

-- z rounds f down
pub is_floor : (f : Frac) (z : ℤ) → z ≡ int_div_euclid f.n f.d → IsFloor (value_of f) z
is_floor f z e =
    let bounds = floor_from f.n f.d z e f.positive in
    record {
      below = whole_below z f bounds.0;
      greatest = λ w h. least_above w z f.d f.n f.positive (from_whole_below w f h) bounds.1;
    }
  where
    clash : (a b s n : ℤ) → a ≤ℤ b → a ≡ s → b ≤ℤ n → n <ℤ s → ⊥
    clash a b s n h e k l = absurd (omega (arith, ints))

    least_above : (w z d n : ℤ) → pos 0 <ℤ d → (w *ℤ d) ≤ℤ n → n <ℤ (z *ℤ d +ℤ d) → w ≤ℤ z
    least_above w z d n h below above = by_lt_z z w (λ (more : z <ℤ w). absurd (clash ((z +ℤ pos 1) *ℤ d) (w *ℤ d) (z *ℤ d +ℤ d) n (times_above (z +ℤ pos 1) w d h (next_le z w more)) (next_product z d) below above)) (λ le. le)

-- z rounds f up
pub is_ceiling : (f : Frac) (m q z : ℤ) → m ≡ neg_ℤ f.n → q ≡ int_div_euclid m f.d → z ≡ neg_ℤ q → IsCeiling (value_of f) z
is_ceiling f m q z em eq ez =
    let bounds = ceil_from f.n f.d m q z em eq ez f.positive in
    record {
      above = whole_above f z bounds.0;
      least = λ w h. greatest_below w z f.d f.n f.positive (from_whole_above f w h) bounds.1;
    }
  where
    clash : (a b s n d : ℤ) → a ≤ℤ b → a ≡ s +ℤ d → n ≤ℤ s → b <ℤ (n +ℤ d) → ⊥
    clash a b s n d h e k l = absurd (omega (arith, ints))

    greatest_below : (w z d n : ℤ) → pos 0 <ℤ d → n ≤ℤ (w *ℤ d) → (z *ℤ d) <ℤ (n +ℤ d) → z ≤ℤ w
    greatest_below w z d n h above below = by_lt_z w z (λ (more : w <ℤ z). absurd (clash ((w +ℤ pos 1) *ℤ d) (z *ℤ d) (w *ℤ d) n d (times_above (w +ℤ pos 1) z d h (next_le w z more)) (next_product w d) above below)) (λ le. le)

-- a number is less than its floor and one
pub floor_next : (x : ℚ) (z : ℤ) → IsFloor x z → x <ℚ whole_ℚ (z +ℤ pos 1)
floor_next x z h = lt_from_not_le x (whole_ℚ (z +ℤ pos 1)) (λ k. absurd (over z (h.greatest (z +ℤ pos 1) k)))
  where
    over : (z : ℤ) → (z +ℤ pos 1) ≤ℤ z → ⊥
    over z h = absurd (omega (arith, ints))

-- a number is more than its ceiling less one
pub ceiling_before : (x : ℚ) (z : ℤ) → IsCeiling x z → whole_ℚ (z -ℤ pos 1) <ℚ x
ceiling_before x z h = lt_from_not_le (whole_ℚ (z -ℤ pos 1)) x (λ k. absurd (over z (h.least (z -ℤ pos 1) k)))
  where
    over : (z : ℤ) → z ≤ℤ (z -ℤ pos 1) → ⊥
    over z h = absurd (omega (arith, ints))

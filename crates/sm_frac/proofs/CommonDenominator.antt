-- Whole numbers over a common denominator.
use Rattle.std.proofs.Common.{◌≡◌, ℕ, ◌*◌, ◌<◌, ap, sym, ◌∙◌, subst, arith, refl}
use Rattle.std.specs.Prelude.{ℤ, pos, ◌*ℤ◌, ◌+ℤ◌, neg_ℤ, ◌≤ℤ◌, ◌↔◌, IsTrue}
use Rattle.std.proofs.lemmas.Int.{ints}
use Rattle.std.proofs.Math.Nat.{mul-pos}
use Rattle.sm_frac.specs.declared.fraction.Frac.{Frac}
use Rattle.sm_frac.specs.Rational.{ℚ, ◌+ℚ◌, ◌*ℚ◌, ◌-ℚ◌, ◌≤ℚ◌, fraction, whole_ℚ, fraction_same, fraction-+ℚ, fraction-*ℚ, neg_ℚ-fraction, is_nonnegative, is_nonnegative-fraction}
use Rattle.sm_frac.specs.Frac.{value_of}
use Rattle.sm_frac.proofs.IntRing.{products, +ℤ-*ℤ}

sum_over : (m n d : ℤ) (e : ℤ) → e ≡ d *ℤ d → (m *ℤ d +ℤ n *ℤ d) *ℤ d ≡ (m +ℤ n) *ℤ e
sum_over m n d e h = ap (λ (z : ℤ). z *ℤ d) (sym (+ℤ-*ℤ m n d)) ∙ (assoc ∙ ap (λ (z : ℤ). (m +ℤ n) *ℤ z) (sym h))
  where
    assoc : (m +ℤ n) *ℤ d *ℤ d ≡ (m +ℤ n) *ℤ (d *ℤ d)
    assoc = simp products

pub fraction_sum : (m n : ℤ) (d : ℕ) → 0 < d → fraction m d +ℚ fraction n d ≡ fraction (m +ℤ n) d
fraction_sum m n d h = fraction-+ℚ m n d d h h ∙ fraction_same (m *ℤ pos d +ℤ n *ℤ pos d) (m +ℤ n) (d * d) d (mul-pos h h) h (sum_over m n (pos d) (pos (d * d)) refl)

pub fraction_scaled : (k n : ℤ) (d : ℕ) → 0 < d → whole_ℚ k *ℚ fraction n d ≡ fraction (k *ℤ n) d
fraction_scaled k n d h = fraction-*ℚ k n 1 d (omega arith) h ∙ ap (λ (e : ℕ). fraction (k *ℤ n) e) (omega arith)

-- a whole number over 1 and over d
pub whole_over : (k : ℤ) (d : ℕ) → 0 < d → whole_ℚ k ≡ fraction (k *ℤ pos d) d
whole_over k d h = fraction_same k (k *ℤ pos d) 1 d (omega arith) h (omega (arith, ints))

pub fraction_le : (m n : ℤ) (d : ℕ) → 0 < d → (fraction m d ≤ℚ fraction n d) ↔ (m ≤ℤ n)
fraction_le m n d h =
    let e : fraction n d -ℚ fraction m d ≡ fraction (n +ℤ neg_ℤ m) d = ap (λ (z : ℚ). fraction n d +ℚ z) (neg_ℚ-fraction m d h) ∙ fraction_sum n (neg_ℤ m) d h in
    let test = is_nonnegative-fraction (n +ℤ neg_ℤ m) d h in
    let P : ℚ → Type 0 = λ z. IsTrue (is_nonnegative z) in
    (λ le. let low = test.0 (subst P e le.le) in omega (arith, ints), λ le. record { le = subst P (sym e) (test.1 (omega (arith, ints))) })

-- ---- whole numbers

pub whole_sum : (m n : ℤ) → whole_ℚ m +ℚ whole_ℚ n ≡ whole_ℚ (m +ℤ n)
whole_sum m n = fraction_sum m n 1 (omega arith)

pub whole_product : (m n : ℤ) → whole_ℚ m *ℚ whole_ℚ n ≡ whole_ℚ (m *ℤ n)
whole_product m n = fraction_scaled m n 1 (omega arith)

pub whole_le : (m n : ℤ) → m ≤ℤ n → whole_ℚ m ≤ℚ whole_ℚ n
whole_le m n h = (fraction_le m n 1 (omega arith)).1 h

pub from_whole_le : (m n : ℤ) → whole_ℚ m ≤ℚ whole_ℚ n → m ≤ℤ n
from_whole_le m n h = (fraction_le m n 1 (omega arith)).0 h

-- the fraction of a whole number
pub whole_value : (f : Frac) (n : ℤ) → f.n ≡ n → f.d ≡ pos 1 → value_of f ≡ whole_ℚ n
unfolding value_of
whole_value f n en ed = rw (en, ed) refl

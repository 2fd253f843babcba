-- Products of whole numbers, and their order.
use Rattle.std.proofs.Common.{◌≡◌, ℕ, zero, suc, refl, arith, sym, ap, ◌∙◌}
use Rattle.std.specs.Prelude.{ℤ, pos, negsuc, ◌+ℤ◌, ◌*ℤ◌, neg_ℤ, ◌<ℤ◌, ◌≤ℤ◌}
use Rattle.std.proofs.lemmas.Int.{ints, by_lt_z}
use Rattle.std.proofs.Math.IntN.{*ℤ_comm, *ℤ-zero}
use Rattle.sm_frac.proofs.IntRing.{+ℤ-*ℤ}

mul-step : (a : ℤ) (n : ℕ) → a *ℤ pos (suc n) ≡ a *ℤ pos n +ℤ a
mul-step a n = omega (arith, ints)

mul-le_pos : (a b : ℤ) (n : ℕ) → a ≤ℤ b → (a *ℤ pos n) ≤ℤ (b *ℤ pos n)
mul-le_pos a b zero h = rw (*ℤ-zero a, *ℤ-zero b) (omega (arith, ints))
mul-le_pos a b (suc n) h = rw (mul-step a n, mul-step b n) (omega (arith, ints, mul-le_pos a b n h))

-- a positive number is a successor
pub record Positive (d : ℤ) : Type 0 where
  pub n : ℕ
  pub is : d ≡ pos (suc n)

pub positive_of : (d : ℤ) → pos 0 <ℤ d → Positive d
positive_of (pos zero) h = absurd (omega (arith, ints))
positive_of (pos (suc n)) h = record { n = n; is = refl }
positive_of (negsuc n) h = absurd (omega (arith, ints))

pub mul-le : (a b d : ℤ) → pos 0 ≤ℤ d → a ≤ℤ b → (a *ℤ d) ≤ℤ (b *ℤ d)
mul-le a b (pos n) p h = mul-le_pos a b n h
mul-le a b (negsuc n) p h = absurd (omega (arith, ints))

pub mul-lt : (a b d : ℤ) → pos 0 <ℤ d → a <ℤ b → (a *ℤ d) <ℤ (b *ℤ d)
mul-lt a b d p h =
    let q = positive_of d p in
    rw (q.is, mul-step a q.n, mul-step b q.n) (omega (arith, ints, mul-le_pos a b q.n (omega (arith, ints))))

-- what is less after a product with a positive factor was less before
pub cancel-lt : (a b d : ℤ) → pos 0 <ℤ d → (a *ℤ d) <ℤ (b *ℤ d) → a <ℤ b
cancel-lt a b d p h = by_lt_z a b (λ l. l) (λ le. absurd (omega (arith, ints, mul-le b a d (omega (arith, ints)) le)))

pub mul-neg : (a b : ℤ) → neg_ℤ a *ℤ b ≡ neg_ℤ (a *ℤ b)
mul-neg a b = omega (arith, ints, sym (+ℤ-*ℤ a (neg_ℤ a) b), ap (λ (z : ℤ). z *ℤ b) (cancels a), zero_left b)
  where
    cancels : (x : ℤ) → x +ℤ neg_ℤ x ≡ pos 0
    cancels x = omega (arith, ints)

    zero_left : (x : ℤ) → pos 0 *ℤ x ≡ pos 0
    zero_left x = *ℤ_comm (pos 0) x ∙ *ℤ-zero x

-- Products with a number above 0: they keep an order, an equation and a sum.
use Rattle.std.proofs.Common.{◌≡◌, ◌∙◌, ap, sym, arith, ℕ, zero, suc, ◌⊎◌, inl, inr}
use Rattle.std.specs.Prelude.{ℤ, pos, negsuc, ◌+ℤ◌, ◌-ℤ◌, ◌*ℤ◌, ◌*◌, ◌<ℤ◌, ◌≤ℤ◌, int_le, int_lt}
use Rattle.std.specs.Ordering.{int_eq}
use Rattle.std.proofs.lemmas.Int.{ints}
use Rattle.std.proofs.Math.IntN.{*ℤ-zero, *ℤ_comm}
use borrow.Author.Differences.{same_in, product_is, sum_is_lem, up, down}

pub *ℤ_assoc : (a b c : ℤ) → (a *ℤ b) *ℤ c ≡ a *ℤ (b *ℤ c)
*ℤ_assoc a b c =
    let p = product_is a b in let q = product_is b c in
    let r = product_is (a *ℤ b) c in let s = product_is a (b *ℤ c) in
    same_in ((a *ℤ b) *ℤ c) (a *ℤ (b *ℤ c)) (rw (r.0, r.1, s.0, s.1, p.0, p.1, q.0, q.1) (omega arith))

pub *ℤ_right_comm : (a b c : ℤ) → a *ℤ b *ℤ c ≡ a *ℤ c *ℤ b
*ℤ_right_comm a b c = *ℤ_assoc a b c ∙ ap (λ (x : ℤ). a *ℤ x) (*ℤ_comm b c) ∙ sym (*ℤ_assoc a c b)

pub *ℤ-+ℤ : (a b c : ℤ) → a *ℤ (b +ℤ c) ≡ a *ℤ b +ℤ a *ℤ c
*ℤ-+ℤ a b c =
    let h = sum_is_lem b c in
    same_in (a *ℤ (b +ℤ c)) (a *ℤ b +ℤ a *ℤ c)
    (omega (arith, product_is a (b +ℤ c), product_is a b, product_is a c, sum_is_lem (a *ℤ b) (a *ℤ c), ap (λ (n : ℕ). up a * n) h, ap (λ (n : ℕ). down a * n) h))

pub +ℤ-*ℤ : (a b c : ℤ) → (a +ℤ b) *ℤ c ≡ a *ℤ c +ℤ b *ℤ c
+ℤ-*ℤ a b c = *ℤ_comm (a +ℤ b) c ∙ *ℤ-+ℤ c a b ∙ ap (λ (x : ℤ). x +ℤ c *ℤ b) (*ℤ_comm c a) ∙ ap (λ (x : ℤ). a *ℤ c +ℤ x) (*ℤ_comm c b)

pub -ℤ-*ℤ : (a b c : ℤ) → (a -ℤ b) *ℤ c ≡ a *ℤ c -ℤ b *ℤ c
-ℤ-*ℤ a b c =
    let back : (a -ℤ b) +ℤ b ≡ a = omega (arith, ints) in
    let whole : (a -ℤ b) *ℤ c +ℤ b *ℤ c ≡ a *ℤ c = sym (+ℤ-*ℤ (a -ℤ b) b c) ∙ ap (λ (x : ℤ). x *ℤ c) back in
    taken ((a -ℤ b) *ℤ c) (b *ℤ c) (a *ℤ c) whole
  where
    taken : (x y z : ℤ) → x +ℤ y ≡ z → x ≡ z -ℤ y
    taken x y z e = omega (arith, ints)

mul-step : (a : ℤ) (n : ℕ) → a *ℤ pos (suc n) ≡ a *ℤ pos n +ℤ a
mul-step a n = omega (arith, ints)

mul-le_pos : (a b : ℤ) (n : ℕ) → a ≤ℤ b → (a *ℤ pos n) ≤ℤ (b *ℤ pos n)
mul-le_pos a b zero h = rw (*ℤ-zero a, *ℤ-zero b) (omega (arith, ints))
mul-le_pos a b (suc n) h = rw (mul-step a n, mul-step b n) (omega (arith, ints, mul-le_pos a b n h))

mul-lt_pos : (a b : ℤ) (n : ℕ) → a <ℤ b → (a *ℤ pos (suc n)) <ℤ (b *ℤ pos (suc n))
mul-lt_pos a b n h = rw (mul-step a n, mul-step b n) (omega (arith, ints, mul-le_pos a b n (omega (arith, ints))))

either : (a b : ℤ) → (a ≤ℤ b) ⊎ (b <ℤ a)
either a b = grind (arith, ints)

scaled_le : (a b : ℤ) (n : ℕ) → int_le (a *ℤ pos (suc n)) (b *ℤ pos (suc n)) ≡ int_le a b
scaled_le a b n = elim (either a b) [
  | inl le ↦ (let more = mul-le_pos a b (suc n) le in grind (arith, ints))
  | inr lt ↦ (let more = mul-lt_pos b a n lt in grind (arith, ints))
]

scaled_lt : (a b : ℤ) (n : ℕ) → int_lt (a *ℤ pos (suc n)) (b *ℤ pos (suc n)) ≡ int_lt a b
scaled_lt a b n = elim (either b a) [
  | inl le ↦ (let more = mul-le_pos b a (suc n) le in grind (arith, ints))
  | inr lt ↦ (let more = mul-lt_pos a b n lt in grind (arith, ints))
]

scaled_eq : (a b : ℤ) (n : ℕ) → int_eq (a *ℤ pos (suc n)) (b *ℤ pos (suc n)) ≡ int_eq a b
scaled_eq a b n = elim (either a b) [
  | inl le ↦ elim (either b a) [
    | inl ge ↦ (let same : a ≡ b = omega (arith, ints) in rw same (grind (arith, ints)))
    | inr lt ↦ (let more = mul-lt_pos a b n lt in grind (arith, ints))
  ]
  | inr lt ↦ (let more = mul-lt_pos b a n lt in grind (arith, ints))
]

scaled_same : (a b : ℤ) (n : ℕ) → a *ℤ pos (suc n) ≡ b *ℤ pos (suc n) → a ≡ b
scaled_same a b n e = elim (either a b) [
  | inl le ↦ elim (either b a) [
    | inl ge ↦ omega (arith, ints)
    | inr lt ↦ (let more = mul-lt_pos a b n lt in absurd (omega (arith, ints)))
  ]
  | inr lt ↦ (let more = mul-lt_pos b a n lt in absurd (omega (arith, ints)))
]

pub times_le : (a b d : ℤ) → pos 1 ≤ℤ d → int_le (a *ℤ d) (b *ℤ d) ≡ int_le a b
times_le a b (pos zero) h = absurd (omega (arith, ints))
times_le a b (pos (suc n)) h = scaled_le a b n
times_le a b (negsuc n) h = absurd (omega (arith, ints))

pub times_lt : (a b d : ℤ) → pos 1 ≤ℤ d → int_lt (a *ℤ d) (b *ℤ d) ≡ int_lt a b
times_lt a b (pos zero) h = absurd (omega (arith, ints))
times_lt a b (pos (suc n)) h = scaled_lt a b n
times_lt a b (negsuc n) h = absurd (omega (arith, ints))

pub times_eq : (a b d : ℤ) → pos 1 ≤ℤ d → int_eq (a *ℤ d) (b *ℤ d) ≡ int_eq a b
times_eq a b (pos zero) h = absurd (omega (arith, ints))
times_eq a b (pos (suc n)) h = scaled_eq a b n
times_eq a b (negsuc n) h = absurd (omega (arith, ints))

-- a factor above 0 can be left out
pub times_cancel : (a b d : ℤ) → pos 1 ≤ℤ d → a *ℤ d ≡ b *ℤ d → a ≡ b
times_cancel a b (pos zero) h e = absurd (omega (arith, ints))
times_cancel a b (pos (suc n)) h e = scaled_same a b n e
times_cancel a b (negsuc n) h e = absurd (omega (arith, ints))

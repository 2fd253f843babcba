-- Sums and products that are cut at a greatest number.
use Rattle.std.proofs.Common.{◌≡◌, ◌∙◌, ap, sym, arith, ℕ, zero, suc, ◌≤◌, ◌+◌, ◌*◌, ◌⊎◌, inl, inr}
use Rattle.std.specs.Prelude.{min}

times_suc : (x k : ℕ) → x ≤ x * suc k
times_suc x k = grind arith

cap_above : (x most r : ℕ) → most ≤ x → min (most * r) most ≡ min (x * r) most
cap_above x most zero h = omega arith
cap_above x most (suc k) h = omega (arith, times_suc x k, times_suc most k)

pub cap_left : (x most r : ℕ) → min (min x most * r) most ≡ min (x * r) most
cap_left x most r = elim (either_way x most) [
  | inl h ↦ (let e : min x most ≡ x = omega arith in ap (λ (y : ℕ). min (y * r) most) e)
  | inr h ↦ (let e : min x most ≡ most = omega arith in ap (λ (y : ℕ). min (y * r) most) e ∙ cap_above x most r h)
]
  where
    either_way : (a b : ℕ) → (a ≤ b) ⊎ (b ≤ a)
    either_way a b = grind arith

swapped : (x y most : ℕ) → min (x * y) most ≡ min (y * x) most
swapped x y most = let e : x * y ≡ y * x = grind arith in ap (λ (n : ℕ). min n most) e

pub cap_right : (x most r : ℕ) → min (r * min x most) most ≡ min (r * x) most
cap_right x most r = swapped r (min x most) most ∙ cap_left x most r ∙ swapped x r most

pub cap_product : (x y most : ℕ) → min (x * y) most ≡ min (min x most * min y most) most
cap_product x y most = sym (cap_left x most (min y most) ∙ cap_right y most x)

pub cap_sum : (x y most : ℕ) → min (x + y) most ≡ min (min x most + min y most) most
cap_sum x y most = omega arith

pub product_assoc : (a b c most : ℕ) → min (min (a * b) most * c) most ≡ min (a * min (b * c) most) most
product_assoc a b c most =
    cap_left (a * b) most c ∙ (let e : a * b * c ≡ a * (b * c) = grind arith in ap (λ (n : ℕ). min n most) e) ∙ sym (cap_right (b * c) most a)

pub sum_assoc : (a b c most : ℕ) → min (min (a + b) most + c) most ≡ min (a + min (b + c) most) most
sum_assoc a b c most = omega arith

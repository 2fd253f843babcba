-- The laws of the ring of integers that the library lacks.
use Rattle.std.proofs.Common.{◌≡◌, zero, ℕ, ℤ, pos, sym, ap, arith, ◌∙◌}
use Rattle.std.specs.Prelude.{◌*ℤ◌, ◌+ℤ◌, negsuc, suc, ◌*◌, ◌+◌, ◌<ℤ◌, ◌≤◌, ◌<◌, unsigned_abs, ◌-◌, refl}
use Rattle.std.proofs.Math.IntN.{*ℤ_comm}
use Rattle.std.proofs.Math.Nat.{le_of_mul-le-mul_right}
use Rattle.std.proofs.lemmas.Int.{ints}
use borrow.Author.Differences.{up, down, same_in, same_out, product_is, sum_is_lem}

pub *ℤ_assoc : (a b c : ℤ) → (a *ℤ b) *ℤ c ≡ a *ℤ (b *ℤ c)
*ℤ_assoc a b c =
    let p = product_is a b in let q = product_is b c in
    let r = product_is (a *ℤ b) c in let s = product_is a (b *ℤ c) in
    same_in ((a *ℤ b) *ℤ c) (a *ℤ (b *ℤ c)) (rw (r.0, r.1, s.0, s.1, p.0, p.1, q.0, q.1) (omega arith))

pub *ℤ-+ℤ : (a b c : ℤ) → a *ℤ (b +ℤ c) ≡ a *ℤ b +ℤ a *ℤ c
*ℤ-+ℤ a b c =
    let h = sum_is_lem b c in
    same_in (a *ℤ (b +ℤ c)) (a *ℤ b +ℤ a *ℤ c)
    (omega (arith, product_is a (b +ℤ c), product_is a b, product_is a c, sum_is_lem (a *ℤ b) (a *ℤ c), ap (λ (n : ℕ). up a * n) h, ap (λ (n : ℕ). down a * n) h))

pub *ℤ_left_comm : (a b c : ℤ) → a *ℤ (b *ℤ c) ≡ b *ℤ (a *ℤ c)
*ℤ_left_comm a b c = sym (*ℤ_assoc a b c) ∙ ap (λ (x : ℤ). x *ℤ c) (*ℤ_comm a b) ∙ *ℤ_assoc b a c

pub *ℤ_right_comm : (a b c : ℤ) → a *ℤ b *ℤ c ≡ a *ℤ c *ℤ b
*ℤ_right_comm a b c = *ℤ_assoc a b c ∙ ap (λ (x : ℤ). a *ℤ x) (*ℤ_comm b c) ∙ sym (*ℤ_assoc a c b)

-- a sort of products: `simp products` takes both sides of an equation of products to one form
pub ruleset products = (*ℤ_assoc, *ℤ_comm, *ℤ_left_comm)

pub cross_of_parts : (m n d e g : ℤ) → m *ℤ g ≡ n → e *ℤ g ≡ d → m *ℤ d ≡ n *ℤ e
cross_of_parts m n d e g h k = rw (← h, ← k) (simp products)

pub above-product : (a b : ℤ) → pos 0 <ℤ a → pos 0 <ℤ b → pos 0 <ℤ (a *ℤ b)
above-product (pos (suc a)) (pos (suc b)) h k = omega (arith, ints)
above-product (pos zero) b h k = absurd (omega (arith, ints))
above-product (negsuc a) b h k = absurd (omega (arith, ints))
above-product a (pos zero) h k = absurd (omega (arith, ints))
above-product a (negsuc b) h k = absurd (omega (arith, ints))

-- a factor of a number above zero, beside a natural
pub above_factor : (e d : ℤ) (g : ℕ) → pos 0 <ℤ d → e *ℤ pos g ≡ d → pos 0 <ℤ e
above_factor (pos (suc k)) d g h m = omega (arith, ints)
above_factor (pos zero) d g h m = absurd (omega (arith, ints))
above_factor (negsuc k) d g h m = absurd (omega (arith, ints))

pub pos_abs : (d : ℤ) → pos 0 <ℤ d → pos (unsigned_abs d) ≡ d
pos_abs (pos n) h = refl
pos_abs (negsuc n) h = absurd (omega (arith, ints))

pub cancel_above : (a b d : ℤ) → pos 0 <ℤ d → a *ℤ d ≡ b *ℤ d → a ≡ b
cancel_above a b d h e =
    let p = same_out (a *ℤ d) (b *ℤ d) e in
    let q = rw ((product_is a d).0, (product_is a d).1, (product_is b d).0, (product_is b d).1) at p in
    let above : down d < up d = omega (arith, ints) in
    let k : ℕ = up d - down d in
    let some : 0 < k = omega arith in
    let is : up d ≡ down d + k = omega arith in
    let l = ap (λ (x : ℕ). up a * x) is in let m = ap (λ (x : ℕ). up b * x) is in
    let l' = ap (λ (x : ℕ). down a * x) is in let m' = ap (λ (x : ℕ). down b * x) is in
    let both : (up a + down b) * k ≡ (up b + down a) * k = omega arith in
    let low : up a + down b ≤ up b + down a = le_of_mul-le-mul_right {k = k} (omega arith) some in
    let high : up b + down a ≤ up a + down b = le_of_mul-le-mul_right {k = k} (omega arith) some in
    same_in a b (omega arith)

pub +ℤ-*ℤ : (a b c : ℤ) → (a +ℤ b) *ℤ c ≡ a *ℤ c +ℤ b *ℤ c
+ℤ-*ℤ a b c = *ℤ_comm (a +ℤ b) c ∙ *ℤ-+ℤ c a b ∙ ap (λ (x : ℤ). x +ℤ c *ℤ b) (*ℤ_comm c a) ∙ ap (λ (x : ℤ). a *ℤ c +ℤ x) (*ℤ_comm c b)

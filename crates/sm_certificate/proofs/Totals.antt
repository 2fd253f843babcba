-- Sums over the places below a number.
use Rattle.std.proofs.Common.{◌≡◌, ℕ, suc, zero, ◌<◌, ◌≤◌, sym, ap, ◌∙◌, refl, arith, ◌≢◌, inl, inr}
use Rattle.std.specs.Prelude.{IsTrue, ◌==◌, ◌⊎◌, if◌then◌else◌}
use Rattle.std.proofs.lemmas.Bool.Decides.{nat_tests}
use Rattle.std.proofs.lemmas.Bool.{cases_order}
use Rattle.std.proofs.Math.Logic.{⊎_elim}
use Rattle.sm_frac.specs.Rational.{ℚ, ◌+ℚ◌, ◌*ℚ◌, zero_ℚ, +ℚ-zero, is_nonnegative, nonnegative-sum, nonnegative-zero}
use Rattle.sm_frac.proofs.RationalRing.{ring}
use Rattle.sm_certificate.specs.Totals.{total}

pub total_same : (n : ℕ) (f g : ℕ → ℚ) → ((j : ℕ) → j < n → f j ≡ g j) → total n f ≡ total n g
unfolding total
total_same zero f g h = refl
total_same (suc n) f g h = ap (λ (x : ℚ). x +ℚ f n) (total_same n f g (λ j l. h j (omega arith))) ∙ ap (λ (x : ℚ). total n g +ℚ x) (h n (omega arith))

pub total-scaled : (n : ℕ) (a : ℚ) (f : ℕ → ℚ) → total n (λ j. a *ℚ f j) ≡ a *ℚ total n f
unfolding total
total-scaled zero a f = simp ring
total-scaled (suc n) a f = ap (λ (x : ℚ). x +ℚ a *ℚ f n) (total-scaled n a f) ∙ simp ring

pub total-sum : (n : ℕ) (f g : ℕ → ℚ) → total n (λ j. f j +ℚ g j) ≡ total n f +ℚ total n g
unfolding total
total-sum zero f g = simp ring
total-sum (suc n) f g = ap (λ (x : ℚ). x +ℚ (f n +ℚ g n)) (total-sum n f g) ∙ simp ring

pub total-zero : (n : ℕ) (f : ℕ → ℚ) → ((j : ℕ) → j < n → f j ≡ zero_ℚ) → total n f ≡ zero_ℚ
unfolding total
total-zero zero f h = refl
total-zero (suc n) f h = ap (λ (x : ℚ). x +ℚ f n) (total-zero n f (λ j l. h j (omega arith))) ∙ ap (λ (x : ℚ). zero_ℚ +ℚ x) (h n (omega arith)) ∙ simp ring

pub total_nonnegative : (n : ℕ) (f : ℕ → ℚ) → ((j : ℕ) → j < n → IsTrue (is_nonnegative (f j))) → IsTrue (is_nonnegative (total n f))
unfolding total
total_nonnegative zero f h = nonnegative-zero
total_nonnegative (suc n) f h = nonnegative-sum (total n f) (f n) (total_nonnegative n f (λ j l. h j (omega arith))) (h n (omega arith))

-- f with 0 at the place c
unfoldable pub without : ℕ → (ℕ → ℚ) → ℕ → ℚ
without c f j = if j == c then zero_ℚ else f j

pub without_at : (c : ℕ) (f : ℕ → ℚ) (j : ℕ) → j ≡ c → without c f j ≡ zero_ℚ
unfolding without
without_at c f j e = grind (arith, nat_tests)

pub without_off : (c : ℕ) (f : ℕ → ℚ) (j : ℕ) → j ≢ c → without c f j ≡ f j
unfolding without
without_off c f j e = grind (arith, nat_tests)

-- a sum as the sum of the other places and one
pub total_split : (n : ℕ) (c : ℕ) (f : ℕ → ℚ) → c < n → total n f ≡ total n (without c f) +ℚ f c
unfolding total
total_split zero c f h = absurd (omega arith)
total_split (suc n) c f h =
    ⊎_elim
    (λ (e : c ≡ n).
    let below = total_same n (without c f) f (λ j l. without_off c f j (omega arith)) in
    let last = without_at c f n (sym e) in
    ap (λ (x : ℚ). x +ℚ f n) (sym below) ∙ ap (λ (x : ℚ). total n (without c f) +ℚ x) (ap f (sym e)) ∙ ap (λ (x : ℚ). x +ℚ f c) (sym (+ℚ-zero (total n (without c f))) ∙ ap (λ (x : ℚ). total n (without c f) +ℚ x) (sym last)))
    (λ o. let low : c < n = ⊎_elim (λ (l : c < n). l) (λ (l : n < c). absurd (omega arith)) o in
    let last = without_off c f n (omega arith) in
    ap (λ (x : ℚ). x +ℚ f n) (total_split n c f low) ∙ ap (λ (x : ℚ). total n (without c f) +ℚ f c +ℚ x) (sym last) ∙ simp ring)
    (cases_order c n)

-- a sum with its first term in front
pub total_front : (n : ℕ) (f : ℕ → ℚ) → total (suc n) f ≡ f 0 +ℚ total n (λ i. f (suc i))
unfolding total
total_front zero f = simp ring
total_front (suc n) f = ap (λ (x : ℚ). x +ℚ f (suc n)) (total_front n f) ∙ grouped (f 0) (total n (λ i. f (suc i))) (f (suc n))
  where
    grouped : (x y z : ℚ) → x +ℚ y +ℚ z ≡ x +ℚ (y +ℚ z)
    grouped x y z = simp ring

-- ---- cases
pub choose : (a k : ℕ) (x y : ℚ) → a ≡ k → (if a == k then x else y) ≡ x
choose a k x y e = grind (arith, nat_tests)

pub choose_not : (a k : ℕ) (x y : ℚ) → a ≢ k → (if a == k then x else y) ≡ y
choose_not a k x y e = grind (arith, nat_tests)

pub low_or_high : (k i : ℕ) → (k < i) ⊎ (i ≤ k)
low_or_high k i = ⊎_elim (λ (e : k ≡ i). inr (omega arith)) (λ o. ⊎_elim (λ (l : k < i). inl l) (λ (l : i < k). inr (omega arith)) o) (cases_order k i)

-- The sum over the least common denominator shares with it only what the two denominators share.
use Rattle.std.proofs.Common.{◌≡◌, ℕ, ◌*◌, ◌+◌, ◌-◌, sym, ap, arith, subst, ◌∙◌}
use Rattle.std.specs.Prelude.{ℤ, pos, ◌*ℤ◌, ◌+ℤ◌, unsigned_abs, ◌≢◌}
use Rattle.std.specs.Int.{IsGcd, ◌∣◌}
use Rattle.std.proofs.lemmas.Int.{ints, unsigned_abs-mul}
use Rattle.std.proofs.lemmas.Nat.Gcd.{dvd_trans, IsGcd-swap}
use Rattle.std.proofs.lemmas.Bool.{cases_eq}
use Rattle.std.proofs.Math.Logic.{⊎_elim}
use Rattle.std.proofs.Math.Nat.{one-dvd, mul_comm, dvd-add, dvd-sub, dvd-mul_left, dvd-mul_right}
use Rattle.sm_frac.proofs.Divides.{divides_other, apart_divisor}
use Rattle.sm_frac.proofs.OperationLemmas.{term_divides}
use Rattle.sm_frac.specs.Lowest.{IsLowest, LowestTerms}

-- what divides a sum and one of its two terms divides the other
divides_term : (a b s : ℤ) (k : ℕ) → s ≡ a +ℤ b → k ∣ unsigned_abs s → k ∣ unsigned_abs b → k ∣ unsigned_abs a
divides_term a b s k e p q =
    ⊎_elim
    (λ (far : unsigned_abs a ≡ unsigned_abs s + unsigned_abs b). subst (λ (m : ℕ). k ∣ m) (sym far) (dvd-add k p q))
    (λ (near : unsigned_abs a ≢ unsigned_abs s + unsigned_abs b).
    let apart : unsigned_abs a ≡ (unsigned_abs s - unsigned_abs b) + (unsigned_abs b - unsigned_abs s) = omega (arith, ints) in
    subst (λ (m : ℕ). k ∣ m) (sym apart) (dvd-add k (dvd-sub k p q) (dvd-sub k q p)))
    (cases_eq (unsigned_abs a) (unsigned_abs s + unsigned_abs b))

-- n/d and a second fraction over the least common denominator, l the part of d that the second lacks: l has nothing in common with the sum s
apart_term : (n d m l r s : ℤ) → s ≡ n *ℤ r +ℤ m *ℤ l → IsLowest n d → unsigned_abs l ∣ unsigned_abs d → IsGcd (unsigned_abs l) (unsigned_abs r) 1 → IsGcd (unsigned_abs s) (unsigned_abs l) 1
apart_term n d m l r s e lowest within apart = (
  one-dvd (unsigned_abs s),
  one-dvd (unsigned_abs l),
  λ k p q.
      let second : k ∣ unsigned_abs (m *ℤ l) = subst (λ (x : ℕ). k ∣ x) (sym (unsigned_abs-mul m l)) (dvd_trans k q (dvd-mul_left (unsigned_abs l) (unsigned_abs m))) in
      let first : k ∣ unsigned_abs (n *ℤ r) = divides_term (n *ℤ r) (m *ℤ l) s k e p second in
      let turned : k ∣ unsigned_abs r * unsigned_abs n = subst (λ (x : ℕ). k ∣ x) (unsigned_abs-mul n r ∙ mul_comm (unsigned_abs n) (unsigned_abs r)) first in
      let top : k ∣ unsigned_abs n = divides_other k (unsigned_abs r) (unsigned_abs n) (apart_divisor (unsigned_abs l) (unsigned_abs r) k apart q) turned in
      lowest.apart.2 k top (dvd_trans k q within),
)

-- s has nothing in common with l and r, so with l * g * r only what it has with g
common_part : (s l g r all k : ℕ) → IsGcd s l 1 → IsGcd s r 1 → all ≡ l * g * r → IsGcd s g k → IsGcd s all k
common_part s l g r all k pl pr e h = (
  h.0,
  subst (λ (x : ℕ). k ∣ x) (sym e) (dvd_trans k h.1 (dvd_trans g (dvd-mul_left g l) (dvd-mul_right (l * g) r))),
  λ c p q.
      let parts : c ∣ l * (g * r) = subst (λ (x : ℕ). c ∣ x) (e ∙ grouped l g r) q in
      let rest : c ∣ g * r = divides_other c l (g * r) (apart_divisor s l c pl p) parts in
      let last : c ∣ g = divides_other c r g (apart_divisor s r c pr p) (subst (λ (x : ℕ). c ∣ x) (mul_comm g r) rest) in
      h.2 c p last,
)
  where
    grouped : (l g r : ℕ) → l * g * r ≡ l * (g * r)
    grouped l g r = omega arith

-- n/d + m/e, with d/e in lowest terms l/r and d = l * g: the sum s and the common denominator share what s shares with g
pub shared_enough : (n d m e l r s all : ℤ) (g k : ℕ) → IsLowest n d → IsLowest m e → LowestTerms d e l r → l *ℤ pos g ≡ d → s ≡ n *ℤ r +ℤ m *ℤ l → all ≡ d *ℤ r → IsGcd (unsigned_abs s) g k → IsGcd (unsigned_abs s) (unsigned_abs all) k
shared_enough n d m e l r s all g k first second terms whole is_sum is_all h =
    let within = term_divides d e l r terms in
    let left = apart_term n d m l r s is_sum first within.0 terms.lowest.apart in
    let right = apart_term m e n r l s (is_sum ∙ turned (n *ℤ r) (m *ℤ l)) second within.1 (IsGcd-swap _ _ _ terms.lowest.apart) in
    let size : unsigned_abs all ≡ unsigned_abs l * g * unsigned_abs r = ap unsigned_abs is_all ∙ unsigned_abs-mul d r ∙ ap (λ (x : ℕ). x * unsigned_abs r) (ap unsigned_abs (sym whole) ∙ unsigned_abs-mul l (pos g)) in
    common_part (unsigned_abs s) (unsigned_abs l) g (unsigned_abs r) (unsigned_abs all) k left right size h
  where
    turned : (a b : ℤ) → a +ℤ b ≡ b +ℤ a
    turned a b = omega (arith, ints)

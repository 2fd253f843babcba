-- Divisors of naturals.
use Rattle.std.proofs.Common.{◌≡◌, ℕ, suc, zero, ◌*◌, ◌%◌, ◌/◌, ◌≤◌, ◌<◌, sym, ap, arith, subst, ◌∙◌}
use Rattle.std.specs.Int.{IsGcd, ◌∣◌}
use Rattle.std.proofs.lemmas.Nat.Gcd.{same_from_IsGcd, dvd_trans, IsGcd-from_zero, IsGcd-from_mod, IsGcd-swap, dvd_antisymm}
use Rattle.std.proofs.lemmas.Bool.{cases_order}
use Rattle.std.proofs.Math.Logic.{⊎_elim}
use Rattle.std.proofs.Math.Nat.{one-dvd, dvd-zero, one-mul, mul-div-mul_right, div-add-mod', mod-lt, dvd-mul_left, dvd-mul_right, dvd_of_mul-dvd-mul_right, mul-dvd-mul_right, le_of_mul-le-mul_right}

mod_scaled : (a b c : ℕ) → 0 < b → 0 < c → (a * c) % (b * c) ≡ a % b * c
mod_scaled a b c h k =
    let whole = div-add-mod' (a * c) (b * c) in
    let same : (a * c) / (b * c) ≡ a / b = mul-div-mul_right a b k in
    let part = ap (λ (n : ℕ). n * c) (div-add-mod' a b) in
    omega (arith, rw same at whole, part)

-- Euclid's algorithm of two numbers and of their multiples goes the same way
pub gcd_scaled : (c : ℕ) → 0 < c → (n a b : ℕ) → b ≤ n → (g : ℕ) × (IsGcd a b g × IsGcd (a * c) (b * c) (g * c))
gcd_scaled c some zero a b h = let e : b ≡ 0 = omega arith in let f : b * c ≡ 0 = ap (λ (k : ℕ). k * c) e ∙ omega arith in (a, (IsGcd-from_zero a b e, IsGcd-from_zero (a * c) (b * c) f))
gcd_scaled c some (suc n) a b h =
    ⊎_elim
    (λ (e : b ≡ 0). let f : b * c ≡ 0 = ap (λ (k : ℕ). k * c) e ∙ omega arith in (a, (IsGcd-from_zero a b e, IsGcd-from_zero (a * c) (b * c) f)))
    (λ o. let above : 0 < b = ⊎_elim (λ (l : b < 0). absurd (omega arith)) (λ l. l) o in
    let less : a % b < b = mod-lt a above in
    let (g, (one, two)) = gcd_scaled c some n b (a % b) (omega arith) in
    (g, (IsGcd-from_mod a b g one, IsGcd-from_mod (a * c) (b * c) (g * c) (subst (λ r. IsGcd (b * c) r (g * c)) (sym (mod_scaled a b c above some)) two))))
    (cases_order b 0)

-- from Euclid's lemma: what divides a product and has nothing in common with one factor divides the other
pub divides_other : (k b c : ℕ) → IsGcd k b 1 → k ∣ b * c → k ∣ c
divides_other k b c apart h =
    ⊎_elim
    (λ (e : c ≡ 0). subst (λ (n : ℕ). k ∣ n) (sym e) (dvd-zero k))
    (λ o. let above : 0 < c = ⊎_elim (λ (l : c < 0). absurd (omega arith)) (λ l. l) o in
    let (g, (one, two)) = gcd_scaled c above b k b (omega arith) in
    let e : g ≡ 1 = same_from_IsGcd k b g 1 one apart in
    let both : k ∣ g * c = two.2 k (dvd-mul_right k c) h in
    subst (λ (n : ℕ). k ∣ n) (ap (λ (n : ℕ). n * c) e ∙ one-mul c) both)
    (cases_order c 0)

-- a divisor of a, with b
pub apart_divisor : (a b d : ℕ) → IsGcd a b 1 → d ∣ a → IsGcd d b 1
apart_divisor a b d h l = (one-dvd d, one-dvd b, λ k p q. h.2 k (dvd_trans k p l) q)

pub apart_product : (a b c : ℕ) → IsGcd a b 1 → IsGcd a c 1 → IsGcd a (b * c) 1
apart_product a b c h l = (one-dvd a, one-dvd (b * c), λ k p q. l.2 k p (divides_other k b c (apart_divisor a b k h p) q))

pub apart_products : (a a' b b' : ℕ) → IsGcd a b 1 → IsGcd a b' 1 → IsGcd a' b 1 → IsGcd a' b' 1 → IsGcd (a * a') (b * b') 1
apart_products a a' b b' p q r s = IsGcd-swap _ _ _ (apart_product (b * b') a a' (IsGcd-swap _ _ _ (apart_product a b b' p q)) (IsGcd-swap _ _ _ (apart_product a' b b' r s)))

-- the two numbers over their greatest common divisor
pub apart_parts : (n d g p q : ℕ) → 0 < g → IsGcd n d g → p * g ≡ n → q * g ≡ d → IsGcd p q 1
apart_parts n d g p q some h e f = (
  one-dvd p,
  one-dvd q,
  λ k i j.
      let one : k * g ∣ n = subst (λ (x : ℕ). k * g ∣ x) e (mul-dvd-mul_right k i g) in
      let two : k * g ∣ d = subst (λ (x : ℕ). k * g ∣ x) f (mul-dvd-mul_right k j g) in
      let all : k * g ∣ 1 * g = subst (λ (x : ℕ). k * g ∣ x) (sym (one-mul g)) (h.2 (k * g) one two) in
      dvd_of_mul-dvd-mul_right k some all,
)

-- two fractions in lowest terms that are one number have the same parts
pub lowest_same : (n d m e : ℕ) → 0 < d → 0 < e → IsGcd n d 1 → IsGcd m e 1 → n * e ≡ m * d → (n ≡ m) × (d ≡ e)
lowest_same n d m e hd he p q h =
    let one : d ∣ e = divides_other d n e (IsGcd-swap _ _ _ p) (subst (λ (x : ℕ). d ∣ x) (sym h) (dvd-mul_left d m)) in
    let two : e ∣ d = divides_other e m d (IsGcd-swap _ _ _ q) (subst (λ (x : ℕ). e ∣ x) h (dvd-mul_left e n)) in
    let same : d ≡ e = dvd_antisymm one two in
    let more : n * e ≡ m * e = h ∙ ap (λ (x : ℕ). m * x) same in
    let low : n ≤ m = le_of_mul-le-mul_right {k = e} (omega arith) he in
    let high : m ≤ n = le_of_mul-le-mul_right {k = e} (omega arith) he in
    (omega arith, same)

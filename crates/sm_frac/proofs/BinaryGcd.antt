-- The binary algorithm for the greatest common divisor.
use Rattle.std.proofs.Common.{◌≡◌, ℕ, suc, zero, ◌*◌, ◌%◌, ◌/◌, ◌+◌, ◌-◌, ◌^◌, ◌≤◌, ◌<◌, min, sym, ap, arith, subst, inl, inr, ◌∙◌}
use Rattle.std.specs.Prelude.{◌⊎◌}
use Rattle.std.specs.Int.{IsGcd, ◌∣◌, Width, bit_at, trailing_zeros, abs_diff}
use mir.Val.{bits}
use Rattle.std.proofs.lemmas.Nat.Bits.{bit_at-trailing_zeros, bit_at_cat_low, bit_at-zero, same_from_bits_below}
use Rattle.std.proofs.lemmas.Nat.Gcd.{dvd_refl, dvd_trans, le_of_dvd, IsGcd-from_mod, IsGcd-from_sub, IsGcd-swap, same_from_IsGcd}
use Rattle.std.proofs.lemmas.Bool.{cases_order}
use Rattle.std.proofs.Math.Logic.{⊎_elim}
use Rattle.std.proofs.Math.Nat.{one-dvd, div-add-mod', mod-lt, mod-eq_of_lt, dvd-mul_right, pow-suc}
use Rattle.std.proofs.lemmas.Nat.{pow-add, pow_pos}
use Rattle.sm_frac.proofs.Divides.{apart_divisor, apart_product, divides_other, gcd_scaled}

-- a number whose k lowest bits are 0 is a multiple of 2 ^ k
low_zeros : (k n : ℕ) → ((i : ℕ) → i < k → bit_at n i ≡ 0) → n % 2 ^ k ≡ 0
low_zeros k n none =
    let some : 0 < 2 ^ k = pow_pos k in
    let whole : n / 2 ^ k * 2 ^ k + n % 2 ^ k ≡ n = div-add-mod' n (2 ^ k) in
    same_from_bits_below k (n % 2 ^ k) 0 (mod-lt n some) some
    (λ i below. sym (bit_at_cat_low (n / 2 ^ k) k (n % 2 ^ k) i below) ∙ ap (λ (m : ℕ). bit_at m i) whole ∙ none i below ∙ sym (bit_at-zero i))

pub odd_part_same : (w : Width) (n : ℕ) → 0 < n → n < 2 ^ bits w → n ≡ n / 2 ^ trailing_zeros w n * 2 ^ trailing_zeros w n
odd_part_same w n h k =
    let none = low_zeros (trailing_zeros w n) n (bit_at-trailing_zeros w n h k).2 in
    let whole = div-add-mod' n (2 ^ trailing_zeros w n) in
    omega arith

pub odd_part_odd : (w : Width) (n : ℕ) → 0 < n → n < 2 ^ bits w → (n / 2 ^ trailing_zeros w n) % 2 ≡ 1
odd_part_odd w n h k = (bit_at-trailing_zeros w n h k).1

odd_apart_two : (x : ℕ) → x % 2 ≡ 1 → IsGcd x 2 1
odd_apart_two x h = IsGcd-from_mod x 2 1 (subst (λ (r : ℕ). IsGcd 2 r 1) (sym h) (one-dvd 2, dvd_refl 1, λ d _ l. l))

odd_apart_power : (x k : ℕ) → x % 2 ≡ 1 → IsGcd x (2 ^ k) 1
odd_apart_power x zero h = (one-dvd x, dvd_refl 1, λ d _ l. l)
odd_apart_power x (suc k) h = subst (λ (m : ℕ). IsGcd x m 1) (sym (pow-suc 2 k)) (apart_product x (2 ^ k) 2 (odd_apart_power x k h) (odd_apart_two x h))

-- an odd number has the same divisors in common with n and with n doubled k times
pub odd_doubled : (x n k g : ℕ) → x % 2 ≡ 1 → IsGcd x n g → IsGcd x (n * 2 ^ k) g
odd_doubled x n k g h l = (
  l.0,
  dvd_trans g l.1 (dvd-mul_right n (2 ^ k)),
  λ d p q. l.2 d p (divides_other d (2 ^ k) n (apart_divisor x (2 ^ k) d (odd_apart_power x k h) p) (subst (λ (m : ℕ). d ∣ m) (turn n (2 ^ k)) q)),
)
  where
    turn : (a b : ℕ) → a * b ≡ b * a
    turn a b = omega arith

-- the lesser of two numbers and their difference have the same divisors in common
pub lesser_and_difference : (x y g : ℕ) → IsGcd (min x y) (abs_diff x y) g → IsGcd x y g
lesser_and_difference x y g h =
    ⊎_elim
    (λ (same : x ≡ y). at_most (omega arith))
    (λ o. ⊎_elim (λ (below : x < y). at_most (omega arith)) (λ (above : y < x). at_least (omega arith)) o)
    (cases_order x y)
  where
    at_most : x ≤ y → IsGcd x y g
    at_most le =
        let low : min x y ≡ x = omega arith in
        let rest : abs_diff x y ≡ y - x = omega arith in
        IsGcd-swap y x g (IsGcd-from_sub y x g le (IsGcd-swap x (y - x) g (subst (λ (m : ℕ). IsGcd m (y - x) g) low (subst (λ (m : ℕ). IsGcd (min x y) m g) rest h))))

    at_least : y ≤ x → IsGcd x y g
    at_least le =
        let low : min x y ≡ y = omega arith in
        let rest : abs_diff x y ≡ x - y = omega arith in
        IsGcd-from_sub x y g le (IsGcd-swap y (x - y) g (subst (λ (m : ℕ). IsGcd m (x - y) g) low (subst (λ (m : ℕ). IsGcd (min x y) m g) rest h)))

-- one step of the algorithm, at y with the odd part `part`
binary_step : (x y part k g : ℕ) → x % 2 ≡ 1 → y ≡ part * 2 ^ k → IsGcd (min x part) (abs_diff x part) g → IsGcd x y g
binary_step x y part k g h e l = subst (λ (m : ℕ). IsGcd x m g) (sym e) (odd_doubled x part k g h (lesser_and_difference x part g l))

pub binary_step_to : (x y part k low rest g : ℕ) → x % 2 ≡ 1 → y ≡ part * 2 ^ k → low ≡ min x part → rest ≡ abs_diff x part → IsGcd low rest g → IsGcd x y g
binary_step_to x y part k low rest g h e is_low is_rest l = binary_step x y part k g h e (subst (λ (m : ℕ). IsGcd m (abs_diff x part) g) is_low (subst (λ (m : ℕ). IsGcd low m g) is_rest l))

-- the lesser of two odd numbers is odd
pub lesser_odd : (x y : ℕ) → x % 2 ≡ 1 → y % 2 ≡ 1 → min x y % 2 ≡ 1
lesser_odd x y h k = ⊎_elim (λ (low : min x y ≡ x). ap (λ (m : ℕ). m % 2) low ∙ h) (λ (low : min x y ≡ y). ap (λ (m : ℕ). m % 2) low ∙ k) (either (cases_order x y))
  where
    either : (x ≡ y) ⊎ ((x < y) ⊎ (y < x)) → (min x y ≡ x) ⊎ (min x y ≡ y)
    either o = ⊎_elim (λ (same : x ≡ y). inl (omega arith)) (λ p. ⊎_elim (λ (below : x < y). inl (omega arith)) (λ (above : y < x). inr (omega arith)) p) o

-- both numbers times c
scaled : (a b g c : ℕ) → 0 < c → IsGcd a b g → IsGcd (a * c) (b * c) (g * c)
scaled a b g c some h =
    let (k, (one, two)) = gcd_scaled c some b a b (omega arith) in
    subst (λ (m : ℕ). IsGcd (a * c) (b * c) (m * c)) (same_from_IsGcd a b k g one h) two

-- two numbers from their odd parts: the divisor has as many factors of two as the one that has fewer
pub doubled_both : (a b x y i j g : ℕ) → x % 2 ≡ 1 → y % 2 ≡ 1 → a ≡ x * 2 ^ i → b ≡ y * 2 ^ j → IsGcd x y g → IsGcd a b (g * 2 ^ min i j)
doubled_both a b x y i j g h k ea eb l =
    ⊎_elim
    (λ (same : i ≡ j). at_most a b x y i j h ea eb l (omega arith))
    (λ o. ⊎_elim
    (λ (below : i < j). at_most a b x y i j h ea eb l (omega arith))
    (λ (above : j < i). subst (λ (m : ℕ). IsGcd a b (g * 2 ^ m)) (turn j i) (IsGcd-swap b a (g * 2 ^ min j i) (at_most b a y x j i k eb ea (IsGcd-swap x y g l) (omega arith))))
    o)
    (cases_order i j)
  where
    turn : (m n : ℕ) → min m n ≡ min n m
    turn m n = omega arith

    parts : (y i j : ℕ) → i ≤ j → y * 2 ^ j ≡ y * 2 ^ (j - i) * 2 ^ i
    parts y i j le =
        let e : 2 ^ (j - i + i) ≡ 2 ^ (j - i) * 2 ^ i = pow-add 2 (j - i) i in
        let f : j - i + i ≡ j = omega arith in
        ap (λ (m : ℕ). y * m) (ap (λ (m : ℕ). 2 ^ m) (sym f) ∙ e) ∙ omega arith

    at_most : (a b x y i j : ℕ) → x % 2 ≡ 1 → a ≡ x * 2 ^ i → b ≡ y * 2 ^ j → IsGcd x y g → i ≤ j → IsGcd a b (g * 2 ^ min i j)
    at_most a b x y i j h ea eb l le =
        let low : i ≡ min i j = omega arith in
        let all = scaled x (y * 2 ^ (j - i)) g (2 ^ i) (pow_pos i) (odd_doubled x y (j - i) g h l) in
        let left = subst (λ (m : ℕ). IsGcd m (y * 2 ^ (j - i) * 2 ^ i) (g * 2 ^ i)) (sym ea) all in
        let both = subst (λ (m : ℕ). IsGcd a m (g * 2 ^ i)) (sym (eb ∙ parts y i j le)) left in
        subst (λ (m : ℕ). IsGcd a b (g * 2 ^ m)) low both

-- a number in place of which its odd part is taken, beside an odd one
pub odd_part_beside : (x y part k g : ℕ) → x % 2 ≡ 1 → y ≡ part * 2 ^ k → IsGcd part x g → IsGcd x y g
odd_part_beside x y part k g h e l = subst (λ (m : ℕ). IsGcd x m g) (sym e) (odd_doubled x part k g h (IsGcd-swap part x g l))

-- a number in place of which its remainder is taken
pub remainder_beside : (x y g : ℕ) → IsGcd x (y % x) g → IsGcd x y g
remainder_beside x y g h = IsGcd-swap y x g (IsGcd-from_mod y x g h)

one_left : (a b : ℕ) → a ≡ 1 → IsGcd a b 1
one_left a b e = (one-dvd a, one-dvd b, λ d p q. subst (λ (m : ℕ). d ∣ m) e p)

one_right : (a b : ℕ) → b ≡ 1 → IsGcd a b 1
one_right a b e = (one-dvd a, one-dvd b, λ d p q. subst (λ (m : ℕ). d ∣ m) e q)

-- 1 has no divisor but itself, so it has none other in common with any number
pub one_beside : (a b : ℕ) → (a ≡ 1) ⊎ ((a ≡ 1 → ⊥) × (b ≡ 1)) → IsGcd a b 1
one_beside a b o = ⊎_elim (λ e. one_left a b e) (λ p. one_right a b p.1) o

-- the divisor, computed at a width that has room for the first number
pub divisor_fits : (a b g w : ℕ) → 0 < a → a < w → IsGcd a b g → IsGcd a b (g % w)
divisor_fits a b g w some fits h =
    let le : g ≤ a = le_of_dvd some h.0 in
    let same : g % w ≡ g = mod-eq_of_lt (omega arith) in
    subst (λ (m : ℕ). IsGcd a b m) (sym same) h

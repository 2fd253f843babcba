-- The rational numbers and their laws. A number is a class of triples of naturals, each read as (up - down) / (under + 1),
-- of which two are one number where their cross products agree. So no definition has a condition on a denominator, and each
-- law is an equation of naturals.
use Rattle.std.specs.Prelude.{◌≡◌, ℕ, suc, ◌+◌, ◌*◌, ◌≤◌, ◌<◌, Bool, true, false, refl, ℤ, pos, negsuc, ◌*ℤ◌, ◌+ℤ◌, neg_ℤ, ◌≤ℤ◌, ◌↔◌, nat_le, nat_lt, if◌then◌else◌, ◌-◌, IsTrue, ◌⊎◌}
use Rattle.std.proofs.Common.{ap, arith, leb→le, le→leb, T}
use Rattle.std.proofs.Math.Nat.{mul-pos, mul-le-mul_left, lt_of_mul-lt-mul_right, mul-lt-mul_of_pos_right, le_of_mul-le-mul_right, mul-le-mul_right}
use Rattle.std.proofs.Math.Bool.{Bool-set}
use Rattle.std.proofs.lemmas.Bool.Decides.{nat_tests}
use Rattle.std.proofs.lemmas.Bool.{cases_order}
use Rattle.std.proofs.Math.Logic.{⊎_elim}
use Rattle.std.proofs.lemmas.Int.{ints}
use borrow.Author.Differences.{up, down, product_is, sum_is_lem, neg_is}
use Rattle.std.proofs.Math.Path.{fun_ext}
use mathlib.Core.Quot.{Quot, mk, Quot-set, sound, ind, lift}

pub record Ratio : Type 0 where
  pub up : ℕ
  pub down : ℕ
  pub under : ℕ

-- the cross products agree
abbrev pub Same : Ratio → Ratio → Type 0
Same a b = a.up * suc b.under + b.down * suc a.under ≡ b.up * suc a.under + a.down * suc b.under

pub ℚ : Type 0
ℚ = Quot Same

-- a function of two triples as one of two numbers
module _ (f : Ratio → Ratio → Ratio) (first : (a a' b : Ratio) → Same a a' → Same (f a b) (f a' b)) (second : (a b b' : Ratio) → Same b b' → Same (f a b) (f a b')) where
  inner : Ratio → ℚ → ℚ
  unfolding ℚ
  inner a y = lift Quot-set (λ b. mk (f a b)) (λ b b' h. sound (second a b b' h)) y

  lifted : ℚ → ℚ → ℚ
  unfolding ℚ inner
  lifted x y = lift Quot-set (λ a. inner a y) (λ a a' h. ind (λ q. Quot-set (inner a q) (inner a' q)) (λ b. sound (first a a' b h)) y) x

raw_sum : Ratio → Ratio → Ratio
raw_sum a b = record { up = a.up * suc b.under + b.up * suc a.under; down = a.down * suc b.under + b.down * suc a.under; under = a.under * b.under + a.under + b.under }

raw_product : Ratio → Ratio → Ratio
raw_product a b = record { up = a.up * b.up + a.down * b.down; down = a.up * b.down + a.down * b.up; under = a.under * b.under + a.under + b.under }

sum_first : (a a' b : Ratio) → Same a a' → Same (raw_sum a b) (raw_sum a' b)
unfolding raw_sum
sum_first a a' b h = omega (arith, ap (λ (n : ℕ). n * (suc b.under * suc b.under)) h)

sum_second : (a b b' : Ratio) → Same b b' → Same (raw_sum a b) (raw_sum a b')
unfolding raw_sum
sum_second a b b' h = omega (arith, ap (λ (n : ℕ). n * (suc a.under * suc a.under)) h)

product_first : (a a' b : Ratio) → Same a a' → Same (raw_product a b) (raw_product a' b)
unfolding raw_product
product_first a a' b h = omega (arith, ap (λ (n : ℕ). n * (suc b.under * b.up)) h, ap (λ (n : ℕ). n * (suc b.under * b.down)) h)

product_second : (a b b' : Ratio) → Same b b' → Same (raw_product a b) (raw_product a b')
unfolding raw_product
product_second a b b' h = omega (arith, ap (λ (n : ℕ). n * (suc a.under * a.up)) h, ap (λ (n : ℕ). n * (suc a.under * a.down)) h)

-- the sum
infixl 6 ◌+ℚ◌
pub ◌+ℚ◌ : ℚ → ℚ → ℚ
◌+ℚ◌ = lifted raw_sum sum_first sum_second

-- the product
infixl 7 ◌*ℚ◌
pub ◌*ℚ◌ : ℚ → ℚ → ℚ
◌*ℚ◌ = lifted raw_product product_first product_second

raw_turned : Ratio → Ratio
raw_turned a = record { up = a.down; down = a.up; under = a.under }

turned_same : (a a' : Ratio) → Same a a' → Same (raw_turned a) (raw_turned a')
unfolding raw_turned
turned_same a a' h = omega arith

-- the number with the other sign
pub neg_ℚ : ℚ → ℚ
unfolding ℚ
neg_ℚ x = lift Quot-set (λ a. mk (raw_turned a)) (λ a a' h. sound (turned_same a a' h)) x

-- the difference
infixl 6 ◌-ℚ◌
abbrev pub ◌-ℚ◌ : ℚ → ℚ → ℚ
x -ℚ y = x +ℚ neg_ℚ y

same_tests : (p q : Bool) → (T p → T q) → (T q → T p) → p ≡ q
same_tests true true f g = refl
same_tests true false f g = absurd (f tt)
same_tests false true f g = absurd (g tt)
same_tests false false f g = refl

raw_test : Ratio → Bool
raw_test a = nat_le a.down a.up

test_one : (a b : Ratio) → Same a b → T (raw_test a) → T (raw_test b)
unfolding raw_test
test_one a b h t =
    let low : a.down ≤ a.up = leb→le a.down a.up t in
    let more : a.down * suc b.under ≤ a.up * suc b.under = mul-le-mul_right (suc b.under) low in
    let cancel : b.down ≤ b.up = le_of_mul-le-mul_right {k = suc a.under} (omega arith) (omega arith) in
    le→leb b.down b.up cancel

test_same : (a b : Ratio) → Same a b → raw_test a ≡ raw_test b
test_same a b h = same_tests (raw_test a) (raw_test b) (test_one a b h) (test_one b a (omega arith))

-- whether a number is at least zero
pub is_nonnegative : ℚ → Bool
unfolding ℚ
is_nonnegative x = lift Bool-set raw_test test_same x

infix 4 ◌≤ℚ◌
-- x is at most y: the difference is at least zero
pub record ◌≤ℚ◌ (x y : ℚ) : Type 0 where
  pub le : IsTrue (is_nonnegative (y -ℚ x))

infix 4 ◌<ℚ◌
-- x is less than y: their difference is below zero
pub record ◌<ℚ◌ (x y : ℚ) : Type 0 where
  pub lt : is_nonnegative (x -ℚ y) ≡ false

-- a number above zero turned upside down, and so below zero; zero at zero
raw_inverse : Ratio → Ratio
raw_inverse a = if nat_lt a.down a.up then record { up = suc a.under; down = 0; under = a.up - a.down - 1 } else (if nat_lt a.up a.down then record { up = 0; down = suc a.under; under = a.down - a.up - 1 } else record { up = 0; down = 0; under = 0 })

inverse_up : (a : Ratio) (k : ℕ) → a.up ≡ a.down + suc k → raw_inverse a ≡ record { up = suc a.under; down = 0; under = k }
unfolding raw_inverse
inverse_up a k e = grind (arith, nat_tests)

inverse_down : (a : Ratio) (k : ℕ) → a.down ≡ a.up + suc k → raw_inverse a ≡ record { up = 0; down = suc a.under; under = k }
unfolding raw_inverse
inverse_down a k e = grind (arith, nat_tests)

inverse_zero : (a : Ratio) → a.down ≡ a.up → raw_inverse a ≡ record { up = 0; down = 0; under = 0 }
unfolding raw_inverse
inverse_zero a e = grind (arith, nat_tests)

above_other : (a b : Ratio) → Same a b → a.down < a.up → b.down < b.up
above_other a b h l = let more : a.down * suc b.under < a.up * suc b.under = mul-lt-mul_of_pos_right l (omega arith) in lt_of_mul-lt-mul_right (suc a.under) (omega arith)

below_other : (a b : Ratio) → Same a b → a.up < a.down → b.up < b.down
below_other a b h l = let more : a.up * suc b.under < a.down * suc b.under = mul-lt-mul_of_pos_right l (omega arith) in lt_of_mul-lt-mul_right (suc a.under) (omega arith)

zero_other : (a b : Ratio) → Same a b → a.down ≡ a.up → b.down ≡ b.up
zero_other a b h l =
    let more = ap (λ (n : ℕ). n * suc b.under) l in
    let one : b.down ≤ b.up = le_of_mul-le-mul_right {k = suc a.under} (omega arith) (omega arith) in
    let two : b.up ≤ b.down = le_of_mul-le-mul_right {k = suc a.under} (omega arith) (omega arith) in
    omega arith

inverse_same : (a b : Ratio) → Same a b → Same (raw_inverse a) (raw_inverse b)
inverse_same a b h =
    ⊎_elim (λ zero_a. rw (inverse_zero a zero_a, inverse_zero b (zero_other a b h zero_a)) refl)
    (λ (apart : (a.down < a.up) ⊎ (a.up < a.down)). ⊎_elim
    (λ (below : a.down < a.up).
    let above = above_other a b h below in
    let j : ℕ = a.up - a.down - 1 in
    let k : ℕ = b.up - b.down - 1 in
    let ea : a.up ≡ a.down + suc j = omega arith in
    let eb : b.up ≡ b.down + suc k = omega arith in
    rw (inverse_up a j ea, inverse_up b k eb) (omega (arith, ap (λ (n : ℕ). n * suc b.under) ea, ap (λ (n : ℕ). n * suc a.under) eb)))
    (λ (below : a.up < a.down).
    let above = below_other a b h below in
    let j : ℕ = a.down - a.up - 1 in
    let k : ℕ = b.down - b.up - 1 in
    let ea : a.down ≡ a.up + suc j = omega arith in
    let eb : b.down ≡ b.up + suc k = omega arith in
    rw (inverse_down a j ea, inverse_down b k eb) (omega (arith, ap (λ (n : ℕ). n * suc b.under) ea, ap (λ (n : ℕ). n * suc a.under) eb)))
    apart)
    (cases_order a.down a.up)

-- the number upside down, and 0 for 0
pub inverse : ℚ → ℚ
unfolding ℚ
inverse x = lift Quot-set (λ a. mk (raw_inverse a)) (λ a b h. sound (inverse_same a b h)) x

number_of : Ratio → ℚ
unfolding ℚ
number_of a = mk a

-- an integer over a natural above zero; over zero it is read as over 1
pub ratio_of : ℤ → ℕ → Ratio
ratio_of (pos n) d = record { up = n; down = 0; under = d - 1 }
ratio_of (negsuc n) d = record { up = 0; down = suc n; under = d - 1 }

-- the number n / d
pub fraction : ℤ → ℕ → ℚ
fraction n d = number_of (ratio_of n d)

-- a whole number as a rational one
abbrev pub whole_ℚ : ℤ → ℚ
whole_ℚ n = fraction n 1

abbrev pub zero_ℚ : ℚ
zero_ℚ = fraction (pos 0) 1

abbrev pub one_ℚ : ℚ
one_ℚ = fraction (pos 1) 1

-- ---- laws of the field

imp_prop : (A B : Type 0) → IsProp B → IsProp (A → B)
imp_prop A B h f g = fun_ext (λ x. h (f x) (g x))

any_one : (P : ℚ → Type 0) → ((x : ℚ) → IsProp (P x)) → ((a : Ratio) → P (number_of a)) → (x : ℚ) → P x
unfolding ℚ number_of
any_one P flat h x = ind flat h x

any_two : (P : ℚ → ℚ → Type 0) → ((x y : ℚ) → IsProp (P x y)) → ((a b : Ratio) → P (number_of a) (number_of b)) → (x y : ℚ) → P x y
unfolding ℚ number_of
any_two P flat h x y = ind (λ q. flat q y) (λ a. ind (λ q. flat (number_of a) q) (h a) y) x

by_one : (f g : ℚ → ℚ) → ((a : Ratio) → f (number_of a) ≡ g (number_of a)) → (x : ℚ) → f x ≡ g x
unfolding ℚ number_of
by_one f g h x = ind (λ q. Quot-set (f q) (g q)) h x

by_two : (f g : ℚ → ℚ → ℚ) → ((a b : Ratio) → f (number_of a) (number_of b) ≡ g (number_of a) (number_of b)) → (x y : ℚ) → f x y ≡ g x y
unfolding ℚ number_of
by_two f g h x y = ind (λ q. Quot-set (f q y) (g q y)) (λ a. ind (λ q. Quot-set (f (number_of a) q) (g (number_of a) q)) (h a) y) x

by_three : (f g : ℚ → ℚ → ℚ → ℚ) → ((a b c : Ratio) → f (number_of a) (number_of b) (number_of c) ≡ g (number_of a) (number_of b) (number_of c)) → (x y z : ℚ) → f x y z ≡ g x y z
unfolding ℚ number_of
by_three f g h x y z = ind (λ q. Quot-set (f q y z) (g q y z)) (λ a. by_two (f (number_of a)) (g (number_of a)) (h a) y z) x

pub +ℚ_comm : (x y : ℚ) → x +ℚ y ≡ y +ℚ x
unfolding ℚ number_of ◌+ℚ◌ lifted inner raw_sum
+ℚ_comm = by_two (λ x y. x +ℚ y) (λ x y. y +ℚ x) (λ a b. sound (omega arith))

assoc_num : (a a' b b' c c' A B C AB BC ABC ABC' : ℕ) → AB ≡ A * B → BC ≡ B * C → ABC ≡ AB * C → ABC' ≡ A * BC → ((a * B + b * A) * C + c * AB) * ABC' + (a' * BC + (b' * C + c' * B) * A) * ABC ≡ (a * BC + (b * C + c * B) * A) * ABC + ((a' * B + b' * A) * C + c' * AB) * ABC'
assoc_num a a' b b' c c' A B C AB BC ABC ABC' e1 e2 e3 e4 = rw (e3, e4, e1, e2) (omega arith)

distrib_num : (a a' b b' c c' A B C AB AC BC ABC ABAC : ℕ) → AB ≡ A * B → AC ≡ A * C → BC ≡ B * C → ABC ≡ A * BC → ABAC ≡ AB * AC → (a * (b * C + c * B) + a' * (b' * C + c' * B)) * ABAC + ((a * b' + a' * b) * AC + (a * c' + a' * c) * AB) * ABC ≡ ((a * b + a' * b') * AC + (a * c + a' * c') * AB) * ABC + (a * (b' * C + c' * B) + a' * (b * C + c * B)) * ABAC
distrib_num a a' b b' c c' A B C AB AC BC ABC ABAC e1 e2 e3 e4 e5 = rw (e4, e5, e1, e2, e3) (omega arith)

pub +ℚ_assoc : (x y z : ℚ) → (x +ℚ y) +ℚ z ≡ x +ℚ (y +ℚ z)
unfolding ℚ number_of ◌+ℚ◌ lifted inner raw_sum
+ℚ_assoc = by_three (λ x y z. (x +ℚ y) +ℚ z) (λ x y z. x +ℚ (y +ℚ z)) (λ a b c. sound (assoc_num a.up a.down b.up b.down c.up c.down _ _ _ _ _ _ _ (omega arith) (omega arith) (omega arith) (omega arith)))

pub *ℚ_comm : (x y : ℚ) → x *ℚ y ≡ y *ℚ x
unfolding ℚ number_of ◌*ℚ◌ lifted inner raw_product
*ℚ_comm = by_two (λ x y. x *ℚ y) (λ x y. y *ℚ x) (λ a b. sound (omega arith))

pub *ℚ_assoc : (x y z : ℚ) → (x *ℚ y) *ℚ z ≡ x *ℚ (y *ℚ z)
unfolding ℚ number_of ◌*ℚ◌ lifted inner raw_product
*ℚ_assoc = by_three (λ x y z. (x *ℚ y) *ℚ z) (λ x y z. x *ℚ (y *ℚ z)) (λ a b c. sound (omega arith))

pub +ℚ-zero : (x : ℚ) → x +ℚ zero_ℚ ≡ x
unfolding ℚ number_of ◌+ℚ◌ lifted inner raw_sum fraction ratio_of
+ℚ-zero = by_one (λ x. x +ℚ zero_ℚ) (λ x. x) (λ a. sound (omega arith))

pub +ℚ-neg_ℚ : (x : ℚ) → x +ℚ neg_ℚ x ≡ zero_ℚ
unfolding ℚ number_of ◌+ℚ◌ lifted inner raw_sum fraction ratio_of neg_ℚ raw_turned
+ℚ-neg_ℚ = by_one (λ x. x +ℚ neg_ℚ x) (λ x. zero_ℚ) (λ a. sound (omega arith))

pub *ℚ-one : (x : ℚ) → x *ℚ one_ℚ ≡ x
unfolding ℚ number_of ◌*ℚ◌ lifted inner raw_product fraction ratio_of
*ℚ-one = by_one (λ x. x *ℚ one_ℚ) (λ x. x) (λ a. sound (omega arith))

pub *ℚ-zero : (x : ℚ) → x *ℚ zero_ℚ ≡ zero_ℚ
unfolding ℚ number_of ◌*ℚ◌ lifted inner raw_product fraction ratio_of
*ℚ-zero = by_one (λ x. x *ℚ zero_ℚ) (λ x. zero_ℚ) (λ a. sound (omega arith))

pub *ℚ-+ℚ : (x y z : ℚ) → x *ℚ (y +ℚ z) ≡ x *ℚ y +ℚ x *ℚ z
unfolding ℚ number_of ◌*ℚ◌ ◌+ℚ◌ lifted inner raw_product raw_sum
*ℚ-+ℚ = by_three (λ x y z. x *ℚ (y +ℚ z)) (λ x y z. x *ℚ y +ℚ x *ℚ z) (λ a b c. sound (distrib_num a.up a.down b.up b.down c.up c.down (suc a.under) (suc b.under) (suc c.under) _ _ (suc (raw_sum b c).under) _ _ (omega arith) (omega arith) (omega arith) (omega arith) (omega arith)))

pub *ℚ-neg_ℚ : (x y : ℚ) → x *ℚ neg_ℚ y ≡ neg_ℚ (x *ℚ y)
unfolding ℚ number_of ◌*ℚ◌ lifted inner raw_product neg_ℚ raw_turned
*ℚ-neg_ℚ = by_two (λ x y. x *ℚ neg_ℚ y) (λ x y. neg_ℚ (x *ℚ y)) (λ a b. sound (omega arith))

inverse_raw : (a : Ratio) → (a.down ≡ a.up → ⊥) → Same (raw_product a (raw_inverse a)) (ratio_of (pos 1) 1)
unfolding raw_product ratio_of
inverse_raw a apart =
    ⊎_elim (λ e. absurd (apart e))
    (λ (two : (a.down < a.up) ⊎ (a.up < a.down)). ⊎_elim
    (λ (below : a.down < a.up).
    let j : ℕ = a.up - a.down - 1 in
    let ea : a.up ≡ a.down + suc j = omega arith in
    rw (inverse_up a j ea) (omega (arith, ap (λ (n : ℕ). n * suc a.under) ea)))
    (λ (below : a.up < a.down).
    let j : ℕ = a.down - a.up - 1 in
    let ea : a.down ≡ a.up + suc j = omega arith in
    rw (inverse_down a j ea) (omega (arith, ap (λ (n : ℕ). n * suc a.under) ea)))
    two)
    (cases_order a.down a.up)

zero_raw : (a : Ratio) → a.down ≡ a.up → Same a (ratio_of (pos 0) 1)
unfolding ratio_of
zero_raw a e = omega arith

pub *ℚ-inverse : (x : ℚ) → (x ≡ zero_ℚ → ⊥) → x *ℚ inverse x ≡ one_ℚ
unfolding ℚ number_of inverse ◌*ℚ◌ lifted inner fraction
*ℚ-inverse = any_one (λ q. (q ≡ zero_ℚ → ⊥) → q *ℚ inverse q ≡ one_ℚ) (λ q. imp_prop (q ≡ zero_ℚ → ⊥) (q *ℚ inverse q ≡ one_ℚ) (Quot-set (q *ℚ inverse q) one_ℚ)) (λ a h. sound (inverse_raw a (λ e. h (sound (zero_raw a e)))))

-- ---- the order

le_of : (m n : ℕ) → IsTrue (nat_le m n) → m ≤ n
le_of m n h = grind (arith, nat_tests)

test_of : (m n : ℕ) → m ≤ n → IsTrue (nat_le m n)
test_of m n h = grind (arith, nat_tests)

not_of : (m n : ℕ) → nat_le m n ≡ false → n < m
not_of m n h = grind (arith, nat_tests)

sum_test : (a b : Ratio) → IsTrue (nat_le a.down a.up) → IsTrue (nat_le b.down b.up) → IsTrue (nat_le (raw_sum a b).down (raw_sum a b).up)
unfolding raw_sum
sum_test a b h k =
    let one = mul-le-mul_right (suc b.under) (le_of a.down a.up h) in
    let two = mul-le-mul_right (suc a.under) (le_of b.down b.up k) in
    test_of _ _ (omega arith)

product_test : (a b : Ratio) → IsTrue (nat_le a.down a.up) → IsTrue (nat_le b.down b.up) → IsTrue (nat_le (raw_product a b).down (raw_product a b).up)
unfolding raw_product
product_test a b h k =
    let one = le_of a.down a.up h in
    let j : ℕ = a.up - a.down in
    let e : a.up ≡ a.down + j = omega arith in
    let two = mul-le-mul_left j (le_of b.down b.up k) in
    test_of _ _ (omega (arith, ap (λ (n : ℕ). n * b.up) e, ap (λ (n : ℕ). n * b.down) e))

pub nonnegative-sum : (x y : ℚ) → IsTrue (is_nonnegative x) → IsTrue (is_nonnegative y) → IsTrue (is_nonnegative (x +ℚ y))
unfolding ℚ number_of is_nonnegative ◌+ℚ◌ lifted inner raw_test
nonnegative-sum = any_two (λ x y. IsTrue (is_nonnegative x) → IsTrue (is_nonnegative y) → IsTrue (is_nonnegative (x +ℚ y))) (λ x y. imp_prop (IsTrue (is_nonnegative x)) (IsTrue (is_nonnegative y) → IsTrue (is_nonnegative (x +ℚ y))) (imp_prop (IsTrue (is_nonnegative y)) (IsTrue (is_nonnegative (x +ℚ y))) (Bool-set (is_nonnegative (x +ℚ y)) true))) sum_test

pub nonnegative-product : (x y : ℚ) → IsTrue (is_nonnegative x) → IsTrue (is_nonnegative y) → IsTrue (is_nonnegative (x *ℚ y))
unfolding ℚ number_of is_nonnegative ◌*ℚ◌ lifted inner raw_test
nonnegative-product = any_two (λ x y. IsTrue (is_nonnegative x) → IsTrue (is_nonnegative y) → IsTrue (is_nonnegative (x *ℚ y))) (λ x y. imp_prop (IsTrue (is_nonnegative x)) (IsTrue (is_nonnegative y) → IsTrue (is_nonnegative (x *ℚ y))) (imp_prop (IsTrue (is_nonnegative y)) (IsTrue (is_nonnegative (x *ℚ y))) (Bool-set (is_nonnegative (x *ℚ y)) true))) product_test

-- what is not at least zero is, turned
pub nonnegative-turned : (x : ℚ) → is_nonnegative x ≡ false → IsTrue (is_nonnegative (neg_ℚ x))
unfolding ℚ number_of is_nonnegative neg_ℚ raw_turned raw_test
nonnegative-turned = any_one (λ q. is_nonnegative q ≡ false → IsTrue (is_nonnegative (neg_ℚ q))) (λ q. imp_prop (is_nonnegative q ≡ false) (IsTrue (is_nonnegative (neg_ℚ q))) (Bool-set (is_nonnegative (neg_ℚ q)) true)) (λ a h. test_of _ _ (let below = not_of _ _ h in omega arith))

-- both only at zero
pub zero_from_both : (x : ℚ) → IsTrue (is_nonnegative x) → IsTrue (is_nonnegative (neg_ℚ x)) → x ≡ zero_ℚ
unfolding ℚ number_of is_nonnegative neg_ℚ raw_turned raw_test fraction
zero_from_both = any_one (λ q. IsTrue (is_nonnegative q) → IsTrue (is_nonnegative (neg_ℚ q)) → q ≡ zero_ℚ) (λ q. imp_prop (IsTrue (is_nonnegative q)) (IsTrue (is_nonnegative (neg_ℚ q)) → q ≡ zero_ℚ) (imp_prop (IsTrue (is_nonnegative (neg_ℚ q))) (q ≡ zero_ℚ) (Quot-set q zero_ℚ))) (λ a h k. sound (zero_raw a (let one = le_of _ _ h in let two = le_of _ _ k in omega arith)))

pub nonnegative-zero : IsTrue (is_nonnegative zero_ℚ)
unfolding ℚ number_of is_nonnegative raw_test fraction ratio_of
nonnegative-zero = refl

-- ---- fractions of integers

parts : (z : ℤ) (d : ℕ) → (((ratio_of z d).up ≡ up z) × ((ratio_of z d).down ≡ down z)) × ((ratio_of z d).under ≡ d - 1)
unfolding ratio_of
parts (pos n) d = ((refl, refl), refl)
parts (negsuc n) d = ((refl, refl), refl)

cross : (a b : Ratio) (m n : ℤ) (d e : ℕ) → 0 < d → 0 < e → ((a.up ≡ up m) × (a.down ≡ down m)) × (a.under ≡ d - 1) → ((b.up ≡ up n) × (b.down ≡ down n)) × (b.under ≡ e - 1) → m *ℤ pos e ≡ n *ℤ pos d → Same a b
cross a b m n d e hd he p q h =
    let da : suc a.under ≡ d = omega arith in
    let db : suc b.under ≡ e = omega arith in
    rw (da, db, p.0.0, p.0.1, q.0.0, q.0.1) (omega (arith, ints))

-- the cross products
pub fraction_same : (m n : ℤ) (d e : ℕ) → 0 < d → 0 < e → m *ℤ pos e ≡ n *ℤ pos d → fraction m d ≡ fraction n e
unfolding ℚ number_of fraction
fraction_same m n d e hd he h = sound (cross (ratio_of m d) (ratio_of n e) m n d e hd he (parts m d) (parts n e) h)

IsRatio : Ratio → ℤ → ℕ → Type 0
IsRatio a n d = ((a.up ≡ up n) × (a.down ≡ down n)) × (suc a.under ≡ d)

is_ratio : (n : ℤ) (d : ℕ) → 0 < d → IsRatio (ratio_of n d) n d
unfolding ratio_of IsRatio
is_ratio (pos n) d h = ((refl, refl), omega arith)
is_ratio (negsuc n) d h = ((refl, refl), omega arith)

product_ratio : (a b c : Ratio) (m n : ℤ) (d e : ℕ) → IsRatio a m d → IsRatio b n e → IsRatio c (m *ℤ n) (d * e) → Same (raw_product a b) c
unfolding raw_product IsRatio
product_ratio a b c m n d e p q r =
    let size : suc (a.under * b.under + a.under + b.under) ≡ d * e = omega (arith, ap (λ (x : ℕ). x * suc b.under) p.1, ap (λ (x : ℕ). d * x) q.1) in
    rw (size, r.1, p.0.0, p.0.1, q.0.0, q.0.1, r.0.0, r.0.1, (product_is m n).0, (product_is m n).1) refl

pub fraction-*ℚ : (m n : ℤ) (d e : ℕ) → 0 < d → 0 < e → fraction m d *ℚ fraction n e ≡ fraction (m *ℤ n) (d * e)
unfolding ℚ number_of fraction ◌*ℚ◌ lifted inner
fraction-*ℚ m n d e hd he = sound (product_ratio (ratio_of m d) (ratio_of n e) (ratio_of (m *ℤ n) (d * e)) m n d e (is_ratio m d hd) (is_ratio n e he) (is_ratio (m *ℤ n) (d * e) (mul-pos hd he)))

sum_ratio : (a b c : Ratio) (m n : ℤ) (d e : ℕ) → IsRatio a m d → IsRatio b n e → IsRatio c (m *ℤ pos e +ℤ n *ℤ pos d) (d * e) → Same (raw_sum a b) c
unfolding raw_sum IsRatio
sum_ratio a b c m n d e p q r =
    let size : suc (a.under * b.under + a.under + b.under) ≡ d * e = omega (arith, ap (λ (x : ℕ). x * suc b.under) p.1, ap (λ (x : ℕ). d * x) q.1) in
    let h = sum_is_lem (m *ℤ pos e) (n *ℤ pos d) in
    let k = rw ((product_is m (pos e)).0, (product_is m (pos e)).1, (product_is n (pos d)).0, (product_is n (pos d)).1) at h in
    rw (size, r.1, p.1, q.1, p.0.0, p.0.1, q.0.0, q.0.1, r.0.0, r.0.1) (omega (arith, ap (λ (x : ℕ). x * (d * e)) k))

pub fraction-+ℚ : (m n : ℤ) (d e : ℕ) → 0 < d → 0 < e → fraction m d +ℚ fraction n e ≡ fraction (m *ℤ pos e +ℤ n *ℤ pos d) (d * e)
unfolding ℚ number_of fraction ◌+ℚ◌ lifted inner
fraction-+ℚ m n d e hd he = sound (sum_ratio (ratio_of m d) (ratio_of n e) (ratio_of (m *ℤ pos e +ℤ n *ℤ pos d) (d * e)) m n d e (is_ratio m d hd) (is_ratio n e he) (is_ratio (m *ℤ pos e +ℤ n *ℤ pos d) (d * e) (mul-pos hd he)))

turned_ratio : (a b : Ratio) (m : ℤ) (d : ℕ) → IsRatio a m d → IsRatio b (neg_ℤ m) d → Same (raw_turned a) b
unfolding raw_turned IsRatio
turned_ratio a b m d p q = rw (p.1, q.1, p.0.0, p.0.1, q.0.0, q.0.1, (neg_is m).0, (neg_is m).1) refl

pub neg_ℚ-fraction : (m : ℤ) (d : ℕ) → 0 < d → neg_ℚ (fraction m d) ≡ fraction (neg_ℤ m) d
unfolding ℚ number_of fraction neg_ℚ
neg_ℚ-fraction m d h = sound (turned_ratio (ratio_of m d) (ratio_of (neg_ℤ m) d) m d (is_ratio m d h) (is_ratio (neg_ℤ m) d h))

sign_ratio : (a : Ratio) (m : ℤ) (d : ℕ) → IsRatio a m d → IsTrue (nat_le a.down a.up) ↔ (pos 0 ≤ℤ m)
unfolding IsRatio
sign_ratio a m d p = (λ h. let low = le_of _ _ h in let x = p.0.0 in let y = p.0.1 in omega (arith, ints), λ h. test_of _ _ (let x = p.0.0 in let y = p.0.1 in omega (arith, ints)))

pub is_nonnegative-fraction : (m : ℤ) (d : ℕ) → 0 < d → IsTrue (is_nonnegative (fraction m d)) ↔ (pos 0 ≤ℤ m)
unfolding ℚ number_of fraction is_nonnegative raw_test
is_nonnegative-fraction m d h = sign_ratio (ratio_of m d) m d (is_ratio m d h)

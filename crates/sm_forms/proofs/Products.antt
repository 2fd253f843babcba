-- A product is exact where one factor is constant.
use Rattle.std.proofs.Common.{◌≡◌, ◌∙◌, ap, sym, refl, ℕ, zero, suc, arith, ℤ, pos, negsuc, ◌<◌, ◌*◌}
use Rattle.std.specs.Prelude.{◌+ℤ◌, ◌-ℤ◌, ◌*ℤ◌, ◌<ℤ◌, int_div, int_rem, unsigned_abs}
use Rattle.std.proofs.lemmas.Int.{ints, quot-rem, rem_below, unsigned_abs-mul}
use Rattle.std.proofs.Math.IntN.{*ℤ_comm}
use Rattle.std.proofs.Math.Path.{fun_ext}
use Rattle.sm_kinds.proofs.Multiples.{*ℤ_right_comm, -ℤ-*ℤ}
use Rattle.sm_forms.specs.Meanings.{Values, Meaning, product_of}

some_abs : (d : ℤ) → pos 0 <ℤ d → 0 < unsigned_abs d
some_abs (pos zero) h = absurd (omega (arith, ints))
some_abs (pos (suc n)) h = omega arith
some_abs (negsuc n) h = absurd (omega (arith, ints))

none_below : (m n : ℕ) → m * n < n → m ≡ 0
none_below zero n h = refl
none_below (suc m) n h = absurd (omega arith)

same_where : (x y : ℤ) → unsigned_abs (x -ℤ y) ≡ 0 → x ≡ y
same_where x y h = omega (arith, ints)

-- what is a multiple divides exactly: the quotient differs from the factor by less than 1
pub int_div-multiple : (m d : ℤ) → pos 0 <ℤ d → int_div (m *ℤ d) d ≡ m
int_div-multiple m d h =
    let q = int_div (m *ℤ d) d in
    let r = int_rem (m *ℤ d) d in
    let difference : (m -ℤ q) *ℤ d ≡ r = -ℤ-*ℤ m q d ∙ left (m *ℤ d) (q *ℤ d) r (quot-rem (m *ℤ d) d) in
    let size = sym (unsigned_abs-mul (m -ℤ q) d) ∙ ap unsigned_abs difference in
    let less = rem_below (m *ℤ d) d (some_abs d h) in
    sym (same_where m q (none_below (unsigned_abs (m -ℤ q)) (unsigned_abs d) (omega (arith, size, less))))
  where
    left : (z p r : ℤ) → p +ℤ r ≡ z → z -ℤ p ≡ r
    left z p r e = omega (arith, ints, e)

pub exact_product : (x y : Meaning) (k : ℤ) → ((a : Values) → x a ≡ k *ℤ a.denominator) → (a : Values) → product_of x y a ≡ k *ℤ y a
exact_product x y k is a = rw (is a, *ℤ_right_comm k a.denominator (y a)) (int_div-multiple (k *ℤ y a) a.denominator a.positive)

pub product_left : (x y : Meaning) (k : ℤ) → ((a : Values) → x a ≡ k *ℤ a.denominator) → product_of x y ≡ (λ a. k *ℤ y a)
product_left x y k is = fun_ext (λ a. exact_product x y k is a)

pub product_right : (x y : Meaning) (k : ℤ) → ((a : Values) → y a ≡ k *ℤ a.denominator) → product_of x y ≡ (λ a. k *ℤ x a)
product_right x y k is = fun_ext (λ a. ap (λ z. int_div z a.denominator) (*ℤ_comm (x a) (y a)) ∙ exact_product y x k is a)

-- The range of sums and products of numbers in 64 bits.
use Rattle.std.proofs.Common.{◌≤◌, ◌+◌, ◌*◌, ◌^◌, ℕ, FitsSigned, arith, lit<, w64}
use Rattle.std.specs.Int.{w128}
use Rattle.std.specs.Prelude.{ℤ, pos, negsuc, ◌+ℤ◌, ◌*ℤ◌, unsigned_abs}
use Rattle.std.proofs.lemmas.Int.{ints, fits_signed_mul, fits_signed_from_abs, unsigned_abs-mul}
use Rattle.std.proofs.Math.Nat.{mul-le-mul}

abs_of : (z : ℤ) → FitsSigned w64 z → unsigned_abs z ≤ 2 ^ 63
abs_of (pos n) h = omega (arith, h.sfits)
abs_of (negsuc n) h = omega (arith, h.sfits)

pub wide : (z : ℤ) → FitsSigned w64 z → FitsSigned w128 z
wide z h = fits_signed_from_abs w128 z (omega (arith, abs_of z h))

pub product_fits : (y z : ℤ) → FitsSigned w64 y → FitsSigned w64 z → FitsSigned w128 (y *ℤ z)
product_fits y z h k = fits_signed_mul w128 y z (2 ^ 63) (2 ^ 63) (abs_of y h) (abs_of z k) (lit< tt)

abs-add : (x y : ℤ) (m n : ℕ) → unsigned_abs x ≤ m → unsigned_abs y ≤ n → unsigned_abs (x +ℤ y) ≤ m + n
abs-add x y m n h k = omega (arith, ints)

pub sum_fits : (x y z : ℤ) → FitsSigned w64 x → FitsSigned w64 y → FitsSigned w64 z → FitsSigned w128 (x +ℤ (y *ℤ z))
sum_fits x y z f h k =
    let product : unsigned_abs (y *ℤ z) ≤ 2 ^ 63 * 2 ^ 63 = omega (arith, unsigned_abs-mul y z, mul-le-mul (abs_of y h) (abs_of z k)) in
    fits_signed_from_abs w128 (x +ℤ (y *ℤ z)) (omega (arith, abs-add x (y *ℤ z) (2 ^ 63) (2 ^ 63 * 2 ^ 63) (abs_of x f) product))

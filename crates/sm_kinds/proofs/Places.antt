-- A variable's whole value, by its numerator and the denominator.
use Rattle.std.proofs.Common.{◌≡◌, ℕ, ◌+◌, ◌*◌, ◌/◌, ◌<◌, arith, refl, sym, ap, ◌∙◌}
use Rattle.std.proofs.lemmas.Int.{ints}
use Rattle.std.proofs.lemmas.Nat.{div-mul-add}
use Rattle.std.specs.Prelude.{ℤ, pos, negsuc, ◌*ℤ◌, ◌≤ℤ◌, unsigned_abs}
use Rattle.sm_kinds.specs.Points.{Point, HasValue}

-- a product with a number above 0, by absolute values
pub product_abs : (j : ℕ) (d : ℤ) → pos 1 ≤ℤ d → unsigned_abs (pos j *ℤ d) ≡ j * unsigned_abs d
product_abs j (pos e) h = refl
product_abs j (negsuc e) h = absurd (omega (arith, ints))

pub product_above : (j : ℕ) (d : ℤ) → pos 1 ≤ℤ d → pos j *ℤ d ≡ pos (j * unsigned_abs d)
product_above j (pos e) h = refl
product_above j (negsuc e) h = absurd (omega (arith, ints))

pub unit_above : (d : ℤ) → pos 1 ≤ℤ d → 0 < unsigned_abs d
unit_above (pos e) h = omega (arith, ints)
unit_above (negsuc e) h = absurd (omega (arith, ints))

-- the place is the quotient
pub place_is_quotient : (n d : ℤ) (j : ℕ) → pos 1 ≤ℤ d → n ≡ pos j *ℤ d → unsigned_abs n / unsigned_abs d ≡ j
place_is_quotient n d j h e =
    let above = unit_above d h in
    let same : unsigned_abs n ≡ j * unsigned_abs d + 0 = omega (arith, ap unsigned_abs e, product_abs j d h) in
    ap (λ (x : ℕ). x / unsigned_abs d) same ∙ div-mul-add j (unsigned_abs d) 0 above

pub place_covers : (n d : ℤ) (j : ℕ) → pos 1 ≤ℤ d → n ≡ pos j *ℤ d → j * unsigned_abs d ≡ unsigned_abs n
place_covers n d j h e = sym (ap unsigned_abs e ∙ product_abs j d h)

pub place_from_quotient : (n d : ℤ) (j : ℕ) → pos 1 ≤ℤ d → pos 0 ≤ℤ n → j * unsigned_abs d ≡ unsigned_abs n → n ≡ pos j *ℤ d
place_from_quotient (pos m) d j h k e = sym (product_above j d h ∙ ap pos e)
place_from_quotient (negsuc m) d j h k e = absurd (omega (arith, ints))

pub place_not_negative : (n d : ℤ) (j : ℕ) → pos 1 ≤ℤ d → n ≡ pos j *ℤ d → pos 0 ≤ℤ n
place_not_negative n d j h e = let same = product_above j d h in omega (arith, ints, e, same)

-- a variable has one place at most
pub one_place : (a : Point) (i j k : ℕ) → pos 1 ≤ℤ a.denominator → HasValue a i (pos j) → HasValue a i (pos k) → j ≡ k
one_place a i j k h e f = sym (place_is_quotient (a.numerator i) a.denominator j h e) ∙ place_is_quotient (a.numerator i) a.denominator k h f

-- What the code computes of two numbers and their greatest common divisor.
use Rattle.std.proofs.Common.{◌≡◌, ℕ, ℤ, pos, unsigned_abs, sym, ap, arith, subst, ◌∙◌}
use Rattle.std.specs.Int.{IsGcd, ◌∣◌}
use Rattle.std.specs.Prelude.{◌<ℤ◌, ◌≤◌, ◌<◌, ◌^◌, int_div, ◌*ℤ◌, negsuc, suc, ◌*◌, ◌/◌}
use Rattle.std.proofs.lemmas.Int.{ints, unsigned_abs-mul}
use mir.Val.{SFits}
use mir.Syntax.{w128}
use Rattle.std.proofs.lemmas.Bool.Decides.{nat_tests}
use Rattle.std.specs.Prelude.{IsTrue, ◌↔◌}
use lib.Dec.{eqb}
use Rattle.sm_frac.proofs.Divides.{apart_parts}
use Rattle.sm_frac.proofs.IntRing.{cross_of_parts, above_factor}
use borrow.Author.Differences.{same_in, product_is, quot_is}
use Rattle.std.proofs.lemmas.Nat.Gcd.{same_from_IsGcd, dvd_refl}
use Rattle.std.proofs.Math.Nat.{one-dvd, div-mul_cancel, zero-div, pos_of_dvd_of_pos, le_of_dvd, mul-le-mul_left}
use Rattle.sm_frac.specs.Lowest.{IsLowest, LowestTerms}

moved : (n d : ℤ) (p q g : ℕ) → p ≡ unsigned_abs n → q ≡ unsigned_abs d → IsGcd p q g → IsGcd (unsigned_abs n) (unsigned_abs d) g
moved n d p q g e f h = subst (λ (x : ℕ). IsGcd x (unsigned_abs d) g) e (subst (λ (x : ℕ). IsGcd p x g) f h)

test_is_one : (g : ℕ) → IsTrue (eqb g 1) → g ≡ 1
test_is_one g t = grind (arith, nat_tests)

one_is_test : (g : ℕ) → g ≡ 1 → IsTrue (eqb g 1)
one_is_test g t = grind (arith, nat_tests)

pub is_lowest_test : (n d : ℤ) (p q g : ℕ) → p ≡ unsigned_abs n → q ≡ unsigned_abs d → IsGcd p q g → IsTrue (eqb g 1) ↔ IsLowest n d
is_lowest_test n d p q g e f h =
    let is = moved n d p q g e f h in (
      λ t. let one : g ≡ 1 = test_is_one g t in record { apart = subst (λ (k : ℕ). IsGcd (unsigned_abs n) (unsigned_abs d) k) one is },
      λ l. one_is_test g (same_from_IsGcd _ _ _ _ is l.apart),
    )

pub lowest_whole : (n : ℤ) → IsLowest n (pos 1)
lowest_whole n = record { apart = (one-dvd _, dvd_refl 1, λ k _ h. h) }

exact_div : (n : ℤ) (g : ℕ) → g ∣ unsigned_abs n → int_div n (pos g) *ℤ pos g ≡ n
exact_div (pos n) g h = ap pos (div-mul_cancel g h)
exact_div (negsuc n) g h =
    let e : suc n / g * g ≡ suc n = div-mul_cancel g h in
    let q = quot_is (negsuc n) g in
    same_in (int_div (negsuc n) (pos g) *ℤ pos g) (negsuc n) (rw ((product_is (int_div (negsuc n) (pos g)) (pos g)).0, (product_is (int_div (negsuc n) (pos g)) (pos g)).1, q.0, q.1, zero-div g) (omega arith))

pub exact_part : (n p : ℤ) (g : ℕ) → g ∣ unsigned_abs n → p ≡ int_div n (pos g) → p *ℤ pos g ≡ n
exact_part n p g h e = ap (λ (q : ℤ). q *ℤ pos g) e ∙ exact_div n g h

abs_above : (d : ℤ) → pos 0 <ℤ d → 0 < unsigned_abs d
abs_above d h = omega (arith, ints)

pub gcd_above : (a : ℕ) (d : ℤ) (q g : ℕ) → pos 0 <ℤ d → q ≡ unsigned_abs d → IsGcd a q g → 0 < g
gcd_above a d q g h e k = let up = abs_above d h in pos_of_dvd_of_pos k.1 (omega arith)

pub gcd_small : (a : ℕ) (d : ℤ) (q g : ℕ) → pos 0 <ℤ d → SFits w128 d → q ≡ unsigned_abs d → IsGcd a q g → g < 2 ^ 127
gcd_small a d q g h f e k =
    let above = abs_above d h in
    let below : unsigned_abs d < 2 ^ 127 = omega (arith, ints) in
    let le : g ≤ q = le_of_dvd (omega arith) k.1 in
    omega arith

abs_of_product : (p n : ℤ) (g : ℕ) → p *ℤ pos g ≡ n → unsigned_abs p * g ≡ unsigned_abs n
abs_of_product p n g e = sym (unsigned_abs-mul p (pos g)) ∙ ap unsigned_abs e

pub reduced_terms : (n d : ℤ) (p q g : ℕ) (m e : ℤ) → p ≡ unsigned_abs n → q ≡ unsigned_abs d → pos 0 <ℤ d → IsGcd p q g → m ≡ int_div n (pos g) → e ≡ int_div d (pos g) → LowestTerms n d m e
reduced_terms n d p q g m e pe qe above h me ee =
    let is = moved n d p q g pe qe h in
    let some : 0 < g = gcd_above p d q g above qe h in
    let left = exact_part n m g is.0 me in
    let right = exact_part d e g is.1 ee in
    record {
      same = cross_of_parts m n d e (pos g) left right;
      above = above_factor e d g above right;
      lowest = record { apart = apart_parts _ _ g _ _ some is (abs_of_product m n g left) (abs_of_product e d g right) };
    }

pub reduced_smaller : (n d : ℤ) (p q g : ℕ) (m : ℤ) → p ≡ unsigned_abs n → q ≡ unsigned_abs d → pos 0 <ℤ d → IsGcd p q g → m ≡ int_div n (pos g) → unsigned_abs m ≤ unsigned_abs n
reduced_smaller n d p q g m pe qe above h me =
    let is = moved n d p q g pe qe h in
    let some : 0 < g = gcd_above p d q g above qe h in
    let left = abs_of_product m n g (exact_part n m g is.0 me) in
    let more : unsigned_abs m * 1 ≤ unsigned_abs m * g = mul-le-mul_left (unsigned_abs m) some in
    omega arith

-- The greatest number that divides two others is their greatest common divisor.
use Rattle.std.proofs.Common.{◌≡◌, ◌∙◌, ap, sym, subst, refl, ℕ, zero, suc, ◌%◌, ◌<◌, ◌≤◌, arith, ◌++◌, codes, Bool, true, false, ◌==◌, if◌then◌else◌, ℤ, pos, ◌<ℤ◌}
use Rattle.std.specs.Prelude.{unsigned_abs, int_div, ◌&&◌}
use Rattle.std.specs.Int.{IsGcd, ◌∣◌}
use Rattle.std.proofs.lemmas.Bool.Decides.{nat_tests}
use Rattle.std.proofs.lemmas.Int.{ints}
use Rattle.std.proofs.lemmas.Nat.Gcd.{le_of_dvd, dvd_of_mod-eq-zero, mod-eq-zero_of_dvd}
use Rattle.sm_base.specs.Whole.{whole_text}
use Rattle.sm_frac.proofs.FracLemmas.{gcd_above}
use Rattle.sm_frac.proofs.IntRing.{pos_abs}
use Rattle.sm_reports.specs.Briefs.{divisor_up_to, common_divisor, ratio_text}

both_zero : (a b : ℕ) → (a == 0 && b == 0) ≡ true → (a ≡ 0) × (b ≡ 0)
both_zero a b h = by_first (a == 0) (b == 0) refl refl h
  where
    by_first : (s t : Bool) → (a == 0) ≡ s → (b == 0) ≡ t → (s && t) ≡ true → (a ≡ 0) × (b ≡ 0)
    by_first true true e f h = (grind (arith, nat_tests), grind (arith, nat_tests))
    by_first true false e f h = absurd (cc)
    by_first false t e f h = absurd (cc)

-- the greatest common divisor is found, from any number on that isn't below it
pub divisor_is : (k n d g : ℕ) → IsGcd n d g → 0 < g → g ≤ k → divisor_up_to k n d ≡ g
divisor_is zero n d g h above le = absurd (omega arith)
divisor_is (suc k) n d g h above le = by_test (λ less. divisor_is k n d g h above less) (n % suc k == 0 && d % suc k == 0) refl
  where
    not_least : (n % suc k == 0 && d % suc k == 0) ≡ false → g ≡ suc k → ⊥
    not_least e is =
        let left : n % suc k ≡ 0 = mod-eq-zero_of_dvd (suc k) (subst (λ (x : ℕ). x ∣ n) is h.0) in
        let right : d % suc k ≡ 0 = mod-eq-zero_of_dvd (suc k) (subst (λ (x : ℕ). x ∣ d) is h.1) in
        grind (arith, nat_tests)

    by_test : (g ≤ k → divisor_up_to k n d ≡ g) → (t : Bool) → (n % suc k == 0 && d % suc k == 0) ≡ t → (if t then suc k else divisor_up_to k n d) ≡ g
    by_test later true e =
        let both = both_zero (n % suc k) (d % suc k) e in
        let le2 : suc k ≤ g = le_of_dvd above (h.2 (suc k) (dvd_of_mod-eq-zero (suc k) both.0) (dvd_of_mod-eq-zero (suc k) both.1)) in
        omega arith
    by_test later false e =
        let other = not_least e in
        later (grind (arith, other))

abs_above : (d : ℤ) → pos 0 <ℤ d → 0 < unsigned_abs d
abs_above d h = omega (arith, ints)

pub divisor_found : (n d : ℤ) (g : ℕ) → pos 0 <ℤ d → IsGcd (unsigned_abs n) (unsigned_abs d) g → g ≡ common_divisor n d
divisor_found n d g above h =
    let some = abs_above d above in
    sym (divisor_is (unsigned_abs d) (unsigned_abs n) (unsigned_abs d) g h (gcd_above (unsigned_abs n) d (unsigned_abs d) g above refl h) (le_of_dvd some h.1))

-- a fraction whose denominator is no divisor of both
pub ratio_divided : (n d by : ℤ) → pos 0 <ℤ d → by ≡ pos (common_divisor n d) → (d ≡ by → ⊥) → whole_text (int_div n by) ++ codes "/" ++ whole_text (int_div d by) ≡ ratio_text n d
ratio_divided n d by above is other = rw is (by_test (unsigned_abs d == common_divisor n d) refl)
  where
    other_abs : unsigned_abs d ≡ common_divisor n d → ⊥
    other_abs same = other (sym (pos_abs d above) ∙ ap pos same ∙ sym is)

    by_test : (t : Bool) → (unsigned_abs d == common_divisor n d) ≡ t
        → whole_text (int_div n (pos (common_divisor n d))) ++ codes "/" ++ whole_text (int_div d (pos (common_divisor n d)))
        ≡ (if t then whole_text (int_div n (pos (common_divisor n d))) else whole_text (int_div n (pos (common_divisor n d))) ++ codes "/" ++ whole_text (int_div d (pos (common_divisor n d))))
    by_test true e = absurd (other_abs (grind (arith, nat_tests)))
    by_test false e = refl

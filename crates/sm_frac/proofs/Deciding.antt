-- Whether two numbers are a fraction in lowest terms and in range: each pair is or is not.
use Rattle.std.proofs.Common.{◌≡◌, ℕ, zero, suc, ◌+◌, ◌-◌, ◌≤◌, ◌<◌, ◌^◌, ℤ, pos, negsuc, refl, sym, ◌∙◌, ap, subst, arith, ◌⊎◌, inl, inr}
use Rattle.std.specs.Prelude.{◌%◌, unsigned_abs, ◌<ℤ◌, ◌≢◌, Bool, true, false, nat_lt}
use Rattle.std.specs.Int.{IsGcd}
use Rattle.std.proofs.Math.Dec.{eqb}
use Rattle.std.proofs.lemmas.Int.{ints}
use Rattle.std.proofs.lemmas.Bool.Decides.{eqb_tells, nat_tests}
use Rattle.std.proofs.lemmas.Nat.Gcd.{IsGcd-from_zero, IsGcd-from_mod, same_from_IsGcd}
use Rattle.sm_frac.specs.Lowest.{IsLowest}

pub record IsFraction (n d : ℤ) : Type 0 where
  pub positive : pos 0 <ℤ d
  pub bounded : unsigned_abs n < 2 ^ 127
  pub small : unsigned_abs d < 2 ^ 127
  pub lowest : IsLowest n d

gcd_found : (most a b : ℕ) → b ≤ most → (g : ℕ) × IsGcd a b g
gcd_found zero a b h = (a, IsGcd-from_zero a b (omega arith))
gcd_found (suc most) a zero h = (a, IsGcd-from_zero a 0 refl)
gcd_found (suc most) a (suc b) h = let r = gcd_found most (suc b) (a % suc b) (omega arith) in (r.0, IsGcd-from_mod a (suc b) r.0 r.1)

lowest_or_not : (n d : ℤ) → IsLowest n d ⊎ (IsLowest n d → ⊥)
lowest_or_not n d =
    let g = gcd_found (unsigned_abs d) (unsigned_abs n) (unsigned_abs d) (omega arith) in
    pick g.0 g.1 (eqb_tells g.0 1)
  where
    pick : (g : ℕ) → IsGcd (unsigned_abs n) (unsigned_abs d) g → ((eqb g 1 ≡ true) × (g ≡ 1)) ⊎ ((eqb g 1 ≡ false) × (g ≢ 1)) → IsLowest n d ⊎ (IsLowest n d → ⊥)
    pick g is (inl one) = inl (record { apart = subst (λ (k : ℕ). IsGcd (unsigned_abs n) (unsigned_abs d) k) one.1 is })
    pick g is (inr fails) = inr (λ l. fails.1 (same_from_IsGcd (unsigned_abs n) (unsigned_abs d) g 1 is l.apart))

below_or_not : (a b : ℕ) → (a < b) ⊎ (a < b → ⊥)
below_or_not a b = pick (nat_lt a b) refl
  where
    pick : (t : Bool) → nat_lt a b ≡ t → (a < b) ⊎ (a < b → ⊥)
    pick true e = inl (grind (arith, nat_tests))
    pick false e = inr (λ h. grind (arith, nat_tests))

positive_or_not : (d : ℤ) → (pos 0 <ℤ d) ⊎ (pos 0 <ℤ d → ⊥)
positive_or_not (pos zero) = inr (λ h. omega (arith, ints))
positive_or_not (pos (suc k)) = inl (omega (arith, ints))
positive_or_not (negsuc k) = inr (λ h. omega (arith, ints))

pub fraction_or_not : (n d : ℤ) → IsFraction n d ⊎ (IsFraction n d → ⊥)
fraction_or_not n d = pick (positive_or_not d) (below_or_not (unsigned_abs n) (2 ^ 127)) (below_or_not (unsigned_abs d) (2 ^ 127)) (lowest_or_not n d)
  where
    pick : (pos 0 <ℤ d) ⊎ (pos 0 <ℤ d → ⊥) → (unsigned_abs n < 2 ^ 127) ⊎ (unsigned_abs n < 2 ^ 127 → ⊥) → (unsigned_abs d < 2 ^ 127) ⊎ (unsigned_abs d < 2 ^ 127 → ⊥) → IsLowest n d ⊎ (IsLowest n d → ⊥) → IsFraction n d ⊎ (IsFraction n d → ⊥)
    pick (inl p) (inl b) (inl s) (inl l) = inl (record { positive = p; bounded = b; small = s; lowest = l })
    pick (inr fails) b s l = inr (λ h. fails h.positive)
    pick (inl p) (inr fails) s l = inr (λ h. fails h.bounded)
    pick (inl p) (inl b) (inr fails) l = inr (λ h. fails h.small)
    pick (inl p) (inl b) (inl s) (inr fails) = inr (λ h. fails h.lowest)

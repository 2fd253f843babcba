-- The parts of the answer.
use Rattle.std.proofs.Common.{◌≡◌, ℕ, suc, ◌<◌, ◌≤◌, ◌≢◌, ◌+◌, [], ◌∷◌, ◌++◌, sym, ap, ◌∙◌, refl, arith}
use Rattle.std.specs.Prelude.{Bool, true, false, ◌==◌, if◌then◌else◌}
use Rattle.std.proofs.lemmas.Bool.Decides.{nat_tests}
use Rattle.sm_frac.specs.Rational.{ℚ, zero_ℚ, neg_ℚ, ◌-ℚ◌}
use Rattle.sm_frac.proofs.RationalRing.{ring}
use Rattle.sm_lp.specs.Dictionary.{Dictionary, value_at, IsProper}
use Rattle.sm_lp.specs.Rule.{place}
use Rattle.sm_lp.specs.Path.{numbers_below}
use Rattle.sm_lp.specs.Steps.{constant_of}
use Rattle.sm_lp.proofs.NextLemmas.{least_is, least_none}
use Rattle.sm_lp.proofs.RuleLemmas.{place_is, is_least}
use Rattle.sm_lp.proofs.Points.{found, missing}

eq_true : (a b : ℕ) → a ≡ b → (a == b) ≡ true
eq_true a b e = grind (arith, nat_tests)

eq_false : (a b : ℕ) → a ≢ b → (a == b) ≡ false
eq_false a b e = grind (arith, nat_tests)

pub place_at : (h : ℕ → ℕ) (y n k : ℕ) → k < n → h k ≡ y → ((i : ℕ) → i < k → h i ≢ y) → place h y n ≡ k
unfolding place
place_at h y n k l e before = least_is (λ i. h i == y) n k l (eq_true (h k) y e) (λ i li. eq_false (h i) y (before i li))

pub place_none : (h : ℕ → ℕ) (y n : ℕ) → ((i : ℕ) → i < n → h i ≢ y) → place h y n ≡ n
unfolding place
place_none h y n none = least_none (λ i. h i == y) n (λ i li. eq_false (h i) y (none i li))

-- where a number isn't found it stands nowhere
pub place_past : (h : ℕ → ℕ) (y n i : ℕ) → i < place h y n → h i ≢ y
unfolding place
place_past h y n i l e = absurd (let off = (is_least (λ k. h k == y) n).below i l in let on = eq_true (h i) y e in cc)

pub below_yes : (test : ℕ → Bool) (n : ℕ) → test n ≡ true → numbers_below test (n + 1) ≡ numbers_below test n ++ n ∷ []
unfolding numbers_below
below_yes test n e = let s : n + 1 ≡ suc n = omega arith in ap (numbers_below test) s ∙ yes_if (test n) e
  where
    yes_if : (b : Bool) → b ≡ true → (if b then numbers_below test n ++ n ∷ [] else numbers_below test n) ≡ numbers_below test n ++ n ∷ []
    yes_if true e = refl
    yes_if false e = absurd (cc)

pub below_no : (test : ℕ → Bool) (n : ℕ) → test n ≡ false → numbers_below test (n + 1) ≡ numbers_below test n
unfolding numbers_below
below_no test n e = let s : n + 1 ≡ suc n = omega arith in ap (numbers_below test) s ∙ no_if (test n) e
  where
    no_if : (b : Bool) → b ≡ false → (if b then numbers_below test n ++ n ∷ [] else numbers_below test n) ≡ numbers_below test n
    no_if true e = absurd (cc)
    no_if false e = refl

pub below_none : (test : ℕ → Bool) → numbers_below test 0 ≡ []
unfolding numbers_below
below_none test = refl

pub first_zero : (x y : ℚ) → x ≡ zero_ℚ → x -ℚ y ≡ neg_ℚ y
first_zero x y e = ap (λ (z : ℚ). z -ℚ y) e ∙ tidy y
  where
    tidy : (y : ℚ) → zero_ℚ -ℚ y ≡ neg_ℚ y
    tidy y = simp ring

pub second_zero : (x y : ℚ) → y ≡ zero_ℚ → x ≡ x -ℚ y
second_zero x y e = tidy x ∙ ap (λ (z : ℚ). x -ℚ z) (sym e)
  where
    tidy : (x : ℚ) → x ≡ x -ℚ zero_ℚ
    tidy x = simp ring

-- ---- reading by number
pub value_at_place : (n m : ℕ) (h : ℕ → ℕ) (t : ℕ → ℚ) (y : ℕ) → n ≤ m → ((a b : ℕ) → a < m → b < m → h a ≡ h b → a ≡ b) → place h y m < n → value_at n h t y zero_ℚ ≡ t (place h y m)
value_at_place n m h t y le apart l = found n h t y zero_ℚ (place h y m) l (λ a b la lb e. apart a b (omega arith) (omega arith) e) (place_is h y m (omega arith))

pub value_at_nowhere : (n m : ℕ) (h : ℕ → ℕ) (t : ℕ → ℚ) (y : ℕ) → n ≤ m → n ≤ place h y m → value_at n h t y zero_ℚ ≡ zero_ℚ
value_at_nowhere n m h t y le past = missing n h t y zero_ℚ (λ i l e. place_past h y m i (omega arith) e)

pub constant_found : (d : Dictionary) (f y : ℕ) → IsProper d → place d.basic y d.height < d.height → constant_of d f y ≡ d.entry (place d.basic y d.height) f
unfolding constant_of
constant_found d f y p l = value_at_place d.height d.height d.basic (λ i. d.entry i f) y (omega arith) p.basic_apart l

pub constant_missing : (d : Dictionary) (f y : ℕ) → d.height ≤ place d.basic y d.height → constant_of d f y ≡ zero_ℚ
unfolding constant_of
constant_missing d f y l = value_at_nowhere d.height d.height d.basic (λ i. d.entry i f) y (omega arith) l

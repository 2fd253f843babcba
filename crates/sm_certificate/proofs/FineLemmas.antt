-- Operations that stay in range.
use Rattle.std.proofs.Common.{◌≡◌, ℤ, pos, unsigned_abs, ◌<◌, sym, ap, ◌∙◌, arith, refl, subst}
use Rattle.std.specs.Prelude.{neg_ℤ, ◌*ℤ◌, ◌+ℤ◌, true, false, ◌^◌, ◌<ℤ◌}
use Rattle.std.proofs.lemmas.Int.{ints}
use Rattle.std.proofs.lemmas.Nat.Gcd.{IsGcd-swap}
use Rattle.std.proofs.Math.IntN.{*ℤ_comm}
use Rattle.sm_frac.specs.Rational.{ℚ, zero_ℚ, fraction, fraction_same}
use Rattle.sm_frac.specs.Frac.{value_of, SumPasses, ProductPasses, signed_like}
use Rattle.sm_frac.specs.Lowest.{LowestTerms, IsBeyond}
use Rattle.sm_frac.specs.Passes.{Passes, LcmPasses}
use Rattle.sm_frac.specs.declared.fraction.Frac.{Frac}
use Rattle.sm_frac.specs.declared.operation.Op.{Op}
use Rattle.sm_frac.specs.declared.operation.Op.TheVariants.{Plus, Minus, Times, Over, Lcm}
use Rattle.sm_frac.proofs.OperationLemmas.{frac_same, sum_passes_not, product_passes_not, abs_above}
use Rattle.sm_frac.proofs.FracLemmas.{lowest_whole}
use Rattle.sm_certificate.specs.Fine.{IsFine}

moved4 : (P : ℤ → ℤ → ℤ → ℤ → Type 0) (a b c d a' b' c' d' : ℤ) → a ≡ a' → b ≡ b' → c ≡ c' → d ≡ d' → P a b c d → P a' b' c' d'
moved4 P a b c d a' b' c' d' ea eb ec ed h =
    subst (λ (x : ℤ). P a' b' c' x) ed (subst (λ (x : ℤ). P a' b' x d) ec (subst (λ (x : ℤ). P a' x c d) eb (subst (λ (x : ℤ). P x b c d) ea h)))

passes_by_parts : (op : Op) (f h f' h' : Frac) → f.n ≡ f'.n → f.d ≡ f'.d → h.n ≡ h'.n → h.d ≡ h'.d → Passes op f h → Passes op f' h'
passes_by_parts Plus f h f' h' a b c d = moved4 SumPasses f.n f.d h.n h.d f'.n f'.d h'.n h'.d a b c d
passes_by_parts Minus f h f' h' a b c d = moved4 (λ p q r s. SumPasses p q (neg_ℤ r) s) f.n f.d h.n h.d f'.n f'.d h'.n h'.d a b c d
passes_by_parts Times f h f' h' a b c d = moved4 ProductPasses f.n f.d h.n h.d f'.n f'.d h'.n h'.d a b c d
passes_by_parts Over f h f' h' a b c d = moved4 (λ p q r s. ProductPasses p q (signed_like r s) (pos (unsigned_abs r))) f.n f.d h.n h.d f'.n f'.d h'.n h'.d a b c d
passes_by_parts Lcm f h f' h' a b c d = moved4 (λ p q r s. LcmPasses p r) f.n f.d h.n h.d f'.n f'.d h'.n h'.d a b c d

-- whether an operation passes depends on the numbers alone
pub passes_moved : (op : Op) (f h f' h' : Frac) → value_of f ≡ value_of f' → value_of h ≡ value_of h' → Passes op f h → Passes op f' h'
passes_moved op f h f' h' ef eh =
    let a = frac_same f f' ef in
    let b = frac_same h h' eh in
    passes_by_parts op f h f' h' a.0 a.1 b.0 b.1

pub fine_of : (op : Op) (f h : Frac) → (Passes op f h → ⊥) → IsFine op (value_of f) (value_of h)
fine_of op f h never = record { fine = λ f' h' ef eh p. never (passes_moved op f' h' f h ef eh p) }

pub fine_moved : (op : Op) (x y x' y' : ℚ) → IsFine op x y → x ≡ x' → y ≡ y' → IsFine op x' y'
fine_moved op x y x' y' h ex ey = subst (λ (z : ℚ). IsFine op x' z) ey (subst (λ (z : ℚ). IsFine op z y) ex h)

-- ---- with 0 no operation passes
pub zero_frac : Frac
zero_frac = record { n = pos 0; d = pos 1; positive = omega (arith, ints); bounded = omega (arith, ints); small = omega (arith, ints); lowest = lowest_whole (pos 0) }

pub value_zero_frac : value_of zero_frac ≡ zero_ℚ
unfolding value_of zero_frac
value_zero_frac = refl

pub zero_parts : (f : Frac) → value_of f ≡ zero_ℚ → (f.n ≡ pos 0) × (f.d ≡ pos 1)
unfolding zero_frac
zero_parts f h = frac_same f zero_frac (h ∙ sym value_zero_frac)

pub value_of_zero : (f : Frac) → f.n ≡ pos 0 → value_of f ≡ zero_ℚ
unfolding value_of
value_of_zero f e = zero_over f.n f.d f.positive e
  where
    zero_over : (n d : ℤ) → pos 0 <ℤ d → n ≡ pos 0 → fraction n (unsigned_abs d) ≡ zero_ℚ
    zero_over n d h e = fraction_same n (pos 0) (unsigned_abs d) 1 (abs_above d h) (omega arith) (ap (λ (x : ℤ). x *ℤ pos 1) e ∙ omega (arith, ints))

times_one : (n : ℤ) → n *ℤ pos 1 ≡ n
times_one n = omega (arith, ints)

one_times : (n : ℤ) → pos 1 *ℤ n ≡ n
one_times n = *ℤ_comm (pos 1) n ∙ times_one n

zero_times : (n : ℤ) → pos 0 *ℤ n ≡ pos 0
zero_times n = omega (arith, ints)

times_zero : (n : ℤ) → n *ℤ pos 0 ≡ pos 0
times_zero n = *ℤ_comm n (pos 0) ∙ zero_times n

in_range : (x y : ℤ) → x ≡ y → unsigned_abs y < 2 ^ 127 → IsBeyond x → true ≡ false
in_range x y e low high = let same = ap unsigned_abs e in absurd (omega arith)

over_one : (n : ℤ) → LowestTerms n (pos 1) n (pos 1)
over_one n = record { same = refl; above = omega (arith, ints); lowest = lowest_whole n }

under_one : (d : ℤ) → pos 0 <ℤ d → LowestTerms (pos 1) d (pos 1) d
under_one d h = record { same = refl; above = h; lowest = record { apart = IsGcd-swap _ _ _ (lowest_whole d).apart } }

zero_over_one : (d : ℤ) → pos 0 <ℤ d → LowestTerms (pos 0) d (pos 0) (pos 1)
zero_over_one d h = record { same = zero_times d ∙ sym (zero_times (pos 1)); above = omega (arith, ints); lowest = lowest_whole (pos 0) }

abs_turned : (n : ℤ) → unsigned_abs (neg_ℤ n) ≡ unsigned_abs n
abs_turned n = omega (arith, ints)

nothing : true ≡ false → ⊥
nothing e = cc

-- the sum with 0 after
sum_zero : (f : Frac) (m e : ℤ) → m ≡ pos 0 → e ≡ pos 1 → SumPasses f.n f.d m e → ⊥
sum_zero f m e em ee s = nothing (sum_passes_not f.n f.d (pos 0) (pos 1) f.d (pos 1) (omega (arith, ints)) (over_one f.d)
    (in_range (f.n *ℤ pos 1) f.n (times_one f.n) f.bounded)
    (in_range (pos 0 *ℤ f.d) (pos 0) (zero_times f.d) (omega (arith, ints)))
    (in_range (f.n *ℤ pos 1 +ℤ pos 0 *ℤ f.d) f.n (ap (λ (x : ℤ). x +ℤ pos 0 *ℤ f.d) (times_one f.n) ∙ ap (λ (x : ℤ). f.n +ℤ x) (zero_times f.d) ∙ omega (arith, ints)) f.bounded)
    (in_range (f.d *ℤ pos 1) f.d (times_one f.d) f.small)
    (subst (λ (x : ℤ). SumPasses f.n f.d (pos 0) x) ee (subst (λ (x : ℤ). SumPasses f.n f.d x e) em s)))

-- the sum with 0 before
zero_sum : (n d m e : ℤ) → n ≡ pos 0 → d ≡ pos 1 → pos 0 <ℤ e → unsigned_abs m < 2 ^ 127 → unsigned_abs e < 2 ^ 127 → SumPasses n d m e → ⊥
zero_sum n d m e en ed he hm small s = nothing (sum_passes_not (pos 0) (pos 1) m e (pos 1) e he (under_one e he)
    (in_range (pos 0 *ℤ e) (pos 0) (zero_times e) (omega (arith, ints)))
    (in_range (m *ℤ pos 1) m (times_one m) hm)
    (in_range (pos 0 *ℤ e +ℤ m *ℤ pos 1) m (ap (λ (x : ℤ). x +ℤ m *ℤ pos 1) (zero_times e) ∙ ap (λ (x : ℤ). pos 0 +ℤ x) (times_one m) ∙ omega (arith, ints)) hm)
    (in_range (pos 1 *ℤ e) e (one_times e) small)
    (subst (λ (x : ℤ). SumPasses (pos 0) x m e) ed (subst (λ (x : ℤ). SumPasses x d m e) en s)))

zero_product : (n d m e : ℤ) → n ≡ pos 0 → d ≡ pos 1 → pos 0 <ℤ e → ProductPasses n d m e → ⊥
zero_product n d m e en ed he s = nothing (product_passes_not (pos 0) (pos 1) m e (pos 0) (pos 1) m (pos 1) (omega (arith, ints)) he (zero_over_one e he) (over_one m)
    (in_range (pos 0 *ℤ m) (pos 0) (zero_times m) (omega (arith, ints)))
    (in_range (pos 1 *ℤ pos 1) (pos 1) (times_one (pos 1)) (omega (arith, ints)))
    (subst (λ (x : ℤ). ProductPasses (pos 0) x m e) ed (subst (λ (x : ℤ). ProductPasses x d m e) en s)))

product_zero : (n d m e : ℤ) → m ≡ pos 0 → e ≡ pos 1 → pos 0 <ℤ d → ProductPasses n d m e → ⊥
product_zero n d m e em ee hd s = nothing (product_passes_not n d (pos 0) (pos 1) n (pos 1) (pos 0) (pos 1) hd (omega (arith, ints)) (over_one n) (zero_over_one d hd)
    (in_range (n *ℤ pos 0) (pos 0) (times_zero n) (omega (arith, ints)))
    (in_range (pos 1 *ℤ pos 1) (pos 1) (times_one (pos 1)) (omega (arith, ints)))
    (subst (λ (x : ℤ). ProductPasses n d (pos 0) x) ee (subst (λ (x : ℤ). ProductPasses n d x e) em s)))

pub times_zero_fine : (x y : ℚ) → x ≡ zero_ℚ → IsFine Times x y
times_zero_fine x y ex = record { fine = λ f h ef eh p. let z = zero_parts f (ef ∙ ex) in zero_product f.n f.d h.n h.d z.0 z.1 h.positive p }

pub zero_times_fine : (x y : ℚ) → y ≡ zero_ℚ → IsFine Times x y
zero_times_fine x y ey = record { fine = λ f h ef eh p. let z = zero_parts h (eh ∙ ey) in product_zero f.n f.d h.n h.d z.0 z.1 f.positive p }

pub minus_zero_fine : (x y : ℚ) → y ≡ zero_ℚ → IsFine Minus x y
minus_zero_fine x y ey = record { fine = λ f h ef eh p. let z = zero_parts h (eh ∙ ey) in sum_zero f (neg_ℤ h.n) h.d (ap neg_ℤ z.0) z.1 p }

pub plus_zero_fine : (x y : ℚ) → y ≡ zero_ℚ → IsFine Plus x y
plus_zero_fine x y ey = record { fine = λ f h ef eh p. let z = zero_parts h (eh ∙ ey) in sum_zero f h.n h.d z.0 z.1 p }

pub zero_minus_passes_not : (f h : Frac) → f.n ≡ pos 0 → f.d ≡ pos 1 → Passes Minus f h → ⊥
zero_minus_passes_not f h en ed p = zero_sum f.n f.d (neg_ℤ h.n) h.d en ed h.positive (let same = abs_turned h.n in let low = h.bounded in omega arith) h.small p

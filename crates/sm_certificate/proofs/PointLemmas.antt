-- The sums of a row and of the cost at a point.
use Rattle.std.proofs.Common.{◌≡◌, ℕ, ℤ, pos, suc, ◌<◌, ◌≤◌, ◌+◌, ◌*◌, ◌^◌, List, [], ◌∷◌, length, get_or, sym, ap, ◌∙◌, refl, arith, subst, ◌≢◌, unsigned_abs, inl, inr}
use Rattle.std.specs.Prelude.{◌≤ℤ◌, ◌<ℤ◌, ◌*ℤ◌, ◌+ℤ◌, ◌==◌, ◌⊎◌, if◌then◌else◌, All, IsTrue, not, true, false, Bool, ◌↔◌, slice_get, Some, Result, Ok, Err, IsErr, IfOk, IfErr}
use Rattle.std.proofs.lemmas.Bool.{cases_eq}
use Rattle.std.proofs.Math.Logic.{⊎_elim}
use Rattle.std.proofs.lemmas.Int.{ints, unsigned_abs-mul}
use Rattle.std.proofs.lemmas.List.{get_or_default, get_or_past}
use Rattle.std.proofs.lemmas.Option.{slice_get-get_or}
use Rattle.std.proofs.lemmas.List.Elements.{All-head, All-tail}
use Rattle.std.proofs.Math.IntN.{*ℤ_comm}
use Rattle.std.proofs.Math.Nat.{mul-le-mul_right}
use Rattle.sm_frac.specs.Rational.{ℚ, ◌+ℚ◌, ◌*ℚ◌, ◌≤ℚ◌, zero_ℚ, whole_ℚ, fraction, inverse, *ℚ-inverse, *ℚ-one, fraction_same}
use Rattle.sm_frac.specs.Frac.{value_of}
use Rattle.sm_frac.specs.Passes.{Passes}
use Rattle.sm_frac.specs.declared.fraction.Frac.{Frac}
use Rattle.sm_frac.specs.declared.operation.Op.{Op}
use Rattle.sm_frac.specs.declared.operation.Op.TheVariants.{Plus, Minus, Times, Over, Lcm}
use Rattle.sm_frac.specs.declared.operation.RangePassed.{RangePassed}
use Rattle.sm_frac.proofs.RationalRing.{ring}
use Rattle.sm_frac.proofs.Order.{le_equal}
use Rattle.sm_frac.proofs.OperationLemmas.{abs_above, fraction_cross}
use Rattle.sm_frac.proofs.CommonDenominator.{fraction_sum, fraction_scaled, fraction_le, whole_over}
use Rattle.sm_certificate.specs.declared.program.Program.{Program}
use Rattle.sm_certificate.specs.declared.program.LpRow.{LpRow}
use Rattle.sm_certificate.specs.Totals.{total}
use Rattle.sm_certificate.specs.Conditions.{IsTerm, IsProgramRow, IsSolvable}
use Rattle.sm_certificate.specs.Program.{column_count, coefficient, row_bound, SatisfiesRow, cost, cost_of, point_value}
use Rattle.sm_certificate.specs.Checking.{PassesAt, IsInside, IsBoxed, AreSmall, Meets, terms_value, term_column, term_number, IsProductStep, IsConstantStep, IsTermsStep, IsRowsStep, IsCostStep, IsValueStep}
use Rattle.sm_certificate.proofs.CertificateLemmas.{passes_at}
use Rattle.sm_certificate.specs.Fine.{IsFine, AreFine}
use Rattle.sm_certificate.proofs.FineLemmas.{value_of_zero, fine_of, fine_moved, times_zero_fine, zero_times_fine, plus_zero_fine}
use Rattle.sm_certificate.proofs.Totals.{total_front}
use Rattle.sm_certificate.proofs.Totals.{low_or_high}
use Rattle.sm_certificate.proofs.Totals.{total_same, total-sum, total-zero, total_split, without, without_at, without_off}
use Rattle.sm_certificate.proofs.Totals.{choose, choose_not}

-- ---- a sum in which one place alone counts
pub total_single : (n c : ℕ) (f : ℕ → ℚ) → c < n → ((j : ℕ) → j ≢ c → f j ≡ zero_ℚ) → total n f ≡ f c
total_single n c f h none =
    total_split n c f h
    ∙ ap (λ (z : ℚ). z +ℚ f c) (total-zero n (without c f) (λ j l. ⊎_elim (λ (e : j ≡ c). without_at c f j e) (λ (ne : j ≢ c). without_off c f j ne ∙ none j ne) (cases_eq j c)))
    ∙ zero_plus (f c)
  where
    zero_plus : (z : ℚ) → zero_ℚ +ℚ z ≡ z
    zero_plus z = simp ring

-- ---- a row's sum, term after term
one_term : (n : ℕ) (t : ℕ × ℤ) (x : ℕ → ℚ) → t.0 < n → total n (λ j. (if t.0 == j then whole_ℚ t.1 else zero_ℚ) *ℚ x j) ≡ whole_ℚ t.1 *ℚ x t.0
one_term n t x h =
    total_single n t.0 (λ j. (if t.0 == j then whole_ℚ t.1 else zero_ℚ) *ℚ x j) h (λ j ne. ap (λ (z : ℚ). z *ℚ x j) (choose_not t.0 j (whole_ℚ t.1) zero_ℚ (λ e. ne (sym e))) ∙ zero_times (x j))
    ∙ ap (λ (z : ℚ). z *ℚ x t.0) (choose t.0 t.0 (whole_ℚ t.1) zero_ℚ refl)
  where
    zero_times : (y : ℚ) → zero_ℚ *ℚ y ≡ zero_ℚ
    zero_times y = simp ring

pub row_sum : (n : ℕ) (terms : List (ℕ × ℤ)) (x : ℕ → ℚ) → All (IsTerm n) terms → total n (λ j. coefficient terms j *ℚ x j) ≡ terms_value terms x
unfolding coefficient total
row_sum n [] x h = total-zero n (λ j. zero_ℚ *ℚ x j) (λ j l. zero_times (x j)) ∙ sym (nothing x)
  where
    zero_times : (y : ℚ) → zero_ℚ *ℚ y ≡ zero_ℚ
    zero_times y = simp ring

    nothing : (x : ℕ → ℚ) → terms_value [] x ≡ zero_ℚ
    nothing x = refl
row_sum n (t ∷ ts) x h =
    let first = λ (j : ℕ). if t.0 == j then whole_ℚ t.1 else zero_ℚ in
    total_same n (λ j. (first j +ℚ coefficient ts j) *ℚ x j) (λ j. first j *ℚ x j +ℚ coefficient ts j *ℚ x j) (λ j l. spread (first j) (coefficient ts j) (x j))
    ∙ total-sum n (λ j. first j *ℚ x j) (λ j. coefficient ts j *ℚ x j)
    ∙ ap (λ (z : ℚ). z +ℚ total n (λ j. coefficient ts j *ℚ x j)) (one_term n t x (All-head (IsTerm n) t ts h).column)
    ∙ ap (λ (z : ℚ). whole_ℚ t.1 *ℚ x t.0 +ℚ z) (row_sum n ts x (All-tail (IsTerm n) t ts h))
    ∙ sym (total_front (length ts) (λ k. term_number (t ∷ ts) k *ℚ x (term_column (t ∷ ts) k)))
  where
    spread : (a b y : ℚ) → (a +ℚ b) *ℚ y ≡ a *ℚ y +ℚ b *ℚ y
    spread a b y = simp ring

-- ---- columns between their ends
pub ends_scaled : (a : ℤ) (d : ℤ) → unsigned_abs a ≤ 2 ^ 31 → pos 0 <ℤ d → d <ℤ pos (2 ^ 63) → unsigned_abs (a *ℤ d) < 2 ^ 94 + 1
ends_scaled a d h some small =
    let size = unsigned_abs-mul a d in
    let most : unsigned_abs a * unsigned_abs d ≤ 2 ^ 31 * unsigned_abs d = mul-le-mul_right (unsigned_abs d) h in
    let wide : unsigned_abs d < 2 ^ 63 = omega (arith, ints) in
    omega arith

at_positive : (d : ℤ) → pos 0 <ℤ d → pos (unsigned_abs d) ≡ d
at_positive d h = omega (arith, ints)

pub above_least : (a n d : ℤ) → pos 0 <ℤ d → (a *ℤ d) ≤ℤ n → whole_ℚ a ≤ℚ fraction n (unsigned_abs d)
above_least a n d h le =
    let some = abs_above d h in
    subst (λ (z : ℚ). z ≤ℚ fraction n (unsigned_abs d)) (sym (whole_over a (unsigned_abs d) some)) ((fraction_le (a *ℤ pos (unsigned_abs d)) n (unsigned_abs d) some).1 (subst (λ (e : ℤ). (a *ℤ e) ≤ℤ n) (sym (at_positive d h)) le))

pub from_above_least : (a n d : ℤ) → pos 0 <ℤ d → whole_ℚ a ≤ℚ fraction n (unsigned_abs d) → (a *ℤ d) ≤ℤ n
from_above_least a n d h le =
    let some = abs_above d h in
    subst (λ (e : ℤ). (a *ℤ e) ≤ℤ n) (at_positive d h) ((fraction_le (a *ℤ pos (unsigned_abs d)) n (unsigned_abs d) some).0 (subst (λ (z : ℚ). z ≤ℚ fraction n (unsigned_abs d)) (whole_over a (unsigned_abs d) some) le))

pub below_greatest : (a n d : ℤ) → pos 0 <ℤ d → n ≤ℤ (a *ℤ d) → fraction n (unsigned_abs d) ≤ℚ whole_ℚ a
below_greatest a n d h le =
    let some = abs_above d h in
    subst (λ (z : ℚ). fraction n (unsigned_abs d) ≤ℚ z) (sym (whole_over a (unsigned_abs d) some)) ((fraction_le n (a *ℤ pos (unsigned_abs d)) (unsigned_abs d) some).1 (subst (λ (e : ℤ). n ≤ℤ (a *ℤ e)) (sym (at_positive d h)) le))

pub from_below_greatest : (a n d : ℤ) → pos 0 <ℤ d → fraction n (unsigned_abs d) ≤ℚ whole_ℚ a → n ≤ℤ (a *ℤ d)
from_below_greatest a n d h le =
    let some = abs_above d h in
    subst (λ (e : ℤ). n ≤ℤ (a *ℤ e)) (at_positive d h) ((fraction_le n (a *ℤ pos (unsigned_abs d)) (unsigned_abs d) some).0 (subst (λ (z : ℚ). fraction n (unsigned_abs d) ≤ℚ z) (whole_over a (unsigned_abs d) some) le))

-- the numerators of a point between its ends are in range
pub boxed_small : (p : Program) (denominator : ℤ) (point : List ℤ) → IsSolvable p → denominator <ℤ pos (2 ^ 63) → IsBoxed p denominator point → AreSmall point
boxed_small p denominator point s wide b = record {
  small = λ j. ⊎_elim
      (λ (l : j < length point).
      let inside : j < column_count p = (let n = b.long in omega arith) in
      let ends = get_or p.columns j (pos 0, pos 0) in
      let box = s.boxes j (pos 0, pos 0) inside in
      let here = b.inside.each j inside in
      let low = from_above_least ends.0 (get_or point j (pos 0)) denominator b.above here.least in
      let high = from_below_greatest ends.1 (get_or point j (pos 0)) denominator b.above here.greatest in
      within (ends.0 *ℤ denominator) (get_or point j (pos 0)) (ends.1 *ℤ denominator) low high (ends_scaled ends.0 denominator box.least b.above wide) (ends_scaled ends.1 denominator box.greatest b.above wide))
      (λ (l : length point ≤ j). subst (λ (z : ℤ). unsigned_abs z < 2 ^ 127) (sym (get_or_past point j (pos 0) l)) (omega arith))
      (low_or_high j (length point));
}
  where
    within : (x n y : ℤ) → x ≤ℤ n → n ≤ℤ y → unsigned_abs x < 2 ^ 94 + 1 → unsigned_abs y < 2 ^ 94 + 1 → unsigned_abs n < 2 ^ 127
    within x n y lo hi a c = omega (arith, ints)

-- ---- one term more
pub quick_more : (s n m r : ℤ) (e : ℕ) → 0 < e → r ≡ s +ℤ n *ℤ m → fraction r e ≡ fraction s e +ℚ whole_ℚ n *ℚ fraction m e
quick_more s n m r e some is =
    ap (λ (z : ℤ). fraction z e) is ∙ sym (fraction_sum s (n *ℤ m) e some) ∙ ap (λ (z : ℚ). fraction s e +ℚ z) (sym (fraction_scaled n m e some))

pub total_more : (k : ℕ) (f : ℕ → ℚ) (s r v : ℚ) → s ≡ total k f → v ≡ f k → r ≡ s +ℚ v → r ≡ total (k + 1) f
unfolding total
total_more k f s r v es ev er = er ∙ ap (λ (z : ℚ). z +ℚ v) es ∙ ap (λ (z : ℚ). total k f +ℚ z) ev ∙ next k f
  where
    suc_is : (k : ℕ) → suc k ≡ k + 1
    suc_is k = omega arith

    next : (k : ℕ) (f : ℕ → ℚ) → total k f +ℚ f k ≡ total (k + 1) f
    next k f = subst (λ (m : ℕ). total k f +ℚ f k ≡ total m f) (suc_is k) refl

pub total_start : (s : ℚ) (f : ℕ → ℚ) → s ≡ zero_ℚ → s ≡ total 0 f
unfolding total
total_start s f e = e

pub zero_fraction : (e : ℕ) → 0 < e → fraction (pos 0) e ≡ zero_ℚ
zero_fraction e some = fraction_same (pos 0) (pos 0) e 1 some (omega arith) (omega (arith, ints))

-- ---- a column's value
not_zero : (d : ℤ) → pos 0 <ℤ d → whole_ℚ d ≡ zero_ℚ → ⊥
not_zero d h e = let same = fraction_cross d (pos 0) 1 1 (omega arith) (omega arith) e in omega (arith, ints)

pub quotient_is : (n d : ℤ) → pos 0 <ℤ d → whole_ℚ n *ℚ inverse (whole_ℚ d) ≡ fraction n (unsigned_abs d)
quotient_is n d h =
    ap (λ (z : ℚ). z *ℚ inverse (whole_ℚ d)) (whole_over n (unsigned_abs d) (abs_above d h) ∙ ap (λ (m : ℤ). fraction m (unsigned_abs d)) (turn n d h) ∙ sym (fraction_scaled d n (unsigned_abs d) (abs_above d h)))
    ∙ group (whole_ℚ d) (fraction n (unsigned_abs d)) (inverse (whole_ℚ d))
    ∙ ap (λ (z : ℚ). fraction n (unsigned_abs d) *ℚ z) (*ℚ-inverse (whole_ℚ d) (not_zero d h))
    ∙ *ℚ-one (fraction n (unsigned_abs d))
  where
    group : (a b c : ℚ) → a *ℚ b *ℚ c ≡ b *ℚ (a *ℚ c)
    group a b c = simp ring

    turn : (n d : ℤ) → pos 0 <ℤ d → n *ℤ pos (unsigned_abs d) ≡ d *ℤ n
    turn n d h = ap (λ (e : ℤ). n *ℤ e) (at_positive d h) ∙ *ℤ_comm n d

pub coordinate_value : (res : Result Frac RangePassed) (f g : Frac) (n d : ℤ) → pos 0 <ℤ d → value_of f ≡ whole_ℚ n → value_of g ≡ whole_ℚ d → IfOk res (λ r. value_of r ≡ value_of f *ℚ inverse (value_of g)) → IfOk res (λ r. value_of r ≡ fraction n (unsigned_abs d))
coordinate_value (Ok r) f g n d h ef eg is = is ∙ ap (λ (z : ℚ). z *ℚ inverse (value_of g)) ef ∙ ap (λ (z : ℚ). whole_ℚ n *ℚ inverse z) eg ∙ quotient_is n d h
coordinate_value (Err e) f g n d h ef eg is = tt

pub coordinate_passed : (res : Result Frac RangePassed) (f g : Frac) (n d : ℤ) → value_of f ≡ whole_ℚ n → value_of g ≡ whole_ℚ d → (IsErr res → Passes Over f g) → IfErr res (λ e. e ≡ record { op = Over; left = f; right = g }) → IfErr res (λ e. PassesAt (IsValueStep n d) e.op e.left e.right)
coordinate_passed (Ok r) f g n d ef eg p is = tt
coordinate_passed (Err e) f g n d ef eg p is = passes_at (IsValueStep n d) Over f g e is (p refl) (record { operation = refl; left_is = ef; right_is = eg })

-- ---- products that stay in range
pub product_fine : (s a b : ℚ) → IsFine Times a b → IsFine Plus s (a *ℚ b) → AreFine (IsProductStep s a b)
product_fine s a b t p Times x y h = fine_moved Times a b x y t (sym h.0) (sym h.1)
product_fine s a b t p Plus x y h = fine_moved Plus s (a *ℚ b) x y p (sym h.0) (sym h.1)
product_fine s a b t p Minus x y h = absurd h
product_fine s a b t p Over x y h = absurd h
product_fine s a b t p Lcm x y h = absurd h

pub zero_product_fine : (s a b : ℚ) → a ≡ zero_ℚ → AreFine (IsProductStep s a b)
zero_product_fine s a b e = product_fine s a b (times_zero_fine a b e) (plus_zero_fine s (a *ℚ b) (ap (λ (z : ℚ). z *ℚ b) e ∙ tidy b))
  where
    tidy : (b : ℚ) → zero_ℚ *ℚ b ≡ zero_ℚ
    tidy b = simp ring

pub product_zero_fine : (s a b : ℚ) → b ≡ zero_ℚ → AreFine (IsProductStep s a b)
product_zero_fine s a b e = product_fine s a b (zero_times_fine a b e) (plus_zero_fine s (a *ℚ b) (ap (λ (z : ℚ). a *ℚ z) e ∙ tidy a))
  where
    tidy : (a : ℚ) → a *ℚ zero_ℚ ≡ zero_ℚ
    tidy a = simp ring

pub products_moved : (s a b s' a' b' : ℚ) → s ≡ s' → a ≡ a' → b ≡ b' → AreFine (IsProductStep s a b) → AreFine (IsProductStep s' a' b')
products_moved s a b s' a' b' es ea eb h = subst (λ (z : ℚ). AreFine (IsProductStep s' a' z)) eb (subst (λ (z : ℚ). AreFine (IsProductStep s' z b)) ea (subst (λ (z : ℚ). AreFine (IsProductStep z a b)) es h))

pub sum_fine : (res : Result Frac RangePassed) (s a b product : Frac) → (Passes Times a b → ⊥) → value_of product ≡ value_of a *ℚ value_of b → (Passes Plus s product → IsErr res) → IfOk res (λ r. AreFine (IsProductStep (value_of s) (value_of a) (value_of b)))
sum_fine (Ok r) s a b product times e plus = product_fine (value_of s) (value_of a) (value_of b) (fine_of Times a b times) (fine_moved Plus (value_of s) (value_of product) (value_of s) (value_of a *ℚ value_of b) (fine_of Plus s product (λ p. absurd (let no = plus p in cc))) refl e)
sum_fine (Err x) s a b product times e plus = tt

-- ---- a product more
pub product_none : (s a b : ℚ) → a ≡ zero_ℚ → s ≡ s +ℚ a *ℚ b
product_none s a b e = none s b ∙ ap (λ (z : ℚ). s +ℚ z *ℚ b) (sym e)
  where
    none : (s b : ℚ) → s ≡ s +ℚ zero_ℚ *ℚ b
    none s b = simp ring

pub other_none : (s a b : ℚ) → b ≡ zero_ℚ → s ≡ s +ℚ a *ℚ b
other_none s a b e = none s a ∙ ap (λ (z : ℚ). s +ℚ a *ℚ z) (sym e)
  where
    none : (s a : ℚ) → s ≡ s +ℚ a *ℚ zero_ℚ
    none s a = simp ring

pub sum_exact : (res : Result Frac RangePassed) (s a b product : Frac) → value_of product ≡ value_of a *ℚ value_of b → IfOk res (λ r. value_of r ≡ value_of s +ℚ value_of product) → IfOk res (λ r. value_of r ≡ value_of s +ℚ value_of a *ℚ value_of b)
sum_exact (Ok r) s a b product e is = is ∙ ap (λ (z : ℚ). value_of s +ℚ z) e
sum_exact (Err x) s a b product e is = tt

pub sum_passed : (res : Result Frac RangePassed) (s a b product : Frac) → value_of product ≡ value_of a *ℚ value_of b → (IsErr res → Passes Plus s product) → IfErr res (λ e. e ≡ record { op = Plus; left = s; right = product }) → IfErr res (λ e. PassesAt (IsProductStep (value_of s) (value_of a) (value_of b)) e.op e.left e.right)
sum_passed (Ok r) s a b product e p is = tt
sum_passed (Err x) s a b product e p is = passes_at (IsProductStep (value_of s) (value_of a) (value_of b)) Plus s product x is (p refl) (refl, e)

pub product_moved : (s a b s' a' b' : ℚ) (op : Op) (f h : Frac) → s ≡ s' → a ≡ a' → b ≡ b' → PassesAt (IsProductStep s a b) op f h → PassesAt (IsProductStep s' a' b') op f h
product_moved s a b s' a' b' op f h es ea eb p = subst (λ (z : ℚ). PassesAt (IsProductStep s' a' z) op f h) eb (subst (λ (z : ℚ). PassesAt (IsProductStep s' z b) op f h) ea (subst (λ (z : ℚ). PassesAt (IsProductStep z a b) op f h) es p))

-- a column's value as a step of the code
abbrev pub IsOneStep : ℚ → ℚ → ℤ → ℤ → Op → ℚ → ℚ → Type 0
IsOneStep s a numerator denominator op x y = IsValueStep numerator denominator op x y ⊎ IsProductStep s a (fraction numerator (unsigned_abs denominator)) op x y

pub value_passed : (s a : ℚ) (numerator denominator : ℤ) (op : Op) (f h : Frac) → PassesAt (IsValueStep numerator denominator) op f h → PassesAt (IsOneStep s a numerator denominator) op f h
value_passed s a numerator denominator op f h p = record { step = inl p.step; passes = p.passes }

pub value_more : (res : Result Frac RangePassed) (s : ℚ) (a b : Frac) (n : ℤ) (x : ℚ) → value_of a ≡ whole_ℚ n → value_of b ≡ x → IfOk res (λ r. value_of r ≡ s +ℚ value_of a *ℚ value_of b) → IfOk res (λ r. value_of r ≡ s +ℚ whole_ℚ n *ℚ x)
value_more (Ok r) s a b n x ea eb is = is ∙ ap (λ (z : ℚ). s +ℚ z *ℚ value_of b) ea ∙ ap (λ (z : ℚ). s +ℚ whole_ℚ n *ℚ z) eb
value_more (Err e) s a b n x ea eb is = tt

pub value_product_passed : (res : Result Frac RangePassed) (s : ℚ) (a b : Frac) (n numerator denominator : ℤ) → value_of a ≡ whole_ℚ n → value_of b ≡ fraction numerator (unsigned_abs denominator) → IfErr res (λ e. PassesAt (IsProductStep s (value_of a) (value_of b)) e.op e.left e.right) → IfErr res (λ e. PassesAt (IsOneStep s (whole_ℚ n) numerator denominator) e.op e.left e.right)
value_product_passed (Ok r) s a b n numerator denominator ea eb is = tt
value_product_passed (Err e) s a b n numerator denominator ea eb is =
    let p = product_moved s (value_of a) (value_of b) s (whole_ℚ n) (fraction numerator (unsigned_abs denominator)) e.op e.left e.right refl ea eb is in
    record { step = inr p.step; passes = p.passes }

-- ---- the sums' steps
pub term_at : (terms : List (ℕ × ℤ)) (i : ℕ) (t : ℕ × ℤ) → i < length terms → t ≡ get_or terms i t → t ≡ get_or terms i (0, pos 0)
term_at terms i t l e = e ∙ get_or_default terms i t (0, pos 0) l

pub terms_passed : (terms : List (ℕ × ℤ)) (point : List ℤ) (denominator : ℤ) (i : ℕ) (t : ℕ × ℤ) (s : ℚ) (op : Op) (f h : Frac) → i < length terms → t ≡ get_or terms i (0, pos 0) → t.0 < length point → s ≡ total i (λ k. term_number terms k *ℚ point_value point denominator (term_column terms k))
    → PassesAt (IsOneStep s (whole_ℚ t.1) (get_or point t.0 (pos 0)) denominator) op f h → PassesAt (IsTermsStep terms point denominator) op f h
terms_passed terms point denominator i t s op f h l e column es p = record {
  step = ⊎_elim
      (λ (v : IsValueStep (get_or point t.0 (pos 0)) denominator op (value_of f) (value_of h)). inl (t.0, column, v))
      (λ (v : IsProductStep s (whole_ℚ t.1) (fraction (get_or point t.0 (pos 0)) (unsigned_abs denominator)) op (value_of f) (value_of h)).
      inr (
        i,
        l,
        subst (λ (u : ℕ × ℤ). IsProductStep (total i (λ k. term_number terms k *ℚ point_value point denominator (term_column terms k))) (whole_ℚ u.1) (point_value point denominator u.0) op (value_of f) (value_of h)) e
            (subst (λ (z : ℚ). IsProductStep z (whole_ℚ t.1) (point_value point denominator t.0) op (value_of f) (value_of h)) es v),
      ))
      p.step;
  passes = p.passes;
}

pub cost_passed : (p : Program) (constant : ℤ) (point : List ℤ) (denominator : ℤ) (j : ℕ) (s : ℚ) (op : Op) (f h : Frac) → j < length point → j < column_count p → s ≡ total j (λ k. cost p k *ℚ point_value point denominator k)
    → PassesAt (IsOneStep s (cost p j) (get_or point j (pos 0)) denominator) op f h → PassesAt (IsCostStep p constant point denominator) op f h
cost_passed p constant point denominator j s op f h l m es q = record {
  step = ⊎_elim
      (λ (v : IsValueStep (get_or point j (pos 0)) denominator op (value_of f) (value_of h)). inl (j, l, v))
      (λ (v : IsProductStep s (cost p j) (fraction (get_or point j (pos 0)) (unsigned_abs denominator)) op (value_of f) (value_of h)).
      inr (inl (j, m, subst (λ (z : ℚ). IsProductStep z (cost p j) (point_value point denominator j) op (value_of f) (value_of h)) es v)))
      q.step;
  passes = q.passes;
}

pub cost_sum : (p : Program) (point : List ℤ) (denominator : ℤ) (j : ℕ) (s : ℚ) → j ≡ column_count p → s ≡ total j (λ k. cost p k *ℚ point_value point denominator k) → s ≡ cost_of p (point_value point denominator)
cost_sum p point denominator j s e is = is ∙ ap (λ (n : ℕ). total n (λ k. cost p k *ℚ point_value point denominator k)) e

pub cost_exact : (p : Program) (constant : ℤ) (point : List ℤ) (denominator : ℤ) (s : ℚ) (res : Result Frac RangePassed) → s ≡ cost_of p (point_value point denominator) → IfOk res (λ f. value_of f ≡ s +ℚ whole_ℚ constant) → IfOk res (λ f. value_of f ≡ cost_of p (point_value point denominator) +ℚ whole_ℚ constant)
cost_exact p constant point denominator s (Ok r) es is = is ∙ ap (λ (z : ℚ). z +ℚ whole_ℚ constant) es
cost_exact p constant point denominator s (Err e) es is = tt

pub cost_constant_passed : (p : Program) (constant : ℤ) (point : List ℤ) (denominator : ℤ) (s : ℚ) (res : Result Frac RangePassed) → s ≡ cost_of p (point_value point denominator) → IfErr res (λ e. PassesAt (IsConstantStep s (Some constant)) e.op e.left e.right) → IfErr res (λ e. PassesAt (IsCostStep p constant point denominator) e.op e.left e.right)
cost_constant_passed p constant point denominator s (Ok r) es is = tt
cost_constant_passed p constant point denominator s (Err e) es is = record { step = inr (inr (subst (λ (z : ℚ). IsConstantStep z (Some constant) e.op (value_of e.left) (value_of e.right)) es is.step)); passes = is.passes }

pub row_at : (rows : List LpRow) (i : ℕ) (row : LpRow) → i < length rows → row ≡ get_or rows i row → slice_get rows i ≡ Some row
row_at rows i row l e = slice_get-get_or rows i row l ∙ ap (λ (r : LpRow). Some r) (sym e)

pub rows_passed : (rows : List LpRow) (point : List ℤ) (denominator : ℤ) (i : ℕ) (row : LpRow) (op : Op) (f h : Frac) → i < length rows → row ≡ get_or rows i row → PassesAt (IsTermsStep row.terms point denominator) op f h → PassesAt (IsRowsStep rows point denominator) op f h
rows_passed rows point denominator i row op f h l e p = record { step = (i, row, row_at rows i row l e, p.step); passes = p.passes }

-- ---- whether a sum meets its row
same_fraction : (s b d : ℤ) → pos 0 <ℤ d → s ≡ b *ℤ d → fraction s (unsigned_abs d) ≡ whole_ℚ b
same_fraction s b d h e =
    ap (λ (m : ℤ). fraction m (unsigned_abs d)) (e ∙ ap (λ (k : ℤ). b *ℤ k) (sym (at_positive d h))) ∙ sym (whole_over b (unsigned_abs d) (abs_above d h))

times_one : (s : ℤ) → s *ℤ pos 1 ≡ s
times_one s = omega (arith, ints)

pub meets_same : (row : LpRow) (s d : ℤ) → pos 0 <ℤ d → s *ℤ pos 1 ≡ row.bound *ℤ d → Meets row (fraction s (unsigned_abs d))
meets_same row s d h e =
    let is = same_fraction s row.bound d h (sym (times_one s) ∙ e) in
    record { least = le_equal (whole_ℚ row.bound) (fraction s (unsigned_abs d)) (sym is); same = λ q. is }

pub meets_less : (row : LpRow) (s d : ℤ) → pos 0 <ℤ d → (s *ℤ pos 1) <ℤ (row.bound *ℤ d) → Meets row (fraction s (unsigned_abs d)) → ⊥
meets_less row s d h lt m = let le = from_above_least row.bound s d h m.least in let one = times_one s in against s (s *ℤ pos 1) (row.bound *ℤ d) one lt le
  where
    against : (s t b : ℤ) → t ≡ s → t <ℤ b → b ≤ℤ s → ⊥
    against s t b e lt le = omega (arith, ints)

pub meets_greater : (row : LpRow) (s d : ℤ) → pos 0 <ℤ d → (row.bound *ℤ d) <ℤ (s *ℤ pos 1) → row.equal ≡ false → Meets row (fraction s (unsigned_abs d))
meets_greater row s d h lt e = record {
  least = above_least row.bound s d h (let one = times_one s in weaken s (s *ℤ pos 1) (row.bound *ℤ d) one lt);
  same = λ q. absurd (cc);
}
  where
    weaken : (s t b : ℤ) → t ≡ s → b <ℤ t → b ≤ℤ s
    weaken s t b e lt = omega (arith, ints)

pub meets_not : (row : LpRow) (s d : ℤ) → pos 0 <ℤ d → (row.bound *ℤ d) <ℤ (s *ℤ pos 1) → row.equal ≡ true → Meets row (fraction s (unsigned_abs d)) → ⊥
meets_not row s d h lt e m =
    let le = from_below_greatest row.bound s d h (le_equal (fraction s (unsigned_abs d)) (whole_ℚ row.bound) (m.same e)) in
    let one = times_one s in
    against s (s *ℤ pos 1) (row.bound *ℤ d) one lt le
  where
    against : (s t b : ℤ) → t ≡ s → b <ℤ t → s ≤ℤ b → ⊥
    against s t b e lt le = omega (arith, ints)

pub row_meets : (n : ℕ) (row : LpRow) (x : ℕ → ℚ) (v : ℚ) → IsProgramRow n row → v ≡ terms_value row.terms x → Meets row v ↔ SatisfiesRow n x row
row_meets n row x v h e =
    let is = e ∙ sym (row_sum n row.terms x h.terms) in (
      λ m. (subst (λ (z : ℚ). row_bound row ≤ℚ z) is m.least, λ q. sym is ∙ m.same q),
      λ s. record { least = subst (λ (z : ℚ). row_bound row ≤ℚ z) (sym is) s.0; same = λ q. is ∙ s.1 q },
    )

pub meets_tested : (row : LpRow) (s d : ℤ) (e : Bool) → pos 0 <ℤ d → (row.bound *ℤ d) <ℤ (s *ℤ pos 1) → row.equal ≡ e → (IsTrue (not e) → Meets row (fraction s (unsigned_abs d))) × (Meets row (fraction s (unsigned_abs d)) → IsTrue (not e))
meets_tested row s d true h lt e = (λ t. absurd (cc), λ m. absurd (meets_not row s d h lt e m))
meets_tested row s d false h lt e = (λ t. meets_greater row s d h lt e, λ m. refl)

pub zero_value : (s a : ℚ) (n d : ℤ) → pos 0 <ℤ d → n ≡ pos 0 → s ≡ s +ℚ a *ℚ fraction n (unsigned_abs d)
zero_value s a n d h e = other_none s a (fraction n (unsigned_abs d)) (same_fraction n (pos 0) d h (e ∙ zero_is d))
  where
    zero_is : (d : ℤ) → pos 0 ≡ pos 0 *ℤ d
    zero_is d = omega (arith, ints)

-- ---- a value between two ends, by the scaled ends
pub inside_low : (ends : ℤ × ℤ) (n d : ℤ) → pos 0 <ℤ d → n <ℤ (ends.0 *ℤ d) → IsInside ends (fraction n (unsigned_abs d)) → ⊥
inside_low ends n d h lt i = let le = from_above_least ends.0 n d h i.least in against n (ends.0 *ℤ d) lt le
  where
    against : (n b : ℤ) → n <ℤ b → b ≤ℤ n → ⊥
    against n b lt le = omega (arith, ints)

pub inside_yes : (ends : ℤ × ℤ) (n d : ℤ) → pos 0 <ℤ d → (ends.0 *ℤ d) ≤ℤ n → n ≤ℤ (ends.1 *ℤ d) → IsInside ends (fraction n (unsigned_abs d))
inside_yes ends n d h lo hi = record { least = above_least ends.0 n d h lo; greatest = below_greatest ends.1 n d h hi }

pub inside_high : (ends : ℤ × ℤ) (n d : ℤ) → pos 0 <ℤ d → IsInside ends (fraction n (unsigned_abs d)) → n ≤ℤ (ends.1 *ℤ d)
inside_high ends n d h i = from_below_greatest ends.1 n d h i.greatest

pub cost_here : (p : Program) (costs : List ℤ) (j : ℕ) → costs ≡ p.cost → whole_ℚ (get_or costs j (pos 0)) ≡ cost p j
unfolding cost
cost_here p costs j e = ap (λ (xs : List ℤ). whole_ℚ (get_or xs j (pos 0))) e

pub cost_small : (p : Program) (costs : List ℤ) (j : ℕ) → IsSolvable p → j < length p.cost → costs ≡ p.cost → unsigned_abs (get_or costs j (pos 0)) ≤ 2 ^ 42
cost_small p costs j s l e = subst (λ (xs : List ℤ). unsigned_abs (get_or xs j (pos 0)) ≤ 2 ^ 42) (sym e) (s.small_costs j (pos 0) l)

-- where the sum in whole numbers was had
pub row_quick : (row : LpRow) (point : List ℤ) (denominator s : ℤ) → pos 0 <ℤ denominator → ((e : ℕ) → 0 < e → fraction s e ≡ terms_value row.terms (point_value point (pos e))) → fraction s (unsigned_abs denominator) ≡ terms_value row.terms (point_value point denominator)
row_quick row point denominator s h is = is (unsigned_abs denominator) (abs_above denominator h)

-- ---- whether a row holds
pub quick_holds : (row : LpRow) (point : List ℤ) (denominator s : ℤ) (terms : List (ℕ × ℤ)) (b : Bool) → IsProgramRow (length point) row → pos 0 <ℤ denominator → terms ≡ row.terms → ((e : ℕ) → 0 < e → fraction s e ≡ terms_value terms (point_value point (pos e)))
    → (IsTrue b ↔ Meets row (fraction s (unsigned_abs denominator))) → IsTrue b ↔ SatisfiesRow (length point) (point_value point denominator) row
quick_holds row point denominator s terms b h some et is m =
    let v = is (unsigned_abs denominator) (abs_above denominator some) ∙ ap (λ (ts : List (ℕ × ℤ)). terms_value ts (point_value point denominator)) et in
    let iff = row_meets (length point) row (point_value point denominator) (fraction s (unsigned_abs denominator)) h v in
    (λ t. iff.0 (m.0 t), λ a. m.1 (iff.1 a))

pub exact_holds : (row : LpRow) (point : List ℤ) (denominator : ℤ) (f : Frac) (n d : ℤ) (terms : List (ℕ × ℤ)) (b : Bool) → IsProgramRow (length point) row → terms ≡ row.terms → value_of f ≡ terms_value terms (point_value point denominator) → n ≡ f.n → d ≡ f.d
    → (IsTrue b ↔ Meets row (fraction n (unsigned_abs d))) → IsTrue b ↔ SatisfiesRow (length point) (point_value point denominator) row
unfolding value_of
exact_holds row point denominator f n d terms b h et is en ed m =
    let v = ap (λ (z : ℤ). fraction z (unsigned_abs d)) en ∙ ap (λ (z : ℤ). fraction f.n (unsigned_abs z)) ed ∙ is ∙ ap (λ (ts : List (ℕ × ℤ)). terms_value ts (point_value point denominator)) et in
    let iff = row_meets (length point) row (point_value point denominator) (fraction n (unsigned_abs d)) h v in
    (λ t. iff.0 (m.0 t), λ a. m.1 (iff.1 a))

pub not_whole_zero : (f : Frac) (d : ℤ) → pos 0 <ℤ d → value_of f ≡ whole_ℚ d → f.n ≡ pos 0 → ⊥
not_whole_zero f d h e z = not_zero d h (sym e ∙ value_of_zero f z)

-- The columns' values, and the least common multiple of their denominators.
use Rattle.std.proofs.Common.{◌≡◌, ℕ, ℤ, pos, ◌<◌, ◌≤◌, ◌≢◌, ◌+◌, ◌-◌, ◌*◌, ◌/◌, ◌^◌, List, length, get_or, set, sym, ap, ◌∙◌, refl, arith, subst, inl, inr, unsigned_abs, Result, Ok, Err}
use Rattle.std.specs.Prelude.{◌⊎◌, ◌≤ℤ◌, ◌<ℤ◌, IfOk, IfErr, IsErr, All}
use Rattle.std.specs.Int.{◌∣◌}
use Rattle.std.proofs.lemmas.List.{get_or_default}
use Rattle.std.proofs.lemmas.Bool.{cases_eq}
use Rattle.std.proofs.lemmas.Int.{ints}
use Rattle.std.proofs.Math.Logic.{⊎_elim}
use Rattle.std.proofs.Math.Nat.{div-mul_cancel}
use Rattle.std.proofs.lemmas.Nat.Gcd.{le_of_dvd}
use Rattle.sm_frac.specs.Rational.{ℚ, ◌+ℚ◌, whole_ℚ}
use Rattle.sm_frac.specs.Frac.{value_of}
use Rattle.sm_frac.specs.Lowest.{IsLeastMultiple}
use Rattle.sm_frac.specs.Passes.{Passes, LcmPasses}
use Rattle.sm_frac.specs.declared.fraction.Frac.{Frac}
use Rattle.sm_frac.specs.declared.operation.Op.TheVariants.{Plus, Lcm}
use Rattle.sm_frac.specs.declared.operation.RangePassed.{RangePassed}
use Rattle.sm_frac.proofs.FracLemmas.{lowest_whole}
use Rattle.sm_frac.proofs.OperationLemmas.{frac_same}
use Rattle.sm_frac.proofs.Multiples.{one_multiple}
use Rattle.sm_certificate.specs.declared.program.Program.{Program}
use Rattle.sm_certificate.specs.Conditions.{IsBox}
use Rattle.sm_lp.specs.Dictionary.{Dictionary}
use Rattle.sm_certificate.specs.Program.{column_count, low}
use Rattle.sm_certificate.specs.Numbers.{number_at}
use Rattle.sm_lp.specs.Steps.{constant_of, column_value, natural_ℚ, JoinsBy}
use Rattle.sm_certificate.specs.Fine.{IsFine}
use Rattle.sm_lp.specs.Ending.{IsValuePassed, IsJoined, IsJoinPassed}
use Rattle.sm_certificate.proofs.NumberLemmas.{number_at-set_same, number_at-set_other}
use Rattle.sm_certificate.proofs.FineLemmas.{fine_of, fine_moved}

pub values_more : (p : Program) (d : Dictionary) (j : ℕ) (values : List Frac) (x y z : Frac) → j < length values → value_of x ≡ low p j → value_of y ≡ constant_of d (column_count p) j → value_of z ≡ value_of x +ℚ value_of y → (Passes Plus x y → ⊥)
    → ((k : ℕ) → k < j → number_at values k ≡ column_value p d k) → ((k : ℕ) → k < j → IsFine Plus (low p k) (constant_of d (column_count p) k))
    → ((k : ℕ) → k < j + 1 → number_at (set values j z) k ≡ column_value p d k) × ((k : ℕ) → k < j + 1 → IsFine Plus (low p k) (constant_of d (column_count p) k))
values_more p d j values x y z inside ex ey ez never exact fine = (
  λ k l. ⊎_elim
      (λ (e : k ≡ j). subst (λ (i : ℕ). number_at (set values j z) i ≡ column_value p d i) (sym e) (number_at-set_same values j z inside ∙ ez ∙ ap (λ (q : ℚ). q +ℚ value_of y) ex ∙ ap (λ (q : ℚ). low p j +ℚ q) ey))
      (λ (ne : k ≢ j). number_at-set_other values j z k ne ∙ exact k (omega arith)) (cases_eq k j),
  λ k l. ⊎_elim
      (λ (e : k ≡ j). subst (λ (i : ℕ). IsFine Plus (low p i) (constant_of d (column_count p) i)) (sym e) (fine_moved Plus (value_of x) (value_of y) (low p j) (constant_of d (column_count p) j) (fine_of Plus x y never) ex ey))
      (λ (ne : k ≢ j). fine k (omega arith)) (cases_eq k j),
)

pub low_value : (p : Program) (j : ℕ) (f : Frac) (t : ℤ × ℤ) → j < length p.columns → t ≡ get_or p.columns j t → value_of f ≡ whole_ℚ t.0 → value_of f ≡ low p j
unfolding low
low_value p j f t inside at is = is ∙ ap (λ (x : ℤ × ℤ). whole_ℚ x.0) (at ∙ get_or_default p.columns j t (pos 0, pos 0) inside)

pub low_small : (p : Program) (j : ℕ) (t : ℤ × ℤ) → j < length p.columns → t ≡ get_or p.columns j t → All IsBox p.columns → unsigned_abs t.0 ≤ 2 ^ 31
low_small p j t inside at boxes = subst (λ (x : ℤ × ℤ). unsigned_abs x.0 ≤ 2 ^ 31) (sym at) (boxes j t inside).least

pub constant_here : (d : Dictionary) (f n j : ℕ) (x : ℚ) → f ≡ n → x ≡ constant_of d f j → x ≡ constant_of d n j
constant_here d f n j x e is = is ∙ ap (λ (k : ℕ). constant_of d k j) e

pub value_passed : (p : Program) (d : Dictionary) (j : ℕ) (x y : Frac) (e : RangePassed) → j < column_count p → value_of x ≡ low p j → value_of y ≡ constant_of d (column_count p) j → e ≡ record { op = Plus; left = x; right = y } → Passes Plus x y → IsValuePassed p d e.op e.left e.right
value_passed p d j x y e inside ex ey is h = subst (λ (z : RangePassed). IsValuePassed p d z.op z.left z.right) (sym is) (record { operation = refl; column = j; inside = inside; left_is = ex; right_is = ey; passes = h })

-- ---- a whole number as a fraction
natural_frac : (m : ℕ) → m ≤ 2 ^ 52 → Frac
natural_frac m h = record { n = pos m; d = pos 1; positive = omega (arith, ints); bounded = omega (arith, ints); small = omega (arith, ints); lowest = lowest_whole (pos m) }

natural_value : (m : ℕ) (h : m ≤ 2 ^ 52) → value_of (natural_frac m h) ≡ natural_ℚ m
unfolding value_of natural_frac
natural_value m h = refl

pub natural_parts : (f : Frac) (m : ℕ) → m ≤ 2 ^ 52 → value_of f ≡ natural_ℚ m → f.n ≡ pos m
unfolding natural_frac
natural_parts f m h e = (frac_same f (natural_frac m h) (e ∙ sym (natural_value m h))).0

pub whole_natural : (f : Frac) (n : ℤ) (m : ℕ) → f.n ≡ n → f.d ≡ pos 1 → n ≡ pos m → value_of f ≡ natural_ℚ m
unfolding value_of
whole_natural f n m en ed e = rw (en, ed, e) refl

-- ---- joining
multiple_fine : (m e r : ℕ) (x y : ℚ) → m ≤ 2 ^ 52 → e ≤ 2 ^ 52 → IsLeastMultiple m e r → r ≤ 2 ^ 52 → x ≡ natural_ℚ m → y ≡ natural_ℚ e → IsFine Lcm x y
multiple_fine m e r x y hm he l small ex ey = record {
  fine = λ f h ef eh passes.
      let a = ap unsigned_abs (natural_parts f m hm (ef ∙ ex)) in
      let b = ap unsigned_abs (natural_parts h e he (eh ∙ ey)) in
      absurd (let big = passes r (subst (λ (z : ℕ). IsLeastMultiple (unsigned_abs f.n) z r) (sym b) (subst (λ (z : ℕ). IsLeastMultiple z e r) (sym a) l)) in omega arith);
}

small_fine : (m e r : ℕ) → m ≤ 2 ^ 52 → e ≤ 2 ^ 52 → IsLeastMultiple m e r → r ≤ 2 ^ 52 → (x y : ℚ) → JoinsBy m e x y → IsFine Lcm x y
small_fine m e r hm he l small x y j = ⊎_elim
    (λ (a : (e ≤ 2 ^ 52) × (x ≡ natural_ℚ m) × (y ≡ natural_ℚ e)). multiple_fine m e r x y hm he l small a.1 a.2)
    (λ o. ⊎_elim
    (λ (b : (2 ^ 52 < e) × (x ≡ natural_ℚ m) × (y ≡ natural_ℚ (2 ^ 52))). absurd (let big = b.0 in omega arith))
    (λ (b : (2 ^ 52 < e) × IsLeastMultiple m (2 ^ 52) (2 ^ 52) × (x ≡ natural_ℚ (2 ^ 52)) × (y ≡ natural_ℚ (2 ^ 52 - 1))). absurd (let big = b.0 in omega arith)) o) j

-- where the multiple doesn't pass, it is small
pub not_passing : (m e : ℤ) (r : ℕ) → IsLeastMultiple (unsigned_abs m) (unsigned_abs e) r → (LcmPasses m e → ⊥) → r ≤ 2 ^ 52
not_passing m e r l never = ⊎_elim (λ (h : r ≤ 2 ^ 52). h) (λ (h : 2 ^ 52 < r). absurd (never (λ k lk. let same = one_multiple (unsigned_abs m) (unsigned_abs e) k r lk l in omega arith))) (low_or r)
  where
    low_or : (r : ℕ) → (r ≤ 2 ^ 52) ⊎ (2 ^ 52 < r)
    low_or r = grind arith

pub small_ok : (m e : ℤ) (res : Result ℤ RangePassed) → pos 1 ≤ℤ m → m ≤ℤ pos (2 ^ 52) → pos 1 ≤ℤ e → e ≤ℤ pos (2 ^ 52) → IfOk res (λ r. pos 1 ≤ℤ r) → IfOk res (λ r. IsLeastMultiple (unsigned_abs m) (unsigned_abs e) (unsigned_abs r)) → (LcmPasses m e → IsErr res) → IfOk res (λ r. IsJoined m e r)
small_ok m e (Ok r) ml mh el eh above exact passes =
    let small = not_passing m e (unsigned_abs r) exact (λ p. absurd (let x = passes p in cc)) in
    record { least = above; most = omega (arith, ints); multiple = exact; fine = small_fine (unsigned_abs m) (unsigned_abs e) (unsigned_abs r) (omega (arith, ints)) (omega (arith, ints)) exact small }
small_ok m e (Err x) ml mh el eh above exact passes = above

pub small_passed : (m e : ℤ) (res : Result ℤ RangePassed) → pos 1 ≤ℤ m → m ≤ℤ pos (2 ^ 52) → pos 1 ≤ℤ e → e ≤ℤ pos (2 ^ 52) → (IsErr res → LcmPasses m e) → IfErr res (λ x. x.op ≡ Lcm) → IfErr res (λ x. (x.left.n ≡ m) × (x.left.d ≡ pos 1)) → IfErr res (λ x. (x.right.n ≡ e) × (x.right.d ≡ pos 1)) → IfErr res (λ x. IsJoinPassed (unsigned_abs m) (unsigned_abs e) x.op x.left x.right)
small_passed m e (Ok r) ml mh el eh passes op left right = op
small_passed m e (Err x) ml mh el eh passes op left right = record {
  operation = op;
  step = inl (omega (arith, ints), whole_natural x.left m (unsigned_abs m) left.0 left.1 (omega (arith, ints)), whole_natural x.right e (unsigned_abs e) right.0 right.1 (omega (arith, ints)));
  passes = moved_passes x.left.n x.right.n m e left.0 right.0 (passes refl);
}
  where
    moved_passes : (a b m e : ℤ) → a ≡ m → b ≡ e → LcmPasses m e → LcmPasses a b
    moved_passes a b m e ea eb h = subst (λ (z : ℤ). LcmPasses z b) (sym ea) (subst (λ (z : ℤ). LcmPasses m z) (sym eb) h)

-- ---- a denominator above 2 ^ 52
whole_of_great : (m c : ℕ) → IsLeastMultiple m (2 ^ 52) c → 0 < c → c ≤ 2 ^ 52 → c ≡ 2 ^ 52
whole_of_great m c l some small = let least : 2 ^ 52 ≤ c = le_of_dvd some l.right in omega arith

great_never : (r : ℕ) → IsLeastMultiple (2 ^ 52) (2 ^ 52 - 1) r → 0 < r → r ≤ 2 ^ 52 → ⊥
great_never r l some small =
    let least : 2 ^ 52 ≤ r = le_of_dvd some l.left in
    let is : r ≡ 2 ^ 52 = omega arith in
    let divides : 2 ^ 52 - 1 ∣ 2 ^ 52 = subst (λ (x : ℕ). 2 ^ 52 - 1 ∣ x) is l.right in
    let cancel : 2 ^ 52 / (2 ^ 52 - 1) * (2 ^ 52 - 1) ≡ 2 ^ 52 = div-mul_cancel (2 ^ 52 - 1) divides in
    absurd (omega arith)

pub great_least : (m c : ℤ) → IsLeastMultiple (unsigned_abs m) (2 ^ 52) (unsigned_abs c) → pos 1 ≤ℤ c → (LcmPasses m (pos (2 ^ 52)) → ⊥) → c ≡ pos (2 ^ 52)
great_least m c l some never =
    let small = not_passing m (pos (2 ^ 52)) (unsigned_abs c) l never in
    let is = whole_of_great (unsigned_abs m) (unsigned_abs c) l (omega (arith, ints)) small in
    omega (arith, ints)

moved_great : (a b m e : ℤ) → a ≡ m → b ≡ e → LcmPasses m e → LcmPasses a b
moved_great a b m e ea eb h = subst (λ (z : ℤ). LcmPasses z b) (sym ea) (subst (λ (z : ℤ). LcmPasses m z) (sym eb) h)

pub great_ok : (m e c : ℤ) (res : Result ℤ RangePassed) → c ≡ pos (2 ^ 52) → IfOk res (λ r. pos 1 ≤ℤ r) → IfOk res (λ r. IsLeastMultiple (unsigned_abs c) (2 ^ 52 - 1) (unsigned_abs r)) → (LcmPasses c (pos (2 ^ 52 - 1)) → IsErr res) → IfOk res (λ r. IsJoined m e r)
great_ok m e c (Ok r) is above exact passes =
    let small = not_passing c (pos (2 ^ 52 - 1)) (unsigned_abs r) exact (λ p. absurd (let x = passes p in cc)) in
    absurd (great_never (unsigned_abs r) (subst (λ (z : ℤ). IsLeastMultiple (unsigned_abs z) (2 ^ 52 - 1) (unsigned_abs r)) is exact) (omega (arith, ints)) small)
great_ok m e c (Err x) is above exact passes = above

pub great_passed : (m e c : ℤ) (res : Result ℤ RangePassed) → pos (2 ^ 52) <ℤ e → c ≡ pos (2 ^ 52) → IsLeastMultiple (unsigned_abs m) (2 ^ 52) (unsigned_abs c) → (IsErr res → LcmPasses c (pos (2 ^ 52 - 1))) → IfErr res (λ x. x.op ≡ Lcm) → IfErr res (λ x. (x.left.n ≡ c) × (x.left.d ≡ pos 1)) → IfErr res (λ x. (x.right.n ≡ pos (2 ^ 52 - 1)) × (x.right.d ≡ pos 1)) → IfErr res (λ x. IsJoinPassed (unsigned_abs m) (unsigned_abs e) x.op x.left x.right)
great_passed m e c (Ok r) big is l passes op left right = op
great_passed m e c (Err x) big is l passes op left right = record {
  operation = op;
  step = inr (inr (omega (arith, ints), subst (λ (z : ℤ). IsLeastMultiple (unsigned_abs m) (2 ^ 52) (unsigned_abs z)) is l, whole_natural x.left c (2 ^ 52) left.0 left.1 is, whole_natural x.right (pos (2 ^ 52 - 1)) (2 ^ 52 - 1) right.0 right.1 refl));
  passes = moved_great x.left.n x.right.n c (pos (2 ^ 52 - 1)) left.0 right.0 (passes refl);
}

pub first_passed : (m e : ℤ) (x : RangePassed) → pos (2 ^ 52) <ℤ e → pos 1 ≤ℤ m → LcmPasses m (pos (2 ^ 52)) → x.op ≡ Lcm → (x.left.n ≡ m) × (x.left.d ≡ pos 1) → (x.right.n ≡ pos (2 ^ 52)) × (x.right.d ≡ pos 1) → IsJoinPassed (unsigned_abs m) (unsigned_abs e) x.op x.left x.right
first_passed m e x big low passes op left right = record {
  operation = op;
  step = inr (inl (omega (arith, ints), whole_natural x.left m (unsigned_abs m) left.0 left.1 (omega (arith, ints)), whole_natural x.right (pos (2 ^ 52)) (2 ^ 52) right.0 right.1 refl));
  passes = moved_great x.left.n x.right.n m (pos (2 ^ 52)) left.0 right.0 passes;
}

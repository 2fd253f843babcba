-- The least common denominator, and the numerators over it.
use Rattle.std.proofs.Common.{◌≡◌, ℕ, ℤ, pos, negsuc, ◌<◌, ◌≤◌, ◌≢◌, ◌+◌, ◌*◌, ◌/◌, ◌^◌, ◌*ℤ◌, List, [], ◌∷◌, ◌++◌, length, get_or, sym, ap, ◌∙◌, refl, arith, subst, unsigned_abs}
use Rattle.std.specs.Prelude.{◌≤ℤ◌, ◌<ℤ◌, int_div}
use Rattle.std.specs.Int.{◌∣◌}
use Rattle.std.proofs.lemmas.Bool.{cases_eq}
use Rattle.std.proofs.lemmas.Int.{ints, unsigned_abs-mul}
use Rattle.std.proofs.lemmas.List.{get_or-map, length-append}
use Rattle.std.proofs.Math.Logic.{⊎_elim}
use Rattle.std.proofs.Math.Nat.{div-mul_cancel, div-le_self, one-dvd, mul-le-mul_right}
use Rattle.std.proofs.lemmas.Nat.Gcd.{dvd_antisymm, dvd_trans}
use Rattle.sm_frac.specs.Rational.{ℚ, fraction, fraction_same}
use Rattle.sm_frac.specs.Frac.{value_of}
use Rattle.sm_frac.specs.Lowest.{IsLeastMultiple}
use Rattle.sm_frac.specs.declared.fraction.Frac.{Frac}
use Rattle.sm_frac.specs.declared.operation.Op.{Op}
use Rattle.sm_frac.specs.declared.operation.Op.TheVariants.{Lcm}
use Rattle.sm_frac.proofs.OperationLemmas.{abs_above}
use Rattle.sm_frac.proofs.IntRing.{products}
use Rattle.std.proofs.Math.Seq.{get_or-append_seam}
use Rattle.std.proofs.Math.ListN.{get_or-append}
use Rattle.sm_certificate.specs.Numbers.{number_at}
use Rattle.sm_certificate.specs.Program.{point_value}
use Rattle.sm_certificate.proofs.NumberLemmas.{number_read}
use Rattle.sm_lp.specs.Steps.{JoinsBy, IsLeastCommon}
use Rattle.sm_certificate.specs.Fine.{IsFine}
use Rattle.sm_lp.specs.Ending.{IsJoined, IsJoinPassed, IsCommonPassed, denominator_at}

pub denominator_read : (values : List Frac) (j : ℕ) (v : Frac) → j < length values → v ≡ get_or values j v → denominator_at values j ≡ unsigned_abs v.d
denominator_read values j v h e = get_or-map (λ (f : Frac). unsigned_abs f.d) values j v 0 h ∙ ap (λ (f : Frac). unsigned_abs f.d) (sym e)

pub common_start : (numbers : ℕ → ℕ) → IsLeastCommon 0 numbers 1
common_start numbers = record { common = λ i l. absurd (omega arith); least = λ l all. one-dvd l }

pub one_common : (k : ℕ) (numbers : ℕ → ℕ) (m l : ℕ) → IsLeastCommon k numbers m → IsLeastCommon k numbers l → m ≡ l
one_common k numbers m l a b = dvd_antisymm (a.least l b.common) (b.least m a.common)

pub common_more : (j : ℕ) (numbers : ℕ → ℕ) (m r : ℕ) → IsLeastCommon j numbers m → IsLeastMultiple m (numbers j) r → IsLeastCommon (j + 1) numbers r
common_more j numbers m r h l = record {
  common = λ i li. ⊎_elim
      (λ (e : i ≡ j). subst (λ (k : ℕ). numbers k ∣ r) (sym e) l.right)
      (λ (ne : i ≢ j). dvd_trans (numbers i) (h.common i (omega arith)) l.left) (cases_eq i j);
  least = λ x all. l.least x (h.least x (λ i li. all i (omega arith))) (all j (omega arith));
}

pub common_same : (k : ℕ) (numbers other : ℕ → ℕ) (m : ℕ) → ((i : ℕ) → i < k → numbers i ≡ other i) → IsLeastCommon k numbers m → IsLeastCommon k other m
common_same k numbers other m same h = record {
  common = λ i l. subst (λ (x : ℕ). x ∣ m) (same i l) (h.common i l);
  least = λ x all. h.least x (λ i l. subst (λ (y : ℕ). y ∣ x) (sym (same i l)) (all i l));
}

pub join_common : (values : List Frac) (j : ℕ) (v : Frac) (m r : ℤ) → j < length values → v ≡ get_or values j v → IsLeastCommon j (denominator_at values) (unsigned_abs m) → IsJoined m v.d r → IsLeastCommon (j + 1) (denominator_at values) (unsigned_abs r)
join_common values j v m r inside is h l = common_more j (denominator_at values) (unsigned_abs m) (unsigned_abs r) h (subst (λ (x : ℕ). IsLeastMultiple (unsigned_abs m) x (unsigned_abs r)) (sym (denominator_read values j v inside is)) l.multiple)

pub join_fine : (values : List Frac) (j : ℕ) (v : Frac) (m r : ℤ) → j < length values → v ≡ get_or values j v → IsLeastCommon j (denominator_at values) (unsigned_abs m) → IsJoined m v.d r
    → ((k n : ℕ) (x y : ℚ) → k < j → IsLeastCommon k (denominator_at values) n → JoinsBy n (denominator_at values k) x y → IsFine Lcm x y)
    → (k n : ℕ) (x y : ℚ) → k < j + 1 → IsLeastCommon k (denominator_at values) n → JoinsBy n (denominator_at values k) x y → IsFine Lcm x y
join_fine values j v m r inside is h l before k n x y hk c joins = ⊎_elim
    (λ (e : k ≡ j).
    let here : IsLeastCommon j (denominator_at values) n = subst (λ (i : ℕ). IsLeastCommon i (denominator_at values) n) e c in
    let same = one_common j (denominator_at values) n (unsigned_abs m) here h in
    let den : denominator_at values k ≡ unsigned_abs v.d = ap (denominator_at values) e ∙ denominator_read values j v inside is in
    l.fine x y (subst (λ (i : ℕ). JoinsBy i (unsigned_abs v.d) x y) same (subst (λ (i : ℕ). JoinsBy n i x y) den joins)))
    (λ (ne : k ≢ j). before k n x y (omega arith) c joins) (cases_eq k j)

pub join_passed : (values : List Frac) (j : ℕ) (v : Frac) (m : ℤ) (op : Op) (left right : Frac) → j < length values → v ≡ get_or values j v → pos 1 ≤ℤ m → m ≤ℤ pos (2 ^ 52) → IsLeastCommon j (denominator_at values) (unsigned_abs m) → IsJoinPassed (unsigned_abs m) (unsigned_abs v.d) op left right → IsCommonPassed values op left right
join_passed values j v m op left right inside is some small h p = record {
  place = j;
  inside = inside;
  before = unsigned_abs m;
  common = h;
  most = omega (arith, ints);
  passed = subst (λ (x : ℕ). IsJoinPassed (unsigned_abs m) x op left right) (sym (denominator_read values j v inside is)) p;
}

-- ---- numerators
quotient_is : (c d : ℤ) → pos 0 <ℤ d → pos 1 ≤ℤ c → int_div c d ≡ pos (unsigned_abs c / unsigned_abs d)
quotient_is (pos a) (pos b) hd hc = refl
quotient_is (pos a) (negsuc b) hd hc = absurd (omega (arith, ints))
quotient_is (negsuc a) d hd hc = absurd (omega (arith, ints))

pub numerator_small : (n d c : ℤ) → pos 0 <ℤ d → pos 1 ≤ℤ c → c ≤ℤ pos (2 ^ 52) → unsigned_abs d ∣ unsigned_abs c → unsigned_abs n ≤ 2 ^ 31 * unsigned_abs d → unsigned_abs (n *ℤ int_div c d) ≤ 2 ^ 83
numerator_small n d c hd some small divides boxed =
    let q = unsigned_abs c / unsigned_abs d in
    let whole : q * unsigned_abs d ≡ unsigned_abs c = div-mul_cancel (unsigned_abs d) divides in
    let size : unsigned_abs (n *ℤ int_div c d) ≡ unsigned_abs n * q = ap (λ (x : ℤ). unsigned_abs (n *ℤ x)) (quotient_is c d hd some) ∙ unsigned_abs-mul n (pos q) in
    let most : unsigned_abs n * q ≤ 2 ^ 31 * unsigned_abs d * q = mul-le-mul_right q boxed in
    let low : unsigned_abs c ≤ 2 ^ 52 = omega (arith, ints) in
    omega (arith, ap (λ (x : ℕ). 2 ^ 31 * x) whole)

pub numerator_value : (n d c : ℤ) → pos 0 <ℤ d → pos 1 ≤ℤ c → unsigned_abs d ∣ unsigned_abs c → fraction (n *ℤ int_div c d) (unsigned_abs c) ≡ fraction n (unsigned_abs d)
numerator_value n d c hd some divides =
    let q = unsigned_abs c / unsigned_abs d in
    let whole : q * unsigned_abs d ≡ unsigned_abs c = div-mul_cancel (unsigned_abs d) divides in
    fraction_same (n *ℤ int_div c d) n (unsigned_abs c) (unsigned_abs d) (omega (arith, ints)) (abs_above d hd)
    (ap (λ (x : ℤ). n *ℤ x *ℤ pos (unsigned_abs d)) (quotient_is c d hd some) ∙ turn n (pos q) (pos (unsigned_abs d)) ∙ ap (λ (x : ℕ). n *ℤ pos x) whole)
  where
    turn : (a b e : ℤ) → a *ℤ b *ℤ e ≡ a *ℤ (b *ℤ e)
    turn a b e = simp products

pub numerator_read : (f : Frac) (x : ℚ) → x ≡ fraction f.n (unsigned_abs f.d) → x ≡ value_of f
unfolding value_of
numerator_read f x e = e

pub quotient_small : (d c : ℤ) → pos 0 <ℤ d → pos 1 ≤ℤ c → c ≤ℤ pos (2 ^ 52) → unsigned_abs (int_div c d) ≤ 2 ^ 52
quotient_small d c hd some small = let is = ap unsigned_abs (quotient_is c d hd some) in let low = div-le_self (unsigned_abs c) (unsigned_abs d) in omega (arith, ints)

-- ---- the list of numerators
pub divides_common : (values : List Frac) (j : ℕ) (v : Frac) (m : ℕ) → j < length values → v ≡ get_or values j v → IsLeastCommon (length values) (denominator_at values) m → unsigned_abs v.d ∣ m
divides_common values j v m inside is h = subst (λ (x : ℕ). x ∣ m) (denominator_read values j v inside is) (h.common j inside)

pub numerators_more : (values : List Frac) (j : ℕ) (v : Frac) (common x : ℤ) (old new : List ℤ) → j < length values → v ≡ get_or values j v → length old ≡ j → new ≡ old ++ x ∷ [] → fraction x (unsigned_abs common) ≡ value_of v → ((k : ℕ) → k < j → point_value old common k ≡ number_at values k) → (k : ℕ) → k < j + 1 → point_value new common k ≡ number_at values k
numerators_more values j v common x old new inside is long en ex before k hk = ⊎_elim
    (λ (e : k ≡ j). ap (λ (xs : List ℤ). point_value xs common k) en
    ∙ ap (λ (i : ℕ). point_value (old ++ x ∷ []) common i) (e ∙ sym long)
    ∙ ap (λ (z : ℤ). fraction z (unsigned_abs common)) (get_or-append_seam old x [] (pos 0))
    ∙ ex ∙ sym (number_read values j v inside is) ∙ ap (number_at values) (sym e))
    (λ (ne : k ≢ j). ap (λ (xs : List ℤ). point_value xs common k) en
    ∙ ap (λ (z : ℤ). fraction z (unsigned_abs common)) (get_or-append old (x ∷ []) (pos 0) k (omega arith))
    ∙ before k (omega arith)) (cases_eq k j)

pub numerators_long : (old new : List ℤ) (x : ℤ) (j : ℕ) → new ≡ old ++ x ∷ [] → length old ≡ j → length new ≡ j + 1
numerators_long old new x j en long = ap length en ∙ length-append old (x ∷ []) ∙ ap (λ (n : ℕ). n + 1) long

-- Ratios of whole numbers in order, by cross products.
use Rattle.std.proofs.Common.{◌≡◌, ℕ, ◌<◌, ◌≤◌, ◌*◌, Bool, true, false, List, length, map, drop, drop-cons, refl, arith, ap, sym, ◌∙◌, inl, inr}
use Rattle.std.specs.Prelude.{ℤ, pos, ◌*ℤ◌, ◌+ℤ◌, ◌-ℤ◌, neg_ℤ, ◌≤ℤ◌, ◌<ℤ◌, unsigned_abs, ◌↔◌, int_lt}
use Rattle.std.proofs.lemmas.Int.{ints, by_lt_z}
use Rattle.std.proofs.lemmas.List.{drop_all}
use Rattle.std.proofs.lemmas.Bool.Decides.{nat_tests}
use lib.Dec.{ltb}
use Rattle.std.specs.Ordering.{MatchOrdering, is_lt}
use Rattle.std.specs.declared.cmp.Ordering.{Ordering}
use Rattle.std.specs.declared.cmp.Ordering.TheVariants.{Less, Equal, Greater}
use Rattle.sm_frac.specs.declared.fraction.Frac.{Frac}
use Rattle.sm_frac.specs.Rational.{ℚ, ◌+ℚ◌, ◌-ℚ◌, ◌≤ℚ◌, ◌<ℚ◌, neg_ℚ, one_ℚ, fraction, fraction-+ℚ, neg_ℚ-fraction, is_nonnegative}
use Rattle.sm_frac.specs.Frac.{value_of}
use Rattle.sm_frac.proofs.Order.{fraction_le_cross, lt_cross, lt_not_le, lt_from_not_le, le_equal, le_from_lt}
use Rattle.sm_frac.proofs.IntRing.{pos_abs}
use Rattle.sm_step.specs.Verdicts.{parts_of}
use Rattle.sm_flat.specs.declared.goal.Goal.{Goal}
use Rattle.sm_flat.specs.Models.{FlatModel}
use Rattle.sm_kinds.specs.Points.{Point}
use Rattle.sm_rules.specs.Floors.{number_of, numbers_of, greater, Reaches, EndsNode}
use Rattle.sm_rules.specs.Objectives.{level_of}

above_zero : (d : ℤ) → pos 0 <ℤ d → 0 < unsigned_abs d
above_zero d h = omega (arith, ints)

pub le_ratios : (p q : ℤ × ℤ) → pos 0 <ℤ p.1 → pos 0 <ℤ q.1 → (number_of p ≤ℚ number_of q) ↔ ((p.0 *ℤ q.1) ≤ℤ (q.0 *ℤ p.1))
le_ratios p q hp hq =
    let le = fraction_le_cross p.0 q.0 (unsigned_abs p.1) (unsigned_abs q.1) (above_zero p.1 hp) (above_zero q.1 hq) in
    rw (pos_abs p.1 hp, pos_abs q.1 hq) at le

not_below : (x y : ℤ) → x <ℤ y → y ≤ℤ x → ⊥
not_below x y h k = absurd (omega (arith, ints))

below : (x y : ℤ) → (y ≤ℤ x → ⊥) → x <ℤ y
below x y h = by_lt_z x y (λ l. l) (λ k. absurd (h k))

pub lt_ratios : (p q : ℤ × ℤ) → pos 0 <ℤ p.1 → pos 0 <ℤ q.1 → (number_of p <ℚ number_of q) ↔ ((p.0 *ℤ q.1) <ℤ (q.0 *ℤ p.1))
lt_ratios p q hp hq =
    let le = le_ratios q p hq hp in (
      λ h. below (p.0 *ℤ q.1) (q.0 *ℤ p.1) (λ k. lt_not_le (number_of p) (number_of q) h (le.1 k)),
      λ h. lt_from_not_le (number_of p) (number_of q) (λ k. not_below (p.0 *ℤ q.1) (q.0 *ℤ p.1) h (le.0 k)),
    )

-- one of the two orders holds
pub le_from_not_lt : (x y : ℚ) → (y <ℚ x → ⊥) → x ≤ℚ y
le_from_not_lt x y h = by_test (is_nonnegative (y -ℚ x)) refl
  where
    by_test : (b : Bool) → is_nonnegative (y -ℚ x) ≡ b → x ≤ℚ y
    by_test true e = record { le = e }
    by_test false e = absurd (h (record { lt = e }))

-- one less
pub number_less_one : (n d : ℤ) → pos 0 <ℤ d → number_of (n -ℤ d, d) ≡ number_of (n, d) -ℚ one_ℚ
number_less_one n d h =
    let some = above_zero d h in
    let one : neg_ℚ one_ℚ ≡ fraction (neg_ℤ (pos 1)) 1 = neg_ℚ-fraction (pos 1) 1 (omega arith) in
    let sum : fraction n (unsigned_abs d) +ℚ fraction (neg_ℤ (pos 1)) 1 ≡ fraction (n *ℤ pos 1 +ℤ neg_ℤ (pos 1) *ℤ pos (unsigned_abs d)) (unsigned_abs d * 1) = fraction-+ℚ n (neg_ℤ (pos 1)) (unsigned_abs d) 1 some (omega arith) in
    let top : n *ℤ pos 1 +ℤ neg_ℤ (pos 1) *ℤ pos (unsigned_abs d) ≡ n -ℤ d = let e = pos_abs d h in omega (arith, ints, e) in
    let bottom : unsigned_abs d * 1 ≡ unsigned_abs d = omega arith in
    sym (ap (λ (z : ℚ). number_of (n, d) +ℚ z) one ∙ sum ∙ (rw (top, bottom) refl))

-- a floor that is below the best reaches it where one less than the best is below the floor
pub reaches_below : (g : ℚ) (p q : ℤ × ℤ) (w : Bool) → pos 0 <ℤ p.1 → g <ℚ number_of p → q.0 ≡ p.0 -ℤ p.1 → q.1 ≡ p.1 → w ≡ true → (number_of q <ℚ g) ↔ Reaches g (record { best = number_of p; whole = w })
reaches_below g p q w h less top bottom whole =
    let one : number_of q ≡ number_of p -ℚ one_ℚ = rw (top, bottom) (number_less_one p.0 p.1 h) in (
      λ lt. inr (whole, rw one at lt),
      λ r. elim r [
        | inl le ↦ absurd (lt_not_le g (number_of p) less le)
        | inr both ↦ rw one both.1
      ],
    )

-- where no floor is left, the floors don't end the node
pub ends_none : (m : FlatModel) (b : Point) (floors : List Frac) (goals : List Goal) (k : ℕ) (d : Goal) → length floors ≤ k → k < length goals → EndsNode (numbers_of (map parts_of (drop k floors))) (map (level_of m b) (drop k goals)) → ⊥
ends_none m b floors goals k d past lt h = rw (drop_all k floors past, drop-cons goals k d lt) at h

pub past_from_test : (k n : ℕ) → false ≡ ltb k n → n ≤ k
past_from_test k n e = grind (arith, nat_tests)

-- ---- the greater of two fractions

int_lt_true : (x y : ℤ) → x <ℤ y → int_lt x y ≡ true
int_lt_true x y h = grind (arith, ints)

int_lt_false : (x y : ℤ) → (x <ℤ y → ⊥) → int_lt x y ≡ false
int_lt_false x y h = grind (arith, ints)

greater_second : (f g : Frac) → value_of f <ℚ value_of g → parts_of g ≡ greater (parts_of f) (parts_of g)
greater_second f g h = rw (int_lt_true (f.n *ℤ g.d) (g.n *ℤ f.d) ((lt_cross f g).0 h)) refl

greater_first : (f g : Frac) → (value_of f <ℚ value_of g → ⊥) → parts_of f ≡ greater (parts_of f) (parts_of g)
greater_first f g h = rw (int_lt_false (f.n *ℤ g.d) (g.n *ℤ f.d) (λ lt. h ((lt_cross f g).1 lt))) refl

pub greater_where_less : (f g : Frac) (o : Ordering) → MatchOrdering o (value_of f <ℚ value_of g) (value_of f ≡ value_of g) (value_of g <ℚ value_of f) → is_lt o ≡ true → parts_of g ≡ greater (parts_of f) (parts_of g)
greater_where_less f g Less h e = greater_second f g h
greater_where_less f g Equal h e = absurd (cc)
greater_where_less f g Greater h e = absurd (cc)

pub greater_where_not : (f g : Frac) (o : Ordering) → MatchOrdering o (value_of f <ℚ value_of g) (value_of f ≡ value_of g) (value_of g <ℚ value_of f) → is_lt o ≡ false → parts_of f ≡ greater (parts_of f) (parts_of g)
greater_where_not f g Less h e = absurd (cc)
greater_where_not f g Equal h e = greater_first f g (λ lt. lt_not_le (value_of f) (value_of g) lt (le_equal (value_of g) (value_of f) (sym h)))
greater_where_not f g Greater h e = greater_first f g (λ lt. lt_not_le (value_of f) (value_of g) lt (le_from_lt (value_of g) (value_of f) h))

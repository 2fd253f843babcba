-- The order of the rationals, and that of two fractions by their cross products.
use Rattle.std.proofs.Common.{◌≡◌, ℕ, ◌*◌, ◌<◌, ap, sym, ◌∙◌, subst, arith, Bool, true, false, refl}
use Rattle.std.specs.Prelude.{ℤ, pos, ◌*ℤ◌, ◌+ℤ◌, neg_ℤ, ◌≤ℤ◌, ◌<ℤ◌, unsigned_abs, ◌↔◌, IsTrue}
use Rattle.std.specs.Ordering.{MatchOrdering}
use Rattle.std.specs.declared.cmp.Ordering.{Ordering}
use Rattle.std.specs.declared.cmp.Ordering.TheVariants.{Less, Equal, Greater}
use Rattle.std.proofs.lemmas.Int.{ints, by_lt_z}
use Rattle.std.proofs.Math.Nat.{mul-pos}
use Rattle.sm_frac.specs.declared.fraction.Frac.{Frac}
use Rattle.sm_frac.specs.Rational.{ℚ, ◌+ℚ◌, ◌*ℚ◌, ◌-ℚ◌, ◌≤ℚ◌, ◌<ℚ◌, neg_ℚ, zero_ℚ, fraction, fraction_same, fraction-+ℚ, neg_ℚ-fraction, is_nonnegative, is_nonnegative-fraction, nonnegative-sum, nonnegative-product, nonnegative-turned, nonnegative-zero, zero_from_both}
use Rattle.sm_frac.specs.Frac.{value_of}
use Rattle.sm_frac.proofs.IntRing.{pos_abs}
use Rattle.sm_frac.proofs.RationalRing.{ring}
use Rattle.sm_frac.proofs.RoundingLemmas.{turned_product}
use Rattle.sm_frac.proofs.OperationLemmas.{fraction_cross, abs_above}

moved : (x y : ℚ) → x ≡ y → IsTrue (is_nonnegative x) → IsTrue (is_nonnegative y)
moved x y e h = let P : ℚ → Type 0 = λ z. IsTrue (is_nonnegative z) in subst P e h

pub le_equal : (x y : ℚ) → x ≡ y → x ≤ℚ y
le_equal x y e = let P : ℚ → Type 0 = λ z. x ≤ℚ z in subst P e (record { le = moved zero_ℚ (x -ℚ x) (simp ring) nonnegative-zero })

pub le_trans : (x y z : ℚ) → x ≤ℚ y → y ≤ℚ z → x ≤ℚ z
le_trans x y z h k = record { le = moved ((y -ℚ x) +ℚ (z -ℚ y)) (z -ℚ x) (simp ring) (nonnegative-sum (y -ℚ x) (z -ℚ y) h.le k.le) }

pub le_antisymm : (x y : ℚ) → x ≤ℚ y → y ≤ℚ x → x ≡ y
le_antisymm x y h k = sym (back (zero_from_both (y -ℚ x) h.le (moved (x -ℚ y) (neg_ℚ (y -ℚ x)) (simp ring) k.le)))
  where
    restored : y ≡ (y -ℚ x) +ℚ x
    restored = simp ring

    left : zero_ℚ +ℚ x ≡ x
    left = simp ring

    back : y -ℚ x ≡ zero_ℚ → y ≡ x
    back e = restored ∙ ap (λ (z : ℚ). z +ℚ x) e ∙ left

pub le_sum : (x y u v : ℚ) → x ≤ℚ y → u ≤ℚ v → x +ℚ u ≤ℚ y +ℚ v
le_sum x y u v h k = record { le = moved ((y -ℚ x) +ℚ (v -ℚ u)) ((y +ℚ v) -ℚ (x +ℚ u)) (simp ring) (nonnegative-sum (y -ℚ x) (v -ℚ u) h.le k.le) }

-- a factor of at least zero keeps the order
pub le_product : (f x y : ℚ) → IsTrue (is_nonnegative f) → x ≤ℚ y → f *ℚ x ≤ℚ f *ℚ y
le_product f x y s h = record { le = moved (f *ℚ (y -ℚ x)) (f *ℚ y -ℚ f *ℚ x) (simp ring) (nonnegative-product f (y -ℚ x) s h.le) }

-- a factor below zero turns it
pub le_product_turned : (f x y : ℚ) → is_nonnegative f ≡ false → x ≤ℚ y → f *ℚ y ≤ℚ f *ℚ x
le_product_turned f x y s h = record { le = moved (neg_ℚ f *ℚ (y -ℚ x)) (f *ℚ x -ℚ f *ℚ y) (simp ring) (nonnegative-product (neg_ℚ f) (y -ℚ x) (nonnegative-turned f s) h.le) }

pub le_negated : (x y : ℚ) → x ≤ℚ y → neg_ℚ y ≤ℚ neg_ℚ x
le_negated x y h = record { le = moved (y -ℚ x) (neg_ℚ x -ℚ neg_ℚ y) (simp ring) h.le }

-- ---- less, which is not at least

pub lt_not_le : (x y : ℚ) → x <ℚ y → y ≤ℚ x → ⊥
lt_not_le x y h k = let e = h.lt in let f = k.le in cc

pub lt_from_not_le : (x y : ℚ) → (y ≤ℚ x → ⊥) → x <ℚ y
lt_from_not_le x y h = by_test (is_nonnegative (x -ℚ y)) refl
  where
    by_test : (b : Bool) → is_nonnegative (x -ℚ y) ≡ b → x <ℚ y
    by_test true e = absurd (h (record { le = e }))
    by_test false e = record { lt = e }

pub le_from_lt : (x y : ℚ) → x <ℚ y → x ≤ℚ y
le_from_lt x y h = record { le = moved (neg_ℚ (x -ℚ y)) (y -ℚ x) (simp ring) (nonnegative-turned (x -ℚ y) h.lt) }

pub lt_le_trans : (x y z : ℚ) → x <ℚ y → y ≤ℚ z → x <ℚ z
lt_le_trans x y z h k = lt_from_not_le x z (λ l. lt_not_le x y h (le_trans y z x k l))

pub le_lt_trans : (x y z : ℚ) → x ≤ℚ y → y <ℚ z → x <ℚ z
le_lt_trans x y z h k = lt_from_not_le x z (λ l. lt_not_le y z k (le_trans z x y l h))

-- ---- by cross products

-- the order of two fractions of integers
pub fraction_le_cross : (m n : ℤ) (d e : ℕ) → 0 < d → 0 < e → (fraction m d ≤ℚ fraction n e) ↔ ((m *ℤ pos e) ≤ℤ (n *ℤ pos d))
fraction_le_cross m n d e hd he =
    let is : fraction n e -ℚ fraction m d ≡ fraction (n *ℤ pos d +ℤ neg_ℤ m *ℤ pos e) (e * d) = ap (λ (z : ℚ). fraction n e +ℚ z) (neg_ℚ-fraction m d hd) ∙ fraction-+ℚ n (neg_ℤ m) e d he hd in
    let test = is_nonnegative-fraction (n *ℤ pos d +ℤ neg_ℤ m *ℤ pos e) (e * d) (mul-pos he hd) in
    let P : ℚ → Type 0 = λ z. IsTrue (is_nonnegative z) in
    let turn = turned_product m (pos e) in (
      λ le. sums (m *ℤ pos e) (n *ℤ pos d) (neg_ℤ m *ℤ pos e) turn (test.0 (subst P is le.le)),
      λ le. record { le = subst P (sym is) (test.1 (back (m *ℤ pos e) (n *ℤ pos d) (neg_ℤ m *ℤ pos e) turn le)) },
    )
  where
    sums : (x y z : ℤ) → z ≡ neg_ℤ x → pos 0 ≤ℤ (y +ℤ z) → x ≤ℤ y
    sums x y z e h = omega (arith, ints)

    back : (x y z : ℤ) → z ≡ neg_ℤ x → x ≤ℤ y → pos 0 ≤ℤ (y +ℤ z)
    back x y z e h = omega (arith, ints)

pub le_cross : (f g : Frac) → (value_of f ≤ℚ value_of g) ↔ ((f.n *ℤ g.d) ≤ℤ (g.n *ℤ f.d))
unfolding value_of
le_cross f g = rw (← pos_abs g.d g.positive, ← pos_abs f.d f.positive) (fraction_le_cross f.n g.n (unsigned_abs f.d) (unsigned_abs g.d) (abs_above f.d f.positive) (abs_above g.d g.positive))

pub lt_cross : (f g : Frac) → (value_of f <ℚ value_of g) ↔ ((f.n *ℤ g.d) <ℤ (g.n *ℤ f.d))
lt_cross f g =
    let le = le_cross g f in (
      λ h. below (f.n *ℤ g.d) (g.n *ℤ f.d) (λ k. lt_not_le (value_of f) (value_of g) h (le.1 k)),
      λ h. lt_from_not_le (value_of f) (value_of g) (λ k. not_below (f.n *ℤ g.d) (g.n *ℤ f.d) h (le.0 k)),
    )
  where
    below : (x y : ℤ) → (y ≤ℤ x → ⊥) → x <ℤ y
    below x y h = by_lt_z x y (λ l. l) (λ k. absurd (h k))

    not_below : (x y : ℤ) → x <ℤ y → y ≤ℤ x → ⊥
    not_below x y h k = absurd (omega (arith, ints))

pub equal_cross : (f g : Frac) → (value_of f ≡ value_of g) ↔ (f.n *ℤ g.d ≡ g.n *ℤ f.d)
unfolding value_of
equal_cross f g =
    let df = abs_above f.d f.positive in
    let dg = abs_above g.d g.positive in
    rw (← pos_abs g.d g.positive, ← pos_abs f.d f.positive) (
      λ h. fraction_cross f.n g.n (unsigned_abs f.d) (unsigned_abs g.d) df dg h,
      λ h. fraction_same f.n g.n (unsigned_abs f.d) (unsigned_abs g.d) df dg h,
    )

-- what a comparison of the cross products says of the numbers
pub order_of_cross : (f g : Frac) (o : Ordering) → MatchOrdering o ((f.n *ℤ g.d) <ℤ (g.n *ℤ f.d)) (f.n *ℤ g.d ≡ g.n *ℤ f.d) ((g.n *ℤ f.d) <ℤ (f.n *ℤ g.d)) → MatchOrdering o (value_of f <ℚ value_of g) (value_of f ≡ value_of g) (value_of g <ℚ value_of f)
order_of_cross f g Less h = (lt_cross f g).1 h
order_of_cross f g Equal h = (equal_cross f g).1 h
order_of_cross f g Greater h = (lt_cross g f).1 h

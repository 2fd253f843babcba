-- No assignment in a store costs less than the least cost over its boxes.
use Rattle.std.proofs.Common.{◌≡◌, ℕ, ◌<◌, Bool, true, false, cond, List, [], ◌∷◌, length, refl, arith, sym, ap, ◌∙◌}
use Rattle.std.specs.Prelude.{ℤ, pos, ◌+ℤ◌, ◌*ℤ◌, neg_ℤ, ◌<ℤ◌, ◌≤ℤ◌, int_le, All, unsigned_abs}
use Rattle.std.proofs.lemmas.Int.{ints}
use Rattle.std.proofs.lemmas.List.Elements.{All-head, All-tail}
use Rattle.std.proofs.Math.IntN.{*ℤ_comm, *ℤ-zero}
use Rattle.sm_frac.proofs.IntRing.{*ℤ_assoc, +ℤ-*ℤ, pos_abs}
use Rattle.sm_frac.specs.Rational.{◌≤ℚ◌, fraction}
use Rattle.sm_frac.proofs.Order.{fraction_le_cross}
use Rattle.sm_flat.specs.declared.goal.Goal.{Goal}
use Rattle.sm_flat.specs.declared.goal.Sense.{Sense}
use Rattle.sm_flat.specs.declared.goal.Sense.TheVariants.{Minimise, Maximise, Satisfy}
use Rattle.sm_kinds.specs.Points.{Point}
use Rattle.sm_kinds.specs.Sums.{sum_at}
use Rattle.sm_flat.specs.Goals.{minimised, cost}
use Rattle.sm_store.specs.Stores.{Extent, extent_at, In, IsOrdered, least_of, greatest_of}
use Rattle.sm_rules.specs.Floors.{AreFloors, numbers_of}
use Rattle.sm_rules.specs.Objectives.{costs_by, least_product, least_sum, least_cost, least_costs}
use Rattle.sm_store.proofs.Ends.{IsBetween, between}
use Rattle.sm_rules.proofs.Integers.{mul-le, mul-neg}

-- ---- products and sums

up : (c low n d : ℤ) → pos 0 ≤ℤ c → (low *ℤ d) ≤ℤ n → ((c *ℤ low) *ℤ d) ≤ℤ (c *ℤ n)
up c low n d p h =
    let e : (c *ℤ low) *ℤ d ≡ (low *ℤ d) *ℤ c = *ℤ_assoc c low d ∙ *ℤ_comm c (low *ℤ d) in
    rw (e, *ℤ_comm c n) (mul-le (low *ℤ d) n c p h)

down : (c n high d : ℤ) → c <ℤ pos 0 → n ≤ℤ (high *ℤ d) → ((c *ℤ high) *ℤ d) ≤ℤ (c *ℤ n)
down c n high d p h =
    let le = mul-le n (high *ℤ d) (neg_ℤ c) (omega (arith, ints)) h in
    rw (*ℤ_assoc c high d) (omega (arith, ints, le, turned n, turned (high *ℤ d)))
  where
    turned : (x : ℤ) → x *ℤ neg_ℤ c ≡ neg_ℤ (c *ℤ x)
    turned x = *ℤ_comm x (neg_ℤ c) ∙ mul-neg c x

product_le : (c low n high d : ℤ) → IsBetween low n high d → ((cond (int_le (pos 0) c) (c *ℤ low) (c *ℤ high)) *ℤ d) ≤ℤ (c *ℤ n)
product_le c low n high d h = by_test (int_le (pos 0) c) refl
  where
    by_test : (b : Bool) → int_le (pos 0) c ≡ b → ((cond b (c *ℤ low) (c *ℤ high)) *ℤ d) ≤ℤ (c *ℤ n)
    by_test true e = up c low n d (grind (arith, ints)) h.least
    by_test false e = down c n high d (grind (arith, ints)) h.most

pub minimised-product : (s : Sense) (c n : ℤ) → minimised s (c *ℤ n) ≡ minimised s c *ℤ n
minimised-product Minimise c n = refl
minimised-product Maximise c n = sym (mul-neg c n)
minimised-product Satisfy c n = refl

pub minimised-sum : (s : Sense) (x y : ℤ) → minimised s (x +ℤ y) ≡ minimised s x +ℤ minimised s y
minimised-sum Minimise x y = refl
minimised-sum Maximise x y = omega (arith, ints)
minimised-sum Satisfy x y = refl

pub minimised-zero : (s : Sense) → minimised s (pos 0) ≡ pos 0
minimised-zero Minimise = refl
minimised-zero Maximise = refl
minimised-zero Satisfy = refl

-- a store's domains are ordered
abbrev pub AreOrdered : List Extent → Type 0
AreOrdered store = (i : ℕ) → i < length store → IsOrdered (extent_at store i).kind (extent_at store i).values

least_sum-le : (s : Sense) (a : Point) (store : List Extent) (ts : List (ℕ × ℤ)) → pos 0 <ℤ a.denominator → AreOrdered store → In a store → All (λ t. t.0 < length store) ts → (least_sum s store ts *ℤ a.denominator) ≤ℤ (minimised s (sum_at ts a.numerator))
least_sum-le s a store [] p ordered h known =
    rw (minimised-zero s, *ℤ_comm (pos 0) a.denominator, *ℤ-zero a.denominator) (omega (arith, ints))
least_sum-le s a store (t ∷ ts) p ordered h known =
    let lt = All-head (λ t. t.0 < length store) t ts known in
    let e = extent_at store t.0 in
    let one = product_le (minimised s t.1) (least_of e) (a.numerator t.0) (greatest_of e) a.denominator (between e.kind e.values (a.numerator t.0) a.denominator p (ordered t.0 lt) (h t.0 lt)) in
    let rest = least_sum-le s a store ts p ordered h (All-tail (λ t. t.0 < length store) t ts known) in
    let whole : minimised s ((t.1 *ℤ a.numerator t.0) +ℤ sum_at ts a.numerator) ≡ (minimised s t.1 *ℤ a.numerator t.0) +ℤ minimised s (sum_at ts a.numerator) = minimised-sum s (t.1 *ℤ a.numerator t.0) (sum_at ts a.numerator) ∙ ap (λ (z : ℤ). z +ℤ minimised s (sum_at ts a.numerator)) (minimised-product s t.1 (a.numerator t.0)) in
    rw (+ℤ-*ℤ (least_product (minimised s t.1) e) (least_sum s store ts) a.denominator, whole) (omega (arith, ints, one, rest))

pub least_cost-le : (a : Point) (store : List Extent) (g : Goal) → pos 0 <ℤ a.denominator → AreOrdered store → In a store → All (λ t. t.0 < length store) g.terms → (least_cost store g *ℤ a.denominator) ≤ℤ (cost g a)
least_cost-le a store g p ordered h known =
    let rest = least_sum-le g.sense a store g.terms p ordered h known in
    let whole : cost g a ≡ minimised g.sense (sum_at g.terms a.numerator) +ℤ (minimised g.sense g.constant *ℤ a.denominator) = minimised-sum g.sense (sum_at g.terms a.numerator) (g.constant *ℤ a.denominator) ∙ ap (λ (z : ℤ). minimised g.sense (sum_at g.terms a.numerator) +ℤ z) (minimised-product g.sense g.constant a.denominator) in
    rw (+ℤ-*ℤ (least_sum g.sense store g.terms) (minimised g.sense g.constant) a.denominator, whole) (omega (arith, ints, rest))

-- ---- as rational numbers

whole_le-fraction : (z c d : ℤ) → pos 0 <ℤ d → (z *ℤ d) ≤ℤ c → fraction z 1 ≤ℚ fraction c (unsigned_abs d)
whole_le-fraction z c d p h =
    let above : 0 < unsigned_abs d = omega (arith, ints) in
    (fraction_le_cross z c 1 (unsigned_abs d) (omega arith) above).1 (rw (pos_abs d p) (omega (arith, ints, h)))

pub least_costs-le : (a : Point) (store : List Extent) (goals : List Goal) → pos 0 <ℤ a.denominator → AreOrdered store → In a store → All (λ g. All (λ t. t.0 < length store) g.terms) goals → AreFloors (numbers_of (least_costs goals store)) (costs_by goals a)
least_costs-le a store [] p ordered h known = tt
least_costs-le a store (g ∷ gs) p ordered h known = (
  whole_le-fraction (least_cost store g) (cost g a) a.denominator p (least_cost-le a store g p ordered h (All-head (λ g. All (λ t. t.0 < length store) g.terms) g gs known)),
  least_costs-le a store gs p ordered h (All-tail (λ g. All (λ t. t.0 < length store) g.terms) g gs known),
)

-- At a node whose variables are all fixed: its point, and the lines that it allows.
use Rattle.std.proofs.Common.{◌≡◌, ℕ, ◌<◌, Bool, true, false, cond, List, [], ◌∷◌, Some, length, get_or, refl, sym, ap, subst, ◌∙◌, arith, inl, inr}
use Rattle.std.specs.Prelude.{ℤ, pos, ◌+ℤ◌, ◌*ℤ◌, ◌<ℤ◌, All, IsSome, unsigned_abs, slice_get, int_le}
use Rattle.std.proofs.lemmas.Int.{ints}
use Rattle.std.proofs.lemmas.List.{length-map, get_or_default}
use Rattle.std.proofs.lemmas.List.Elements.{All-head, All-tail}
use Rattle.std.proofs.lemmas.Option.{slice_get_within, get_or_from_slice_get}
use Rattle.std.proofs.Math.Path.{fun_ext}
use Rattle.std.proofs.Math.ListN.{get_or-map}
use Rattle.sm_frac.specs.Rational.{ℚ, fraction}
use Rattle.sm_flat.specs.declared.form.Constraint.{Constraint}
use Rattle.sm_flat.specs.declared.form.Form.{Form}
use Rattle.sm_flat.specs.declared.goal.Goal.{Goal}
use Rattle.sm_flat.specs.declared.goal.Sense.{Sense}
use Rattle.sm_kinds.specs.declared.var.Var.{Var}
use Rattle.sm_flat.specs.Models.{FlatModel}
use Rattle.sm_kinds.specs.Points.{Point}
use Rattle.sm_flat.specs.Assignments.{point}
use Rattle.sm_flat.specs.Assignments.{IsAssignment}
use Rattle.sm_kinds.specs.Sums.{sum_at}
use Rattle.sm_flat.specs.Forms.{Sat}
use Rattle.sm_flat.specs.Goals.{minimised, cost, IsBetter, IsBetterBy}
use Rattle.sm_flat.specs.Solutions.{Fits}
use Rattle.sm_flat.specs.Limits.{IsFlat}
use Rattle.sm_flat.specs.Forms.{IsForm}
use Rattle.sm_store.specs.Stores.{Extent, no_extent, extent_at, least_of, greatest_of, fixed_value, fixed_at, fixed_point, IsOrdered, IsStoreOf}
use Rattle.sm_rules.specs.Floors.{Level, AreFloors, EndsNode, number_of, numbers_of}
use Rattle.sm_rules.specs.Objectives.{costs, costs_by, least_product, least_sum, least_cost, least_costs, level_of, levels}
use Rattle.sm_rules.specs.Violations.{AreFixed, IsViolated}
use Rattle.sm_flat.proofs.Meaning.{each_var}
use Rattle.sm_flat.proofs.Known.{IsKnown, form_known}
use Rattle.sm_rules.proofs.LeastCosts.{AreOrdered, minimised-sum, minimised-product, minimised-zero}
use Rattle.sm_rules.proofs.Levels.{costs_better, ends_where_reached}
use Rattle.sm_search.specs.Leaves.{AreAllFixed, first_values}
use Rattle.sm_search.proofs.Sizes.{fixed_some, ends_same}

-- ---- the point of a store

values_at : (store : List Extent) (i : ℕ) → get_or (first_values store) i (pos 0) ≡ least_of (extent_at store i)
values_at store i = get_or-map least_of store i no_extent

pub point_is : (store : List Extent) → point (pos 1) (first_values store) ≡ fixed_point store
point_is store =
    let P : (ℕ → ℤ) → Point = λ f. record { denominator = pos 1; numerator = f } in
    ap P (fun_ext (λ i. values_at store i))

-- ---- its costs are the least over the store

least_product-fixed : (c : ℤ) (e : Extent) → IsOrdered e.kind e.values → IsSome (fixed_value e.kind e.values) → least_product c e ≡ c *ℤ least_of e
least_product-fixed c e ordered one = by_test (int_le (pos 0) c)
  where
    by_test : (b : Bool) → cond b (c *ℤ least_of e) (c *ℤ greatest_of e) ≡ c *ℤ least_of e
    by_test true = refl
    by_test false = rw (ends_same e.kind e.values ordered one) refl

least_sum-fixed : (s : Sense) (store : List Extent) (ts : List (ℕ × ℤ)) → AreOrdered store → AreAllFixed store → All (λ t. t.0 < length store) ts → least_sum s store ts ≡ minimised s (sum_at ts (fixed_point store).numerator)
least_sum-fixed s store [] ordered fixed known = sym (minimised-zero s)
least_sum-fixed s store (t ∷ ts) ordered fixed known =
    let lt = All-head (λ t. t.0 < length store) t ts known in
    let one = least_product-fixed (minimised s t.1) (extent_at store t.0) (ordered t.0 lt) (fixed t.0 lt) in
    let rest = least_sum-fixed s store ts ordered fixed (All-tail (λ t. t.0 < length store) t ts known) in
    let whole : minimised s ((t.1 *ℤ least_of (extent_at store t.0)) +ℤ sum_at ts (fixed_point store).numerator) ≡ (minimised s t.1 *ℤ least_of (extent_at store t.0)) +ℤ minimised s (sum_at ts (fixed_point store).numerator) = minimised-sum s (t.1 *ℤ least_of (extent_at store t.0)) (sum_at ts (fixed_point store).numerator) ∙ ap (λ (z : ℤ). z +ℤ minimised s (sum_at ts (fixed_point store).numerator)) (minimised-product s t.1 (least_of (extent_at store t.0))) in
    rw (one, rest) (sym whole)

least_cost-fixed : (store : List Extent) (g : Goal) → AreOrdered store → AreAllFixed store → All (λ t. t.0 < length store) g.terms → least_cost store g ≡ cost g (fixed_point store)
least_cost-fixed store g ordered fixed known =
    let sum = sum_at g.terms (fixed_point store).numerator in
    let e : g.constant *ℤ pos 1 ≡ g.constant = omega (arith, ints) in
    let whole : cost g (fixed_point store) ≡ minimised g.sense sum +ℤ minimised g.sense g.constant = ap (λ (z : ℤ). minimised g.sense (sum +ℤ z)) e ∙ minimised-sum g.sense sum g.constant in
    rw (least_sum-fixed g.sense store g.terms ordered fixed known) (sym whole)

costs-fixed : (store : List Extent) (goals : List Goal) → AreOrdered store → AreAllFixed store → All (λ (g : Goal). All (λ t. t.0 < length store) g.terms) goals → numbers_of (least_costs goals store) ≡ costs_by goals (fixed_point store)
costs-fixed store [] ordered fixed known = refl
costs-fixed store (g ∷ gs) ordered fixed known =
    let here = least_cost-fixed store g ordered fixed (All-head (λ (g : Goal). All (λ t. t.0 < length store) g.terms) g gs known) in
    let rest = costs-fixed store gs ordered fixed (All-tail (λ (g : Goal). All (λ t. t.0 < length store) g.terms) g gs known) in
    rw (here, rest) refl

-- ---- what is no better than the best lets the floors end the node

length-costs : (goals : List Goal) (a : Point) → length (costs_by goals a) ≡ length goals
length-costs goals a = length-map {B = ℚ} goals (λ g. fraction (cost g a) (unsigned_abs a.denominator))

pub ends_leaf : (m : FlatModel) (store : List Extent) (floors : List (ℤ × ℤ)) (b : Point) → AreOrdered store → AreAllFixed store → All (λ (g : Goal). All (λ t. t.0 < length store) g.terms) m.goals → length floors ≡ length m.goals → AreFloors (numbers_of (least_costs m.goals store)) (numbers_of floors) → pos 0 <ℤ b.denominator → (IsBetter m (fixed_point store) b → ⊥) → EndsNode (numbers_of floors) (levels m b)
ends_leaf m store floors b ordered fixed known each raised positive none =
    let reach : AreFloors (costs m (fixed_point store)) (numbers_of floors) = rw (costs-fixed store m.goals ordered fixed known) at raised in
    let one : length (numbers_of floors) ≡ length m.goals = length-map {B = ℚ} floors number_of ∙ each in
    let two : length (levels m b) ≡ length m.goals = length-map {B = Level} m.goals (level_of m b) in
    let three = length-costs m.goals (fixed_point store) in
    ends_where_reached (numbers_of floors) (costs m (fixed_point store)) (levels m b) (omega arith) reach (omega arith) (λ less. none (costs_better m (fixed_point store) b m.goals (omega (arith, ints)) positive less))

pub better_irrefl : (goals : List Goal) (a : Point) → IsBetterBy goals a a → ⊥
better_irrefl [] a h = h
better_irrefl (g ∷ gs) a (inl less) = absurd (omega (arith, ints))
better_irrefl (g ∷ gs) a (inr same) = better_irrefl gs a same.1

-- ---- it fits, and a constraint that fails there is violated

pub fits_leaf : (m : FlatModel) (store : List Extent) → IsStoreOf m store → AreAllFixed store → Fits m (fixed_point store)
fits_leaf m store of fixed = record {
  positive = omega (arith, ints);
  lies = λ i lt.
      let lt' : i < length store = omega (arith, of.wide) in
      let e = extent_at store i in
      (of.parts i lt').within 0 (pos 0) (fixed_some e.kind e.values (fixed i lt'));
}

form_fixed : (vars : List Var) (store : List Extent) (f : Form) → length store ≡ length vars → AreAllFixed store → IsForm vars f → AreFixed store f
form_fixed vars store f wide fixed fits =
    each_var (IsKnown vars) (λ i. IsSome (fixed_at store i)) (λ i known. fixed i (omega (arith, wide, known))) f (form_known vars f fits)

pub violated_leaf : (m : FlatModel) (store : List Extent) (k : ℕ) (c : Constraint) → IsFlat m → IsStoreOf m store → AreAllFixed store → slice_get m.constraints k ≡ Some c → (Sat c.form (fixed_point store) → ⊥) → IsViolated m store k
violated_leaf m store k c flat of fixed is fails = record {
  constraint = c;
  is = is;
  fixed = form_fixed m.vars store c.form of.wide fixed (limits_at m k c flat is);
  fails = fails;
}
  where
    limits_at : (m : FlatModel) (k : ℕ) (c : Constraint) → IsFlat m → slice_get m.constraints k ≡ Some c → IsForm m.vars c.form
    limits_at m k c flat is =
        let e = get_or_from_slice_get m.constraints k c c is in
        let P : Constraint → Type 0 = λ c. IsForm m.vars c.form in
        subst P e (flat.constraints.each k c (slice_get_within m.constraints k c is)).fits

-- ---- it is an assignment

pub assignment_leaf : (m : FlatModel) (store : List Extent) → IsStoreOf m store → AreAllFixed store → IsAssignment (pos 1) (first_values store)
assignment_leaf m store of fixed = record {
  least = omega (arith, ints);
  most = omega (arith, ints);
  small = λ i d lt.
      let lt' : i < length store = omega (arith, length-map {B = ℤ} store least_of) in
      let e : get_or (first_values store) i d ≡ least_of (extent_at store i) = get_or_default (first_values store) i d (pos 0) lt ∙ values_at store i in
      let x = extent_at store i in
      let small = (of.parts i lt').ordered.small 0 (pos 0) (fixed_some x.kind x.values (fixed i lt')) in
      rw e (omega arith);
}

-- Floors that end a node leave no better assignment in it, and floors that no better one keeps from ending it do.
use Rattle.std.proofs.Common.{◌≡◌, ℕ, ◌<◌, ◌↔◌, Bool, true, false, List, [], ◌∷◌, length, map, refl, arith, sym, ap, ◌∙◌, inl, inr}
use Rattle.std.specs.Prelude.{ℤ, pos, ◌+ℤ◌, ◌*ℤ◌, neg_ℤ, ◌<ℤ◌, ◌≤ℤ◌, All, unsigned_abs, ◌&&◌}
use Rattle.std.specs.List.{list_all}
use Rattle.std.proofs.lemmas.Int.{ints, by_lt_z}
use Rattle.std.proofs.lemmas.List.Elements.{All-head, All-tail}
use Rattle.std.proofs.Math.IntN.{*ℤ_comm, *ℤ-zero}
use Rattle.sm_frac.proofs.IntRing.{*ℤ_assoc, +ℤ-*ℤ, pos_abs}
use Rattle.sm_frac.specs.Rational.{ℚ, ◌-ℚ◌, ◌+ℚ◌, ◌≤ℚ◌, ◌<ℚ◌, one_ℚ, whole_ℚ, fraction, fraction_same, neg_ℚ-fraction, is_nonnegative}
use Rattle.sm_frac.proofs.OperationLemmas.{fraction_cross}
use Rattle.sm_frac.proofs.Order.{le_equal, le_trans, le_antisymm, lt_not_le, lt_from_not_le, le_from_lt, fraction_le_cross}
use Rattle.sm_frac.proofs.CommonDenominator.{fraction_sum, whole_over, whole_le}
use Rattle.sm_flat.specs.declared.goal.Goal.{Goal}
use Rattle.sm_flat.specs.declared.goal.Sense.{Sense}
use Rattle.sm_flat.specs.declared.goal.Sense.TheVariants.{Minimise, Maximise, Satisfy}
use Rattle.sm_kinds.specs.declared.var.VarKind.{VarKind}
use Rattle.sm_kinds.specs.declared.var.VarKind.TheVariants.{Set, Int, Real}
use Rattle.sm_flat.specs.Models.{FlatModel}
use Rattle.sm_kinds.specs.Vars.{LiesIn, var_at}
use Rattle.sm_kinds.specs.Points.{Point}
use Rattle.sm_kinds.specs.Sums.{sum_at}
use Rattle.sm_flat.specs.Goals.{minimised, worth, cost, IsBetterBy}
use Rattle.sm_flat.specs.Solutions.{Fits}
use Rattle.sm_rules.specs.Floors.{Level, Reaches, EndsNode, AreFloors, CostLess, IsWholeNumber, FitsLevel, FitLevels}
use Rattle.sm_rules.specs.Objectives.{costs_by, is_discrete, is_whole, level_of}
use Rattle.sm_rules.proofs.Integers.{mul-neg}
use Rattle.sm_store.proofs.Ends.{one_of_at}

-- ---- cross products and rational numbers

above : (d : ℤ) → pos 0 <ℤ d → 0 < unsigned_abs d
above d p = omega (arith, ints)

pub fraction_lt : (m n d e : ℤ) → pos 0 <ℤ d → pos 0 <ℤ e → ((m *ℤ e) <ℤ (n *ℤ d)) ↔ (fraction m (unsigned_abs d) <ℚ fraction n (unsigned_abs e))
fraction_lt m n d e p q =
    let cross = fraction_le_cross n m (unsigned_abs e) (unsigned_abs d) (above e q) (above d p) in
    let back : ((n *ℤ d) ≤ℤ (m *ℤ e)) → fraction n (unsigned_abs e) ≤ℚ fraction m (unsigned_abs d) = λ h. cross.1 (rw (pos_abs d p, pos_abs e q) h) in
    let there : fraction n (unsigned_abs e) ≤ℚ fraction m (unsigned_abs d) → (n *ℤ d) ≤ℤ (m *ℤ e) = λ h. rw (pos_abs d p, pos_abs e q) at (cross.0 h) in (
      λ lt. lt_from_not_le _ _ (λ le. let k = there le in absurd (omega (arith, ints, k))),
      λ lt. by_lt_z (m *ℤ e) (n *ℤ d) (λ l. l) (λ le. absurd (lt_not_le _ _ lt (back le))),
    )

pub fraction_equal : (m n d e : ℤ) → pos 0 <ℤ d → pos 0 <ℤ e → (m *ℤ e ≡ n *ℤ d) ↔ (fraction m (unsigned_abs d) ≡ fraction n (unsigned_abs e))
fraction_equal m n d e p q = (
  λ h. fraction_same m n (unsigned_abs d) (unsigned_abs e) (above d p) (above e q) (rw (pos_abs d p, pos_abs e q) h),
  λ h. rw (pos_abs d p, pos_abs e q) at (fraction_cross m n (unsigned_abs d) (unsigned_abs e) (above d p) (above e q) h),
)

pub better_costs : (m : FlatModel) (a b : Point) (goals : List Goal) → pos 0 <ℤ a.denominator → pos 0 <ℤ b.denominator → IsBetterBy goals a b → CostLess (costs_by goals a) (map (level_of m b) goals)
better_costs m a b [] p q better = better
better_costs m a b (g ∷ gs) p q (inl less) = inl ((fraction_lt (cost g a) (cost g b) a.denominator b.denominator p q).0 less)
better_costs m a b (g ∷ gs) p q (inr same) = inr ((fraction_equal (cost g a) (cost g b) a.denominator b.denominator p q).0 same.0, better_costs m a b gs p q same.1)

pub costs_better : (m : FlatModel) (a b : Point) (goals : List Goal) → pos 0 <ℤ a.denominator → pos 0 <ℤ b.denominator → CostLess (costs_by goals a) (map (level_of m b) goals) → IsBetterBy goals a b
costs_better m a b [] p q less = less
costs_better m a b (g ∷ gs) p q (inl less) = inl ((fraction_lt (cost g a) (cost g b) a.denominator b.denominator p q).1 less)
costs_better m a b (g ∷ gs) p q (inr same) = inr ((fraction_equal (cost g a) (cost g b) a.denominator b.denominator p q).1 same.0, costs_better m a b gs p q same.1)

-- ---- goals over variables with whole values have whole values

pub record IsMultiple (n d : ℤ) : Type 0 where
  pub by : ℤ
  pub is : n ≡ by *ℤ d

discrete_whole : (kind : VarKind) (vs : List ℤ) (n d : ℤ) → is_discrete kind ≡ true → LiesIn kind vs n d → IsMultiple n d
discrete_whole Set vs n d e h = let at = one_of_at n d vs h in record { by = _; is = at.is }
discrete_whole Int vs n d e h = record { by = h.1.0; is = h.1.1 }
discrete_whole Real vs n d e h = absurd (cc)

pub both_true : (b c : Bool) → (b && c) ≡ true → (b ≡ true) × (c ≡ true)
both_true true c e = (refl, e)
both_true false c e = absurd (cc)

sum_whole : (m : FlatModel) (a : Point) (ts : List (ℕ × ℤ)) → Fits m a → All (λ t. t.0 < length m.vars) ts → list_all (λ t. is_discrete (var_at m.vars t.0).kind) ts ≡ true → IsMultiple (sum_at ts a.numerator) a.denominator
sum_whole m a [] fits known e = record { by = pos 0; is = sym (*ℤ_comm (pos 0) a.denominator ∙ *ℤ-zero a.denominator) }
sum_whole m a (t ∷ ts) fits known e =
    let v = var_at m.vars t.0 in
    let both = both_true (is_discrete v.kind) (list_all (λ t. is_discrete (var_at m.vars t.0).kind) ts) e in
    let one = discrete_whole v.kind v.values (a.numerator t.0) a.denominator both.0 (fits.lies t.0 (All-head (λ t. t.0 < length m.vars) t ts known)) in
    let rest = sum_whole m a ts fits (All-tail (λ t. t.0 < length m.vars) t ts known) both.1 in
    record { by = (t.1 *ℤ one.by) +ℤ rest.by; is = joined t.1 one.by rest.by (a.numerator t.0) (sum_at ts a.numerator) a.denominator one.is rest.is }
  where
    joined : (c k r n s d : ℤ) → n ≡ k *ℤ d → s ≡ r *ℤ d → (c *ℤ n) +ℤ s ≡ ((c *ℤ k) +ℤ r) *ℤ d
    joined c k r n s d e f = rw (e, f, +ℤ-*ℤ (c *ℤ k) r d, *ℤ_assoc c k d) refl

minimised_multiple : (s : Sense) (n d : ℤ) → IsMultiple n d → IsMultiple (minimised s n) d
minimised_multiple Minimise n d h = h
minimised_multiple Maximise n d h = record { by = neg_ℤ h.by; is = ap neg_ℤ h.is ∙ sym (mul-neg h.by d) }
minimised_multiple Satisfy n d h = h

cost_whole : (m : FlatModel) (a : Point) (g : Goal) → Fits m a → All (λ t. t.0 < length m.vars) g.terms → is_whole m g ≡ true → IsMultiple (cost g a) a.denominator
cost_whole m a g fits known e =
    let sum = sum_whole m a g.terms fits known e in
    minimised_multiple g.sense (worth g a) a.denominator (record { by = sum.by +ℤ g.constant; is = rw (sum.is, +ℤ-*ℤ sum.by g.constant a.denominator) refl })

whole_fraction : (n d : ℤ) → pos 0 <ℤ d → IsMultiple n d → IsWholeNumber (fraction n (unsigned_abs d))
whole_fraction n d p h = record { number = h.by; is = rw h.is (ap (λ (z : ℤ). fraction (h.by *ℤ z) (unsigned_abs d)) (sym (pos_abs d p)) ∙ sym (whole_over h.by (unsigned_abs d) (above d p))) }

fit_levels : (m : FlatModel) (a b : Point) (goals : List Goal) → Fits m a → Fits m b → All (λ (g : Goal). All (λ t. t.0 < length m.vars) g.terms) goals → FitLevels (costs_by goals a) (map (level_of m b) goals)
fit_levels m a b [] fa fb known = tt
fit_levels m a b (g ∷ gs) fa fb known =
    let here = All-head (λ (g : Goal). All (λ t. t.0 < length m.vars) g.terms) g gs known in (
      record {
        value = λ e. whole_fraction (cost g a) a.denominator fa.positive (cost_whole m a g fa here e);
        best = λ e. whole_fraction (cost g b) b.denominator fb.positive (cost_whole m b g fb here e);
      },
      fit_levels m a b gs fa fb (All-tail (λ (g : Goal). All (λ t. t.0 < length m.vars) g.terms) g gs known),
    )

-- ---- the theorem

one_less : (z : ℤ) → whole_ℚ (z +ℤ neg_ℤ (pos 1)) ≡ whole_ℚ z -ℚ one_ℚ
one_less z = sym (fraction_sum z (neg_ℤ (pos 1)) 1 (omega arith)) ∙ ap (λ (q : ℚ). whole_ℚ z +ℚ q) (sym (neg_ℚ-fraction (pos 1) 1 (omega arith)))

-- a whole number that is at least a floor above another whole number less one
whole_reaches : (v b g : ℚ) → IsWholeNumber v → IsWholeNumber b → g ≤ℚ v → (b -ℚ one_ℚ) <ℚ g → b ≤ℚ v
whole_reaches v b g wv wb low over =
    by_lt_z wv.number wb.number
    (λ (lt : wv.number <ℤ wb.number).
    let under : whole_ℚ wv.number ≤ℚ whole_ℚ (wb.number +ℤ neg_ℤ (pos 1)) = whole_le _ _ (omega (arith, ints)) in
    let up : whole_ℚ (wb.number +ℤ neg_ℤ (pos 1)) ≡ b -ℚ one_ℚ = one_less wb.number ∙ ap (λ (q : ℚ). q -ℚ one_ℚ) (sym wb.is) in
    let le : v ≤ℚ (b -ℚ one_ℚ) = le_trans v (whole_ℚ wv.number) (b -ℚ one_ℚ) (le_equal _ _ wv.is) (le_trans _ _ _ under (le_equal _ _ up)) in
    absurd (lt_not_le (b -ℚ one_ℚ) g over (le_trans g v (b -ℚ one_ℚ) low le)))
    (λ le. le_trans b (whole_ℚ wb.number) v (le_equal _ _ wb.is) (le_trans _ _ _ (whole_le _ _ le) (le_equal _ _ (sym wv.is))))

reached : (g v : ℚ) (l : Level) → FitsLevel v l → g ≤ℚ v → Reaches g l → l.best ≤ℚ v
reached g v l fits low (inl at) = le_trans l.best g v at low
reached g v l fits low (inr whole) = whole_reaches v l.best g (fits.value whole.0) (fits.best whole.0) low whole.1

ends_none : (gs : List ℚ) (ls : List Level) (vs : List ℚ) → FitLevels vs ls → AreFloors gs vs → EndsNode gs ls → CostLess vs ls → ⊥
ends_none gs [] vs fit floors ends less = less
ends_none [] (l ∷ ls) vs fit floors ends less = ends
ends_none (g ∷ gs) (l ∷ ls) [] fit floors ends less = less
ends_none (g ∷ gs) (l ∷ ls) (v ∷ vs) fit floors (inl over) (inl less) = lt_not_le l.best g over (le_trans g v l.best floors.0 (le_from_lt v l.best less))
ends_none (g ∷ gs) (l ∷ ls) (v ∷ vs) fit floors (inl over) (inr same) = lt_not_le l.best g over (le_trans g v l.best floors.0 (le_equal v l.best same.0))
ends_none (g ∷ gs) (l ∷ ls) (v ∷ vs) fit floors (inr reach) (inl less) = lt_not_le v l.best less (reached g v l fit.0 floors.0 reach.0)
ends_none (g ∷ gs) (l ∷ ls) (v ∷ vs) fit floors (inr reach) (inr same) = ends_none gs ls vs fit.1 floors.1 reach.1 same.1

-- where the floors end a node, no assignment that costs at least these is better than the best
pub none_better : (m : FlatModel) (a b : Point) (gs : List ℚ) → Fits m a → Fits m b → All (λ (g : Goal). All (λ t. t.0 < length m.vars) g.terms) m.goals → AreFloors gs (costs_by m.goals a) → EndsNode gs (map (level_of m b) m.goals) → IsBetterBy m.goals a b → ⊥
none_better m a b gs fa fb known floors ends better =
    ends_none gs (map (level_of m b) m.goals) (costs_by m.goals a) (fit_levels m a b m.goals fa fb known) floors ends (better_costs m a b m.goals fa.positive fb.positive better)

-- ---- and back

-- floors that the costs don't pass, and costs that are no better than the best
pub ends_where_reached : (gs vs : List ℚ) (ls : List Level) → length gs ≡ length ls → AreFloors vs gs → length vs ≡ length gs → (CostLess vs ls → ⊥) → EndsNode gs ls
ends_where_reached gs vs [] same reach each none = tt
ends_where_reached [] vs (l ∷ ls) same reach each none = absurd (omega arith)
ends_where_reached (g ∷ gs) [] (l ∷ ls) same reach each none = absurd (omega arith)
ends_where_reached (g ∷ gs) (v ∷ vs) (l ∷ ls) same reach each none =
    by_test (λ rest. ends_where_reached gs vs ls (omega arith) reach.1 (omega arith) rest) (is_nonnegative (l.best -ℚ g)) refl
  where
    reaches : (g ≤ℚ l.best) → (l.best ≤ℚ v) → v ≡ l.best
    reaches low high = le_antisymm v l.best (le_trans v g l.best reach.0 low) high

    at : ((CostLess vs ls → ⊥) → EndsNode gs ls) → (low : g ≤ℚ l.best) → (b : Bool) → is_nonnegative (v -ℚ l.best) ≡ b → EndsNode (g ∷ gs) (l ∷ ls)
    at rest low true e =
        let high : l.best ≤ℚ v = record { le = e } in
        inr (inl (le_trans l.best v g high reach.0), rest (λ less. none (inr (reaches low high, less))))
    at rest low false e = absurd (none (inl (record { lt = e })))

    by_test : ((CostLess vs ls → ⊥) → EndsNode gs ls) → (b : Bool) → is_nonnegative (l.best -ℚ g) ≡ b → EndsNode (g ∷ gs) (l ∷ ls)
    by_test rest true e = at rest (record { le = e }) (is_nonnegative (v -ℚ l.best)) refl
    by_test rest false e = inl (record { lt = e })

-- The answers at the end of the path.
use Rattle.std.proofs.Common.{◌≡◌, ℕ, ℤ, pos, suc, ◌<◌, ◌≤◌, ◌*◌, ◌^◌, ◌*ℤ◌, List, length, get_or, sym, ap, ◌∙◌, refl, arith, subst, inr, unsigned_abs}
use Rattle.std.specs.Prelude.{◌≤ℤ◌, ◌<ℤ◌, nat_lt, Some, None}
use Rattle.std.proofs.lemmas.Int.{ints, unsigned_abs-mul}
use Rattle.std.proofs.lemmas.List.{get_or-map}
use Rattle.std.proofs.Math.Logic.{⊎_elim}
use Rattle.std.proofs.Math.Nat.{mul-le-mul_right}
use Rattle.sm_frac.specs.Rational.{ℚ, ◌*ℚ◌, zero_ℚ, ◌≤ℚ◌, ◌<ℚ◌, whole_ℚ, fraction}
use Rattle.sm_frac.specs.Frac.{value_of}
use Rattle.sm_frac.specs.Passes.{Passes}
use Rattle.sm_frac.specs.declared.fraction.Frac.{Frac}
use Rattle.sm_frac.specs.declared.operation.Op.{Op}
use Rattle.sm_frac.specs.declared.operation.Op.TheVariants.{Plus, Minus, Times, Over, Lcm}
use Rattle.sm_frac.proofs.OperationLemmas.{frac_same, abs_above}
use Rattle.sm_frac.proofs.CommonDenominator.{fraction_le, whole_over, whole_le}
use Rattle.sm_certificate.specs.declared.program.Program.{Program}
use Rattle.sm_certificate.specs.declared.program.LpRow.{LpRow}
use Rattle.sm_certificate.specs.Numbers.{number_at}
use Rattle.sm_certificate.specs.Conditions.{IsSolvable}
use Rattle.sm_lp.specs.Dictionary.{Dictionary, pivot, IsProper}
use Rattle.sm_lp.specs.Moves.{IsMove, IsOptimal, IsInfeasible}
use Rattle.sm_lp.specs.Rule.{place}
use Rattle.sm_certificate.specs.Program.{column_count, low, high, cost, row_coefficient, row_bound, row_value, SatisfiesRow, Satisfies, cost_of, AreMultipliers, bound_of, point_value}
use Rattle.sm_certificate.specs.Slacks.{slack_count, number_count}
use Rattle.sm_lp.specs.Steps.{column_value, IsDenominator, IsLeastCommon, JoinsBy, IsPassingStep, IsPivotStep, IsEndStep, Stands}
use Rattle.sm_lp.specs.Path.{successor, IsOnPath, numbers_below, basis_of}
use Rattle.sm_lp.specs.Answer.{goal_coefficient, turned_coefficient, multipliers_of, row_multipliers, IsOptimum, IsContradiction}
use Rattle.sm_lp.specs.Ending.{AreValues, IsValuePassed, IsCommon, IsCommonPassed, AreBoxed, denominator_at, slack_of}
use Rattle.sm_certificate.proofs.Totals.{total_same}
use Rattle.sm_lp.proofs.CommonLemmas.{common_same}
use Rattle.sm_certificate.proofs.FineLemmas.{zero_frac}
use Rattle.sm_lp.proofs.NextLemmas.{move_next, optimal_next, infeasible_next}
use Rattle.sm_lp.proofs.FirstLemmas.{IsTracked}
use Rattle.sm_lp.proofs.PathLemmas.{path_stands, no_next}
use Rattle.sm_lp.proofs.SolveLemmas.{path_tracked}
use Rattle.sm_lp.proofs.OptimumLemmas.{feasible, bound_is_cost, none_costs_less, goal_lawful, bound_positive, none_satisfies, turned_lawful}

pub ends_ordered : (p : Program) → IsSolvable p → (j : ℕ) → j < column_count p → low p j ≤ℚ high p j
unfolding low high
ends_ordered p s j l = whole_le (get_or p.columns j (pos 0, pos 0)).0 (get_or p.columns j (pos 0, pos 0)).1 (s.boxes j (pos 0, pos 0) l).ordered

pub basis_is : (h : ℕ → ℕ) (l height count n : ℕ) (items : List ℕ) → l ≡ height → count ≡ n → items ≡ numbers_below (λ y. nat_lt (place h y l) l) count → items ≡ numbers_below (λ y. nat_lt (place h y height) height) n
basis_is h l height count n items el en is = subst (λ (k : ℕ). items ≡ numbers_below (λ y. nat_lt (place h y height) height) k) en (subst (λ (k : ℕ). items ≡ numbers_below (λ y. nat_lt (place h y k) k) count) el is)

-- ---- the values lie in their boxes
between : (n x y : ℤ) (k : ℕ) → x ≤ℤ n → n ≤ℤ y → unsigned_abs x ≤ k → unsigned_abs y ≤ k → unsigned_abs n ≤ k
between n x y k lo hi a b = omega (arith, ints)

scaled_small : (a : ℤ) (d : ℕ) → unsigned_abs a ≤ 2 ^ 31 → unsigned_abs (a *ℤ pos d) ≤ 2 ^ 31 * d
scaled_small a d h = let size = unsigned_abs-mul a (pos d) in let most : unsigned_abs a * d ≤ 2 ^ 31 * d = mul-le-mul_right d h in omega arith

boxed_frac : (f : Frac) (a b : ℤ) → unsigned_abs a ≤ 2 ^ 31 → unsigned_abs b ≤ 2 ^ 31 → whole_ℚ a ≤ℚ value_of f → value_of f ≤ℚ whole_ℚ b → unsigned_abs f.n ≤ 2 ^ 31 * unsigned_abs f.d
unfolding value_of
boxed_frac f a b ha hb lo hi =
    let d = unsigned_abs f.d in
    let some : 0 < d = abs_above f.d f.positive in
    let x = (fraction_le (a *ℤ pos d) f.n d some).0 (subst (λ (q : ℚ). q ≤ℚ fraction f.n d) (whole_over a d some) lo) in
    let y = (fraction_le f.n (b *ℤ pos d) d some).0 (subst (λ (q : ℚ). fraction f.n d ≤ℚ q) (whole_over b d some) hi) in
    between f.n (a *ℤ pos d) (b *ℤ pos d) (2 ^ 31 * d) x y (scaled_small a d ha) (scaled_small b d hb)

pub values_boxed : (p : Program) (d : Dictionary) (values : List Frac) → IsSolvable p → IsTracked p d → IsOptimal d (column_count p) (slack_count p) → AreValues p d values → AreBoxed values
unfolding low high
values_boxed p d values s t o v = record {
  boxed = λ j z l.
      let inside : j < column_count p = (let long = v.long in omega arith) in
      let f = get_or values j z in
      let box = s.boxes j (pos 0, pos 0) inside in
      let is : column_value p d j ≡ value_of f = sym (v.exact j inside) ∙ get_or-map value_of values j z zero_ℚ l in
      let all = feasible p d t o in
      boxed_frac f (get_or p.columns j (pos 0, pos 0)).0 (get_or p.columns j (pos 0, pos 0)).1 box.least box.greatest (subst (λ (q : ℚ). low p j ≤ℚ q) is (all.least_ends j inside)) (subst (λ (q : ℚ). q ≤ℚ high p j) is (all.greatest_ends j inside));
}

-- ---- points that agree in the columns
cost_moved : (p : Program) (x y : ℕ → ℚ) → ((j : ℕ) → j < column_count p → x j ≡ y j) → cost_of p x ≡ cost_of p y
cost_moved p x y same = total_same (column_count p) (λ j. cost p j *ℚ x j) (λ j. cost p j *ℚ y j) (λ j l. ap (λ (q : ℚ). cost p j *ℚ q) (same j l))

row_moved : (n : ℕ) (x y : ℕ → ℚ) (row : LpRow) → ((j : ℕ) → j < n → x j ≡ y j) → SatisfiesRow n x row → SatisfiesRow n y row
row_moved n x y row same h =
    let is : row_value n row x ≡ row_value n row y = total_same n (λ j. row_coefficient row j *ℚ x j) (λ j. row_coefficient row j *ℚ y j) (λ j l. ap (λ (q : ℚ). row_coefficient row j *ℚ q) (same j l)) in
    (subst (λ (q : ℚ). row_bound row ≤ℚ q) is h.0, λ e. sym is ∙ h.1 e)

satisfies_moved : (p : Program) (x y : ℕ → ℚ) → ((j : ℕ) → j < column_count p → x j ≡ y j) → Satisfies p x → Satisfies p y
satisfies_moved p x y same h = record {
  least_ends = λ j l. subst (λ (q : ℚ). low p j ≤ℚ q) (same j l) (h.least_ends j l);
  greatest_ends = λ j l. subst (λ (q : ℚ). q ≤ℚ high p j) (same j l) (h.greatest_ends j l);
  rows = λ k z l. row_moved (column_count p) x y (get_or p.rows k z) same (h.rows k z l);
}

denominator_is : (values : List Frac) (j : ℕ) (x : ℚ) → j < length values → number_at values j ≡ x → IsDenominator x (denominator_at values j)
denominator_is values j x l is =
    let z = get_or values j zero_frac in
    (z, sym (get_or-map value_of values j zero_frac zero_ℚ l) ∙ is, sym (get_or-map (λ (f : Frac). unsigned_abs f.d) values j zero_frac 0 l))

one_denominator : (values : List Frac) (j : ℕ) (x : ℚ) (e : ℕ) → j < length values → number_at values j ≡ x → IsDenominator x e → e ≡ denominator_at values j
one_denominator values j x e l is d =
    let z = get_or values j zero_frac in
    let same = frac_same d.0 z (d.1 ∙ sym is ∙ get_or-map value_of values j zero_frac zero_ℚ l) in
    sym d.2 ∙ ap unsigned_abs same.1 ∙ sym (get_or-map (λ (f : Frac). unsigned_abs f.d) values j zero_frac 0 l)

pub optimum : (p : Program) (d : Dictionary) (values : List Frac) (denominator : ℤ) (point : List ℤ) (ms : List ℚ) → IsSolvable p → IsTracked p d → IsOptimal d (column_count p) (slack_count p) → AreValues p d values → IsCommon values denominator → length point ≡ length values
    → ((j : ℕ) → j < length values → point_value point denominator j ≡ number_at values j) → ms ≡ multipliers_of p (goal_coefficient p d) → IsOptimum p denominator point ms
optimum p d values denominator point ms s t o v c long exact em =
    let order = ends_ordered p s in
    let x = point_value point denominator in
    let costs : cost_of p (column_value p d) ≡ cost_of p x = cost_moved p (column_value p d) x (λ j l. sym (is_value j l)) in
    record {
      pair = record {
        above = above;
        long = long ∙ v.long;
        satisfies = satisfies_moved p (column_value p d) x (λ j l. sym (is_value j l)) (feasible p d t o);
        multipliers_lawful = subst (λ (ys : List ℚ). AreMultipliers p.rows ys) (sym em) (goal_lawful p d t o);
        bound = sym costs ∙ bound_is_cost p d t o order ∙ ap (bound_of p (cost p)) (sym em);
      };
      least = λ z sz. subst (λ (q : ℚ). q ≤ℚ cost_of p z) costs (none_costs_less p d t o order z sz);
      common = (denominator_at values, λ j l. denominator_is values j (x j) (at_value j l) (sym (exact j (at_value j l))), subst (λ (k : ℕ). IsLeastCommon k (denominator_at values) (unsigned_abs denominator)) v.long c.common);
    }
  where
    above : pos 0 <ℤ denominator
    above = let low = c.least in omega (arith, ints)

    at_value : (j : ℕ) → j < column_count p → j < length values
    at_value j l = let n = v.long in omega arith

    is_value : (j : ℕ) → j < column_count p → point_value point denominator j ≡ column_value p d j
    is_value j l = exact j (at_value j l) ∙ v.exact j l

pub contradiction : (p : Program) (d : Dictionary) (r : ℕ) (ms : List ℚ) → IsSolvable p → IsTracked p d → IsInfeasible d (column_count p) (slack_count p) r → ms ≡ multipliers_of p (turned_coefficient p d r) → IsContradiction p ms
contradiction p d r ms s t o em =
    let order = ends_ordered p s in
    record {
      shows = record {
        multipliers_lawful = subst (λ (ys : List ℚ). AreMultipliers p.rows ys) (sym em) (turned_lawful p d t r o);
        positive = subst (λ (ys : List ℚ). zero_ℚ <ℚ bound_of p (λ _. zero_ℚ) ys) (sym em) (bound_positive p d t r o order);
      };
      none = none_satisfies p d t r o order;
    }

-- ---- the steps at the end
pub value_step : (p : Program) (d : Dictionary) (op : Op) (left right : Frac) → IsOptimal d (column_count p) (slack_count p) → IsValuePassed p d op left right → IsPassingStep p d op left right
value_step p d op left right o h = subst (λ (q : Op). IsPassingStep p d q left right) (sym h.operation) (record { step = inr (o, (h.column, h.inside, h.left_is, h.right_is)); passes = h.passes })

pub common_step : (p : Program) (d : Dictionary) (values : List Frac) (op : Op) (left right : Frac) → IsOptimal d (column_count p) (slack_count p) → AreValues p d values → IsCommonPassed values op left right → IsPassingStep p d op left right
common_step p d values op left right o v h =
    subst (λ (q : Op). IsPassingStep p d q left right) (sym h.passed.operation) (record {
      step = inr (o, (h.place, denominator_at values, h.before, (let n = v.long in let l = h.inside in omega arith), (λ i l. denominator_is values i (column_value p d i) (let k = h.inside in omega arith) (v.exact i (let n = v.long in let k = h.inside in omega arith))), h.common, h.most, h.passed.step));
      passes = h.passed.passes;
    })

no_move : (p : Program) (d : Dictionary) → IsTracked p d → successor p d ≡ None → (r c : ℕ) → IsMove d (column_count p) (slack_count p) r c → ⊥
no_move p d t last r c m = no_next (pivot d r c) (sym last ∙ move_next d (column_count p) (slack_count p) (number_count p) t.dictionary.good r c m)

end_fine : (p : Program) (d : Dictionary) (values : List Frac) (denominator : ℤ) → AreValues p d values → IsCommon values denominator → (op : Op) (left right : Frac) → IsEndStep p d op (value_of left) (value_of right) → Passes op left right → ⊥
end_fine p d values denominator v c Plus left right e passes = (v.fine e.0 e.1).fine left right (e.2) (e.3) passes
end_fine p d values denominator v c Lcm left right e passes =
    let j = e.0 in
    let n = v.long in
    let inside : j < length values = (let l = e.3 in omega arith) in
    let dens = λ (i : ℕ) (l : i ≤ j). same_denominator e.0 e.1 e.3 e.4 i l in
    let common = common_same j e.1 (denominator_at values) e.2 (λ i l. dens i (omega arith)) e.5 in
    (c.fine j e.2 (value_of left) (value_of right) inside common (subst (λ (k : ℕ). JoinsBy e.2 k (value_of left) (value_of right)) (dens j (omega arith)) e.7)).fine left right refl refl passes
  where
    same_denominator : (j : ℕ) (denominators : ℕ → ℕ) → j < column_count p → ((i : ℕ) → i ≤ j → IsDenominator (column_value p d i) (denominators i)) → (i : ℕ) → i ≤ j → denominators i ≡ denominator_at values i
    same_denominator j denominators inside dens i l = one_denominator values i (column_value p d i) (denominators i) (let n = v.long in omega arith) (v.exact i (omega arith)) (dens i l)
end_fine p d values denominator v c Times left right e passes = e
end_fine p d values denominator v c Over left right e passes = e
end_fine p d values denominator v c Minus left right e passes = e

optimal_stands : (p : Program) (d : Dictionary) (values : List Frac) (denominator : ℤ) → IsTracked p d → successor p d ≡ None → AreValues p d values → IsCommon values denominator → Stands p d
optimal_stands p d values denominator t last v c op left right s = ⊎_elim
    (λ (a : (r : ℕ) × (k : ℕ) × IsMove d (column_count p) (slack_count p) r k × IsPivotStep d r k op (value_of left) (value_of right)). no_move p d t last a.0 a.1 a.2)
    (λ (b : IsOptimal d (column_count p) (slack_count p) × IsEndStep p d op (value_of left) (value_of right)). end_fine p d values denominator v c op left right b.1 s.passes)
    s.step

infeasible_stands : (p : Program) (d : Dictionary) (r : ℕ) → IsTracked p d → successor p d ≡ None → IsInfeasible d (column_count p) (slack_count p) r → Stands p d
infeasible_stands p d r t last o op left right s = ⊎_elim
    (λ (a : (r : ℕ) × (k : ℕ) × IsMove d (column_count p) (slack_count p) r k × IsPivotStep d r k op (value_of left) (value_of right)). no_move p d t last a.0 a.1 a.2)
    (λ (b : IsOptimal d (column_count p) (slack_count p) × IsEndStep p d op (value_of left) (value_of right)). o.constant.is (b.0.constants r o.row o.not_goal))
    s.step

pub optimal_exact : (p : Program) (d : Dictionary) (values : List Frac) (denominator : ℤ) → IsOnPath p d → IsOptimal d (column_count p) (slack_count p) → AreValues p d values → IsCommon values denominator → (e : Dictionary) → IsOnPath p e → Stands p e
optimal_exact p d values denominator h o v c =
    let t = path_tracked p d h in
    let last = optimal_next d (column_count p) (slack_count p) (number_count p) t.dictionary.good o in
    path_stands p d h last (optimal_stands p d values denominator t last v c)

pub infeasible_exact : (p : Program) (d : Dictionary) (r : ℕ) → IsOnPath p d → IsInfeasible d (column_count p) (slack_count p) r → (e : Dictionary) → IsOnPath p e → Stands p e
infeasible_exact p d r h o =
    let t = path_tracked p d h in
    let last = infeasible_next d (column_count p) (slack_count p) (number_count p) t.dictionary.good r o in
    path_stands p d h last (infeasible_stands p d r t last o)

-- ---- the multipliers as the code reads them
pub goal_multipliers : (p : Program) (d : Dictionary) (f g : ℕ) (rows : List LpRow) (ms : List ℚ) → f ≡ column_count p → g ≡ slack_count p → rows ≡ p.rows → ms ≡ row_multipliers rows (slack_of f g d None) f → ms ≡ multipliers_of p (goal_coefficient p d)
unfolding goal_coefficient
goal_multipliers p d f g rows ms ef eg er is = is ∙ ap (λ (xs : List LpRow). row_multipliers xs (slack_of f g d None) f) er ∙ ap (λ (x : ℕ). row_multipliers p.rows (slack_of x g d None) x) ef ∙ ap (λ (x : ℕ). row_multipliers p.rows (slack_of (column_count p) x d None) (column_count p)) eg

pub turned_multipliers : (p : Program) (d : Dictionary) (f g r : ℕ) (rows : List LpRow) (ms : List ℚ) → f ≡ column_count p → rows ≡ p.rows → ms ≡ row_multipliers rows (slack_of f g d (Some r)) f → ms ≡ multipliers_of p (turned_coefficient p d r)
unfolding turned_coefficient
turned_multipliers p d f g r rows ms ef er is = is ∙ ap (λ (xs : List LpRow). row_multipliers xs (slack_of f g d (Some r)) f) er ∙ ap (λ (x : ℕ). row_multipliers p.rows (slack_of x g d (Some r)) x) ef

pub optimal_here : (p : Program) (d : Dictionary) (f g : ℕ) → f ≡ column_count p → g ≡ slack_count p → IsOptimal d f g → IsOptimal d (column_count p) (slack_count p)
optimal_here p d f g ef eg o = subst (λ (x : ℕ). IsOptimal d x (slack_count p)) ef (subst (λ (x : ℕ). IsOptimal d f x) eg o)

pub infeasible_here : (p : Program) (d : Dictionary) (f g r : ℕ) → f ≡ column_count p → g ≡ slack_count p → IsInfeasible d f g r → IsInfeasible d (column_count p) (slack_count p) r
infeasible_here p d f g r ef eg o = subst (λ (x : ℕ). IsInfeasible d x (slack_count p) r) ef (subst (λ (x : ℕ). IsInfeasible d f x r) eg o)

pub path_proper : (p : Program) (d : Dictionary) → IsOnPath p d → IsProper d
path_proper p d h = (path_tracked p d h).dictionary.good.proper

-- the basis that the code lists
pub path_basis : (p : Program) (d : Dictionary) (basic : List ℕ) (count g : ℕ) (items : List ℕ) → IsOnPath p d → d.basic ≡ (λ i. get_or basic i 0) → g ≡ slack_count p → length basic ≡ suc g → count ≡ d.basic g → items ≡ numbers_below (λ y. nat_lt (place (λ i. get_or basic i 0) y (length basic)) (length basic)) count → items ≡ basis_of p d
path_basis p d basic count g items h eb eg el ec is =
    let t = path_tracked p d h in
    let top : length basic ≡ d.height = el ∙ ap suc eg ∙ sym t.dictionary.height in
    let all : count ≡ number_count p = ec ∙ ap d.basic eg ∙ t.dictionary.goal in
    basis_is d.basic (length basic) d.height count (number_count p) items top all (subst (λ (k : ℕ → ℕ). items ≡ numbers_below (λ y. nat_lt (place k y (length basic)) (length basic)) count) (sym eb) is)

pub same_reads : (xs ys : List ℕ) → xs ≡ ys → ◌≡◌ {A = ℕ → ℕ} (λ i. get_or ys i 0) (λ i. get_or xs i 0)
same_reads xs ys e = subst (λ (zs : List ℕ). ◌≡◌ {A = ℕ → ℕ} (λ i. get_or zs i 0) (λ i. get_or xs i 0)) e refl

-- the same where the list of values is read through a slice
pub values_exact : (p : Program) (d : Dictionary) (values slice : List Frac) (point : List ℤ) (denominator : ℤ) → slice ≡ values → AreValues p d values → ((j : ℕ) → j < length slice → point_value point denominator j ≡ number_at slice j) → (j : ℕ) → j < column_count p → point_value point denominator j ≡ column_value p d j
values_exact p d values slice point denominator is v exact j l =
    let here : (k : ℕ) → k < length values → point_value point denominator k ≡ number_at values k = subst (λ (xs : List Frac). (k : ℕ) → k < length xs → point_value point denominator k ≡ number_at xs k) is exact in
    here j (let n = v.long in omega arith) ∙ v.exact j l

pub optimum_read : (p : Program) (d : Dictionary) (values slice : List Frac) (denominator : ℤ) (point : List ℤ) (ms : List ℚ) → IsSolvable p → IsTracked p d → IsOptimal d (column_count p) (slack_count p) → AreValues p d values → IsCommon values denominator → slice ≡ values → length point ≡ length slice
    → ((j : ℕ) → j < length slice → point_value point denominator j ≡ number_at slice j) → ms ≡ multipliers_of p (goal_coefficient p d) → IsOptimum p denominator point ms
optimum_read p d values slice denominator point ms s t o v c is long exact em =
    optimum p d values denominator point ms s t o v c (long ∙ ap length is) (subst (λ (xs : List Frac). (j : ℕ) → j < length xs → point_value point denominator j ≡ number_at xs j) is exact) em

-- Whether a constraint holds rests on the values of its variables alone, whatever the denominator: where each of them has the
-- same value at two points, it holds at one just where it holds at the other. Each part of a kind that is computed from
-- numerators is, times the other point's denominator, the same on both sides, so that it compares in the same way.
use Rattle.std.proofs.Common.{◌≡◌, ◌∙◌, ◌↔◌, ⊎_elim, inl, inr, ap, ap₂, sym, refl, subst, ℕ, ◌+◌, ◌<◌, Bool, true, T, not, cond, arith, List, [], ◌∷◌, length, map, Option, None, Some}
use Rattle.std.proofs.lemmas.Int.{ints}
use Rattle.std.proofs.lemmas.List.Elements.{All-head, All-tail, All-map, All-weaker}
use Rattle.std.proofs.Math.IntN.{zero-*ℤ}
use Rattle.std.specs.Prelude.{ℤ, pos, ◌+ℤ◌, ◌-ℤ◌, ◌*ℤ◌, ◌≤ℤ◌, int_le, int_lt, ◌&&◌, ◌||◌, All, AllPairs, IfSome, slice_index_or}
use Rattle.std.specs.List.{list_any, list_all}
use Rattle.std.specs.Ordering.{int_eq}
use Rattle.sm_kinds.proofs.Multiples.{*ℤ_assoc, *ℤ_right_comm, +ℤ-*ℤ, -ℤ-*ℤ, times_le, times_lt, times_eq, times_cancel}
use Rattle.sm_kinds.proofs.Pigeons.{each_once}
use Rattle.sm_kinds.specs.Points.{Point, HasValue, has_value}
use Rattle.sm_kinds.specs.Sums.{sum_at}
use Rattle.sm_kinds.specs.Linear.{Compares, EachLinearVar, SatLinear}
use Rattle.sm_kinds.specs.Literals.{passes_test, is_true}
use Rattle.sm_kinds.specs.Logic.{EachLiteralVar, EachLogicVar, has_true, SatLogic}
use Rattle.sm_kinds.specs.When.{EachWhenVar, all_true, SatWhen}
use Rattle.sm_kinds.specs.Alldiff.{Differ, EachAlldiffVar, SatAlldiff}
use Rattle.sm_kinds.specs.Element.{EachEntryVar, EachElementVar, entry_value, entry_at, SatElement}
use Rattle.sm_kinds.specs.Choices.{AddUpTo, member}
use Rattle.sm_kinds.specs.IndexSum.{EachIndexSumVar, SatIndexSum}
use Rattle.sm_kinds.specs.Assign.{EachAssignVar, SatAssign}
use Rattle.sm_kinds.specs.Tasks.{EachTaskVar, EachTasksVar, is_true_if_any, is_present, start_at, end_at}
use Rattle.sm_kinds.specs.Cumulative.{EachCumulativeVar, runs_at, load_at, SatCumulative}
use Rattle.sm_kinds.specs.Disjunctive.{EachDisjunctiveVar, AreApart, SatDisjunctive}
use Rattle.sm_kinds.specs.Packing.{EachPackingVar, is_in, load_of, opening_costs, item_pick, SatPacking}
use Rattle.sm_kinds.specs.Circuit.{EachCircuitVar, successor_of, SatCircuit}
use Rattle.sm_kinds.specs.declared.linear.Cmp.{Cmp}
use Rattle.sm_kinds.specs.declared.linear.Cmp.TheVariants.{AtMost, AtLeast, Equal}
use Rattle.sm_kinds.specs.declared.linear.LinRow.{LinRow}
use Rattle.sm_kinds.specs.declared.literal.Literal.{Literal}
use Rattle.sm_kinds.specs.declared.literal.Test.{Test}
use Rattle.sm_kinds.specs.declared.literal.Test.TheVariants as tests
use Rattle.sm_kinds.specs.declared.logic.Clause.{Clause}
use Rattle.sm_kinds.specs.declared.element.Entry.{Entry}
use Rattle.sm_kinds.specs.declared.element.Entry.TheVariants.{Number, Variable}
use Rattle.sm_kinds.specs.declared.choice.Choice.{Choice}
use Rattle.sm_kinds.specs.declared.tasks.Task.{Task}
use Rattle.sm_kinds.specs.declared.packing.Item.{Item}
use Rattle.sm_kinds.specs.declared.packing.Packing.{Packing}

-- ---- lists

list_any_same : {X : Type 0} (p q : X → Bool) (xs : List X) → All (λ x. p x ≡ q x) xs → list_any p xs ≡ list_any q xs
list_any_same p q [] h = refl
list_any_same p q (x ∷ xs) h = ap₂ (λ s t. s || t) (All-head (λ y. p y ≡ q y) x xs h) (list_any_same p q xs (All-tail (λ y. p y ≡ q y) x xs h))

list_all_same : {X : Type 0} (p q : X → Bool) (xs : List X) → All (λ x. p x ≡ q x) xs → list_all p xs ≡ list_all q xs
list_all_same p q [] h = refl
list_all_same p q (x ∷ xs) h = ap₂ (λ s t. s && t) (All-head (λ y. p y ≡ q y) x xs h) (list_all_same p q xs (All-tail (λ y. p y ≡ q y) x xs h))

all_pairs_weaker : {X : Type 0} (P : X → Type 0) (R Q : X → X → Type 0) → ((x y : X) → P x → P y → R x y → Q x y) → (xs : List X) → All P xs → AllPairs R xs → AllPairs Q xs
all_pairs_weaker P R Q f xs each h i j d less lt =
    let earlier : i < length xs = omega arith in
    f (slice_index_or xs i d) (slice_index_or xs j d) (each i d earlier) (each j d lt) (h i j d less lt)

same_test : {b c : Bool} → b ≡ c → (b ≡ true) ↔ (c ≡ true)
same_test e = ((λ h. sym e ∙ h), (λ h. e ∙ h))

-- the variable has the same value at both points
abbrev pub EqualAt : Point → Point → ℕ → Type 0
EqualAt a b v = a.numerator v *ℤ b.denominator ≡ b.numerator v *ℤ a.denominator

-- where the values of b are whole: at a the variable has this whole value
pub EqualAt-whole : (a b : Point) (v : ℕ) → b.denominator ≡ pos 1 → HasValue a v (b.numerator v) → EqualAt a b v
EqualAt-whole a b v one e = ap (λ (d : ℤ). a.numerator v *ℤ d) one ∙ times_one (a.numerator v) ∙ e
  where
    times_one : (n : ℤ) → n *ℤ pos 1 ≡ n
    times_one n = omega (arith, ints)

module _ (a b : Point) (ua : pos 1 ≤ℤ a.denominator) (ub : pos 1 ≤ℤ b.denominator) where
  -- ---- numbers over the two denominators

  -- over the denominator of a the one number is what over that of b the other is
  abbrev Same : ℤ → ℤ → Type 0
  Same x y = x *ℤ b.denominator ≡ y *ℤ a.denominator

  same_zero : Same (pos 0) (pos 0)
  same_zero = zero-*ℤ b.denominator ∙ sym (zero-*ℤ a.denominator)

  same_whole : (w : ℤ) → Same (w *ℤ a.denominator) (w *ℤ b.denominator)
  same_whole w = *ℤ_right_comm w a.denominator b.denominator

  same_times : (w x y : ℤ) → Same x y → Same (w *ℤ x) (w *ℤ y)
  same_times w x y e = *ℤ_assoc w x b.denominator ∙ ap (λ (n : ℤ). w *ℤ n) e ∙ sym (*ℤ_assoc w y a.denominator)

  same_sum : (x y x' y' : ℤ) → Same x y → Same x' y' → Same (x +ℤ x') (y +ℤ y')
  same_sum x y x' y' e f = +ℤ-*ℤ x x' b.denominator ∙ ap₂ (λ (m n : ℤ). m +ℤ n) e f ∙ sym (+ℤ-*ℤ y y' a.denominator)

  same_difference : (x y x' y' : ℤ) → Same x y → Same x' y' → Same (x -ℤ x') (y -ℤ y')
  same_difference x y x' y' e f = -ℤ-*ℤ x x' b.denominator ∙ ap₂ (λ (m n : ℤ). m -ℤ n) e f ∙ sym (-ℤ-*ℤ y y' a.denominator)

  same_le : (x y x' y' : ℤ) → Same x y → Same x' y' → int_le x x' ≡ int_le y y'
  same_le x y x' y' e f = sym (times_le x x' b.denominator ub) ∙ ap₂ int_le e f ∙ times_le y y' a.denominator ua

  same_lt : (x y x' y' : ℤ) → Same x y → Same x' y' → int_lt x x' ≡ int_lt y y'
  same_lt x y x' y' e f = sym (times_lt x x' b.denominator ub) ∙ ap₂ int_lt e f ∙ times_lt y y' a.denominator ua

  same_eq : (x y x' y' : ℤ) → Same x y → Same x' y' → int_eq x x' ≡ int_eq y y'
  same_eq x y x' y' e f = sym (times_eq x x' b.denominator ub) ∙ ap₂ int_eq e f ∙ times_eq y y' a.denominator ua

  same_order : (x y x' y' : ℤ) → Same x y → Same x' y' → (x ≤ℤ x') ↔ (y ≤ℤ y')
  same_order x y x' y' e f =
      let s = same_le x y x' y' e f in
      ((λ h. record { le = subst T s h.le }), (λ h. record { le = subst T (sym s) h.le }))

  same_equation : (x y x' y' : ℤ) → Same x y → Same x' y' → (x ≡ x') ↔ (y ≡ y')
  same_equation x y x' y' e f = (
    (λ h. times_cancel y y' a.denominator ua (sym e ∙ ap (λ (n : ℤ). n *ℤ b.denominator) h ∙ f)),
    (λ h. times_cancel x x' b.denominator ub (e ∙ ap (λ (n : ℤ). n *ℤ a.denominator) h ∙ sym f)),
  )

  same_value : (v : ℕ) (w : ℤ) → EqualAt a b v → HasValue a v w ↔ HasValue b v w
  same_value v w e = same_equation (a.numerator v) (b.numerator v) (w *ℤ a.denominator) (w *ℤ b.denominator) e (same_whole w)

  same_has_value : (v : ℕ) (w : ℤ) → EqualAt a b v → has_value a v w ≡ has_value b v w
  same_has_value v w e = same_eq (a.numerator v) (b.numerator v) (w *ℤ a.denominator) (w *ℤ b.denominator) e (same_whole w)

  -- ---- linear

  sum_same : (ts : List (ℕ × ℤ)) → All (λ t. EqualAt a b t.0) ts → Same (sum_at ts a.numerator) (sum_at ts b.numerator)
  sum_same [] each = same_zero
  sum_same (t ∷ ts) each =
      same_sum (t.1 *ℤ a.numerator t.0) (t.1 *ℤ b.numerator t.0) (sum_at ts a.numerator) (sum_at ts b.numerator)
      (same_times t.1 (a.numerator t.0) (b.numerator t.0) (All-head (λ t. EqualAt a b t.0) t ts each))
      (sum_same ts (All-tail (λ t. EqualAt a b t.0) t ts each))

  compares_same : (cmp : Cmp) (x y x' y' : ℤ) → Same x y → Same x' y' → Compares cmp x x' ↔ Compares cmp y y'
  compares_same AtMost x y x' y' e f = same_order x y x' y' e f
  compares_same AtLeast x y x' y' e f = same_order x' y' x y f e
  compares_same Equal x y x' y' e f = same_equation x y x' y' e f

  -- a linear row holds at points with the same values of its variables
  pub linear_same_values : (row : LinRow) → EachLinearVar (EqualAt a b) row → SatLinear row a ↔ SatLinear row b
  linear_same_values row each = compares_same row.cmp (sum_at row.terms a.numerator) (sum_at row.terms b.numerator) (row.bound *ℤ a.denominator) (row.bound *ℤ b.denominator) (sum_same row.terms each) (same_whole row.bound)

  -- ---- literals, logic and when

  test_same : (t : Test) (x y x' y' : ℤ) → Same x y → Same x' y' → passes_test t x' x ≡ passes_test t y' y
  test_same tests.AtMost x y x' y' e f = same_le x y x' y' e f
  test_same tests.AtLeast x y x' y' e f = same_le x' y' x y f e
  test_same tests.Equal x y x' y' e f = same_eq x y x' y' e f
  test_same tests.Unequal x y x' y' e f = ap not (same_eq x y x' y' e f)

  -- a literal is true at points with the same value of its variable
  pub literal_same_values : (l : Literal) → EqualAt a b l.var → is_true a l ≡ is_true b l
  literal_same_values l e = test_same l.test (a.numerator l.var) (b.numerator l.var) (l.bound *ℤ a.denominator) (l.bound *ℤ b.denominator) e (same_whole l.bound)

  each_literal_same : (ls : List Literal) → EachLiteralVar (EqualAt a b) ls → All (λ (l : Literal). is_true a l ≡ is_true b l) ls
  each_literal_same ls each = All-weaker (λ (l : Literal). EqualAt a b l.var) (λ (l : Literal). is_true a l ≡ is_true b l) literal_same_values ls each

  has_true_same : (ls : List Literal) → EachLiteralVar (EqualAt a b) ls → has_true a ls ≡ has_true b ls
  has_true_same ls each = list_any_same (is_true a) (is_true b) ls (each_literal_same ls each)

  all_true_same : (ls : List Literal) → EachLiteralVar (EqualAt a b) ls → all_true a ls ≡ all_true b ls
  all_true_same ls each = list_all_same (is_true a) (is_true b) ls (each_literal_same ls each)

  -- clauses hold at points with the same values of their variables
  pub logic_same_values : (clauses : List Clause) → EachLogicVar (EqualAt a b) clauses → SatLogic clauses a ↔ SatLogic clauses b
  logic_same_values clauses each =
      same_test (list_all_same (λ (c : Clause). has_true a c.literals) (λ (c : Clause). has_true b c.literals) clauses
      (All-weaker (λ (c : Clause). EachLiteralVar (EqualAt a b) c.literals) (λ (c : Clause). has_true a c.literals ≡ has_true b c.literals) (λ c h. has_true_same c.literals h) clauses each))

  -- a row under conditions holds at points with the same values of its variables
  pub when_same_values : (literals : List Literal) (row : LinRow) → EachWhenVar (EqualAt a b) literals row → SatWhen literals row a ↔ SatWhen literals row b
  when_same_values literals row each =
      let same = all_true_same literals each.0 in
      let rows = linear_same_values row each.1 in
      ((λ s h. rows.0 (s (same ∙ h))), (λ s h. rows.1 (s (sym same ∙ h))))

  -- ---- alldiff

  differ_same : (x y : ℕ) → EqualAt a b x → EqualAt a b y → Differ a x y ↔ Differ b x y
  differ_same x y e f =
      let same = same_equation (a.numerator x) (b.numerator x) (a.numerator y) (b.numerator y) e f in
      ((λ ne h. ne (same.1 h)), (λ ne h. ne (same.0 h)))

  -- an alldiff holds at points with the same values of its variables
  pub alldiff_same_values : (positions : List ℕ) → EachAlldiffVar (EqualAt a b) positions → SatAlldiff positions a ↔ SatAlldiff positions b
  alldiff_same_values positions each = (
    all_pairs_weaker (EqualAt a b) (Differ a) (Differ b) (λ x y e f. (differ_same x y e f).0) positions each,
    all_pairs_weaker (EqualAt a b) (Differ b) (Differ a) (λ x y e f. (differ_same x y e f).1) positions each,
  )

  -- ---- element

  entry_same : (e : Entry) → EachEntryVar (EqualAt a b) e → Same (entry_value a e) (entry_value b e)
  entry_same (Number k) h = same_whole k
  entry_same (Variable v) h = h

  -- an element holds at points with the same values of its variables
  pub element_same_values : (x : ℕ) (entries : List Entry) (z : ℕ) → EachElementVar (EqualAt a b) x entries z → SatElement x entries z a ↔ SatElement x entries z b
  element_same_values x entries z each =
      let entry : (j : ℕ) → j < length entries → (a.numerator z ≡ entry_value a (entry_at entries j)) ↔ (b.numerator z ≡ entry_value b (entry_at entries j)) = λ j lt. same_equation (a.numerator z) (b.numerator z) (entry_value a (entry_at entries j)) (entry_value b (entry_at entries j)) each.value (entry_same (entry_at entries j) (each.each j (Number (pos 0)) lt)) in (
        (λ s. (s.0, s.1, (same_value x (pos s.0) each.index).0 s.2, (entry s.0 s.1).0 s.3)),
        (λ s. (s.0, s.1, (same_value x (pos s.0) each.index).1 s.2, (entry s.0 s.1).1 s.3)),
      )

  -- ---- indexsum and assign

  left_same : (x y w : ℤ) → Same x y → Same (x -ℤ (w *ℤ a.denominator)) (y -ℤ (w *ℤ b.denominator))
  left_same x y w e = same_difference x y (w *ℤ a.denominator) (w *ℤ b.denominator) e (same_whole w)

  add_up_same : (ps : List (ℕ × List ℤ)) (x y : ℤ) → All (λ p. EqualAt a b p.0) ps → Same x y → AddUpTo a ps x ↔ AddUpTo b ps y
  add_up_same [] x y each e = same_equation x y (pos 0) (pos 0) e same_zero
  add_up_same (p ∷ ps) x y each e =
      let here = All-head (λ p. EqualAt a b p.0) p ps each in
      let rest = All-tail (λ p. EqualAt a b p.0) p ps each in (
        (λ s. (s.0, s.1, (same_value p.0 (pos s.0) here).0 s.2, (add_up_same ps (x -ℤ (member p.1 s.0 *ℤ a.denominator)) (y -ℤ (member p.1 s.0 *ℤ b.denominator)) rest (left_same x y (member p.1 s.0) e)).0 s.3)),
        (λ s. (s.0, s.1, (same_value p.0 (pos s.0) here).1 s.2, (add_up_same ps (x -ℤ (member p.1 s.0 *ℤ a.denominator)) (y -ℤ (member p.1 s.0 *ℤ b.denominator)) rest (left_same x y (member p.1 s.0) e)).1 s.3)),
      )

  -- an indexsum holds at points with the same values of its variables
  pub indexsum_same_values : (c : Choice) → EachIndexSumVar (EqualAt a b) c → SatIndexSum c a ↔ SatIndexSum c b
  indexsum_same_values c each = add_up_same c.picks (a.numerator c.z) (b.numerator c.z) each.1 each.0

  -- an assign holds at points with the same values of its variables
  pub assign_same_values : (c : Choice) → EachAssignVar (EqualAt a b) c → SatAssign c a ↔ SatAssign c b
  assign_same_values c each =
      let sum = indexsum_same_values c each in (
        (λ s. record {
          different = all_pairs_weaker (λ p. EqualAt a b p.0) (λ p q. Differ a p.0 q.0) (λ p q. Differ b p.0 q.0) (λ p q e f. (differ_same p.0 q.0 e f).0) c.picks each.1 s.different;
          sum = sum.0 s.sum;
        }),
        (λ s. record {
          different = all_pairs_weaker (λ p. EqualAt a b p.0) (λ p q. Differ b p.0 q.0) (λ p q. Differ a p.0 q.0) (λ p q e f. (differ_same p.0 q.0 e f).1) c.picks each.1 s.different;
          sum = sum.1 s.sum;
        }),
      )

  -- ---- tasks, cumulative and disjunctive

  presence_same : (o : Option Literal) → IfSome o (λ (l : Literal). EqualAt a b l.var) → is_true_if_any a o ≡ is_true_if_any b o
  presence_same None h = refl
  presence_same (Some l) h = literal_same_values l h

  present_same : (t : Task) → EachTaskVar (EqualAt a b) t → is_present a t ≡ is_present b t
  present_same t each = presence_same t.present each.present

  end_same : (t : Task) → EachTaskVar (EqualAt a b) t → Same (end_at a t) (end_at b t)
  end_same t each = same_sum (a.numerator t.start) (b.numerator t.start) (t.duration *ℤ a.denominator) (t.duration *ℤ b.denominator) each.start (same_whole t.duration)

  runs_same : (x y : ℤ) (t : Task) → Same x y → EachTaskVar (EqualAt a b) t → runs_at a x t ≡ runs_at b y t
  runs_same x y t e each =
      ap₂ (λ s r. s && r) (present_same t each)
      (ap₂ (λ s r. s && r) (same_le (start_at a t) (start_at b t) x y each.start e) (same_lt x y (end_at a t) (end_at b t) e (end_same t each)))

  load_same : (x y : ℤ) (ts : List Task) → Same x y → EachTasksVar (EqualAt a b) ts → load_at a x ts ≡ load_at b y ts
  load_same x y [] e each = refl
  load_same x y (t ∷ ts) e each =
      ap₂ (λ (s : Bool) (r : ℤ). cond s t.demand (pos 0) +ℤ r) (runs_same x y t e (All-head (EachTaskVar (EqualAt a b)) t ts each)) (load_same x y ts e (All-tail (EachTaskVar (EqualAt a b)) t ts each))

  -- a cumulative holds at points with the same values of its variables
  pub cumulative_same_values : (capacity : ℤ) (tasks : List Task) → EachCumulativeVar (EqualAt a b) tasks → SatCumulative capacity tasks a ↔ SatCumulative capacity tasks b
  cumulative_same_values capacity tasks each =
      let load : (t : Task) → EachTaskVar (EqualAt a b) t → load_at a (start_at a t) tasks ≡ load_at b (start_at b t) tasks = λ t h. load_same (start_at a t) (start_at b t) tasks h.start each in (
        (λ s k d lt. let t : Task = slice_index_or tasks k d in let own = each k d lt in record { fits = λ h. subst (λ n. n ≤ℤ capacity) (load t own) ((s k d lt).fits (present_same t own ∙ h)) }),
        (λ s k d lt. let t : Task = slice_index_or tasks k d in let own = each k d lt in record { fits = λ h. subst (λ n. n ≤ℤ capacity) (sym (load t own)) ((s k d lt).fits (sym (present_same t own) ∙ h)) }),
      )

  apart_same : (t u : Task) → EachTaskVar (EqualAt a b) t → EachTaskVar (EqualAt a b) u → AreApart a t u ↔ AreApart b t u
  apart_same t u e f =
      let first = ap (λ s. s && int_lt (pos 0) t.duration) (present_same t e) in
      let second = ap (λ s. s && int_lt (pos 0) u.duration) (present_same u f) in
      let left = same_order (end_at a t) (end_at b t) (start_at a u) (start_at b u) (end_same t e) f.start in
      let right = same_order (end_at a u) (end_at b u) (start_at a t) (start_at b t) (end_same u f) e.start in (
        (λ s. record { apart = λ h k. ⊎_elim (λ l. inl (left.0 l)) (λ r. inr (right.0 r)) (s.apart (first ∙ h) (second ∙ k)) }),
        (λ s. record { apart = λ h k. ⊎_elim (λ l. inl (left.1 l)) (λ r. inr (right.1 r)) (s.apart (sym first ∙ h) (sym second ∙ k)) }),
      )

  -- a disjunctive holds at points with the same values of its variables
  pub disjunctive_same_values : (tasks : List Task) → EachDisjunctiveVar (EqualAt a b) tasks → SatDisjunctive tasks a ↔ SatDisjunctive tasks b
  disjunctive_same_values tasks each = (
    all_pairs_weaker (EachTaskVar (EqualAt a b)) (AreApart a) (AreApart b) (λ t u e f. (apart_same t u e f).0) tasks each,
    all_pairs_weaker (EachTaskVar (EqualAt a b)) (AreApart b) (AreApart a) (λ t u e f. (apart_same t u e f).1) tasks each,
  )

  -- ---- packing

  is_in_same : (g : ℕ) (i : Item) → EqualAt a b i.group → is_in a g i ≡ is_in b g i
  is_in_same g i e = same_has_value i.group (pos g) e

  load_of_same : (g : ℕ) (is : List Item) → All (λ (i : Item). EqualAt a b i.group) is → load_of a g is ≡ load_of b g is
  load_of_same g [] each = refl
  load_of_same g (i ∷ is) each =
      ap₂ (λ (s : Bool) (r : ℤ). cond s i.size (pos 0) +ℤ r) (is_in_same g i (All-head (λ (i : Item). EqualAt a b i.group) i is each)) (load_of_same g is (All-tail (λ (i : Item). EqualAt a b i.group) i is each))

  opening_same : (is : List Item) (g : ℕ) (cs : List ℤ) → All (λ (i : Item). EqualAt a b i.group) is → opening_costs a is g cs ≡ opening_costs b is g cs
  opening_same is g [] each = refl
  opening_same is g (c ∷ cs) each =
      ap₂ (λ (s : Bool) (r : ℤ). cond s c (pos 0) +ℤ r)
      (list_any_same (is_in a g) (is_in b g) is (All-weaker (λ (i : Item). EqualAt a b i.group) (λ (i : Item). is_in a g i ≡ is_in b g i) (is_in_same g) is each))
      (opening_same is (g + 1) cs each)

  -- a packing holds at points with the same values of its variables
  pub packing_same_values : (p : Packing) → EachPackingVar (EqualAt a b) p → SatPacking p a ↔ SatPacking p b
  packing_same_values p each =
      let opened : Same (opening_costs a p.items 0 p.opening *ℤ a.denominator) (opening_costs b p.items 0 p.opening *ℤ b.denominator) = subst (λ n. Same (opening_costs a p.items 0 p.opening *ℤ a.denominator) (n *ℤ b.denominator)) (opening_same p.items 0 p.opening each.1) (same_whole (opening_costs a p.items 0 p.opening)) in
      let costs = add_up_same (map item_pick p.items) (a.numerator p.z -ℤ (opening_costs a p.items 0 p.opening *ℤ a.denominator)) (b.numerator p.z -ℤ (opening_costs b p.items 0 p.opening *ℤ b.denominator)) (All-map (λ (k : ℕ × List ℤ). EqualAt a b k.0) item_pick p.items each.1) (same_difference (a.numerator p.z) (b.numerator p.z) (opening_costs a p.items 0 p.opening *ℤ a.denominator) (opening_costs b p.items 0 p.opening *ℤ b.denominator) each.0 opened) in (
        (λ s. record { within = λ g capacity e. subst (λ n. n ≤ℤ capacity) (load_of_same g p.items each.1) (s.within g capacity e); costs = costs.0 s.costs }),
        (λ s. record { within = λ g capacity e. subst (λ n. n ≤ℤ capacity) (sym (load_of_same g p.items each.1)) (s.within g capacity e); costs = costs.1 s.costs }),
      )

  -- ---- circuit

  -- A circuit holds at points with the same values of its variables. Its stops are nodes, since as many as there are nodes hit
  -- them all, so that each of them has a variable of the circuit.
  pub circuit_same_values : (successors : List ℕ) → EachCircuitVar (EqualAt a b) successors → SatCircuit successors a ↔ SatCircuit successors b
  circuit_same_values xs each = (
    (λ s. record {
      stop = s.stop;
      first = s.first;
      visited = s.visited;
      returns = s.returns;
      follows = λ k lt. (same_value (successor_of xs (s.stop k)) (pos (s.stop (k + 1))) (each (s.stop k) 0 ((each_once (length xs) s.stop s.visited).0 k lt))).0 (s.follows k lt);
    }),
    (λ s. record {
      stop = s.stop;
      first = s.first;
      visited = s.visited;
      returns = s.returns;
      follows = λ k lt. (same_value (successor_of xs (s.stop k)) (pos (s.stop (k + 1))) (each (s.stop k) 0 ((each_once (length xs) s.stop s.visited).0 k lt))).1 (s.follows k lt);
    }),
  )

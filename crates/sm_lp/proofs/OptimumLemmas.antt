-- What the dictionary at the end of the path shows of the program.
use Rattle.std.proofs.Common.{◌≡◌, ℕ, suc, zero, ◌<◌, ◌+◌, List, [], ◌∷◌, length, sym, ap, ◌∙◌, refl, arith, ◌≢◌, subst}
use Rattle.std.specs.Prelude.{◌==◌, if◌then◌else◌, Bool, true, false, All, IsTrue}
use Rattle.std.proofs.lemmas.List.Elements.{All-cons}
use Rattle.std.proofs.lemmas.Bool.{cases_eq}
use Rattle.std.proofs.Math.Logic.{⊎_elim}
use Rattle.sm_frac.specs.Rational.{ℚ, ◌+ℚ◌, ◌*ℚ◌, ◌-ℚ◌, neg_ℚ, zero_ℚ, one_ℚ, ◌≤ℚ◌, ◌<ℚ◌, is_nonnegative}
use Rattle.sm_frac.proofs.RationalRing.{ring}
use Rattle.sm_frac.proofs.Order.{le_equal, le_trans, le_antisymm, lt_from_not_le, lt_le_trans, lt_not_le}
use Rattle.sm_certificate.specs.declared.program.Program.{Program}
use Rattle.sm_certificate.specs.declared.program.LpRow.{LpRow}
use Rattle.sm_certificate.specs.Signs.{AtLeast, AtMost}
use Rattle.sm_lp.specs.Dictionary.{Dictionary, Solves, value_at}
use Rattle.sm_certificate.specs.Totals.{total}
use Rattle.sm_lp.specs.Moves.{IsOptimal, IsInfeasible}
use Rattle.sm_certificate.specs.Program.{column_count, low, high, cost, row_coefficient, row_bound, row_value, SatisfiesRow, Satisfies, cost_of, AreMultipliers, bound_of}
use Rattle.sm_certificate.specs.Slacks.{Half, halves, half_count, half_at, slack_count, number_count, upper_half, turned_half}
use Rattle.sm_lp.specs.First.{first}
use Rattle.sm_lp.specs.Steps.{constant_of, column_value}
use Rattle.sm_lp.specs.Answer.{goal_coefficient, turned_coefficient, multipliers_of}
use Rattle.sm_certificate.proofs.Signs.{moved, zero_at_least}
use Rattle.sm_certificate.proofs.Totals.{total_same, total-zero, total-scaled, total-sum, total_split, without, without_at, without_off}
use Rattle.sm_lp.proofs.Points.{column_point, column_point_nonbasic, column_point_basic, column_point_solves, unit_at, unit_off, missing, found}
use Rattle.sm_certificate.proofs.Totals.{choose, choose_not}
use Rattle.sm_lp.proofs.Multipliers.{total_reindexed}
use Rattle.sm_lp.proofs.Clash.{point_at_least, one_at_least}
use Rattle.sm_lp.proofs.FirstLemmas.{Balances, balances, IsTracked}
use Rattle.sm_lp.proofs.Combine.{HasSum, sum_reached, merged_lawful, half_of}
use Rattle.sm_certificate.proofs.Duality.{bound_least}

-- ---- coefficients by number
pub value_at_least : (w : ℕ) (nb : ℕ → ℕ) (t : ℕ → ℚ) (y : ℕ) → ((j : ℕ) → j < w → AtLeast (t j)) → AtLeast (value_at w nb t y zero_ℚ)
unfolding value_at
value_at_least zero nb t y h = zero_at_least
value_at_least (suc w) nb t y h = ⊎_elim
    (λ (e : nb w ≡ y). moved (t w) (if nb w == y then t w else value_at w nb t y zero_ℚ) (sym (choose (nb w) y (t w) (value_at w nb t y zero_ℚ) e)) (h w (omega arith)))
    (λ (ne : nb w ≢ y). moved (value_at w nb t y zero_ℚ) (if nb w == y then t w else value_at w nb t y zero_ℚ) (sym (choose_not (nb w) y (t w) (value_at w nb t y zero_ℚ) ne)) (value_at_least w nb t y (λ j l. h j (omega arith))))
    (cases_eq (nb w) y)

neg_least : (x : ℚ) → AtMost x → AtLeast (neg_ℚ x)
neg_least x h = h

value_at_most : (w : ℕ) (nb : ℕ → ℕ) (t : ℕ → ℚ) (y : ℕ) → ((j : ℕ) → j < w → AtMost (t j)) → AtMost (value_at w nb t y zero_ℚ)
unfolding value_at
value_at_most zero nb t y h = moved zero_ℚ (neg_ℚ zero_ℚ) (simp ring) zero_at_least
value_at_most (suc w) nb t y h = ⊎_elim
    (λ (e : nb w ≡ y). moved (neg_ℚ (t w)) (neg_ℚ (if nb w == y then t w else value_at w nb t y zero_ℚ)) (ap neg_ℚ (sym (choose (nb w) y (t w) (value_at w nb t y zero_ℚ) e))) (h w (omega arith)))
    (λ (ne : nb w ≢ y). moved (neg_ℚ (value_at w nb t y zero_ℚ)) (neg_ℚ (if nb w == y then t w else value_at w nb t y zero_ℚ)) (ap neg_ℚ (sym (choose_not (nb w) y (t w) (value_at w nb t y zero_ℚ) ne))) (value_at_most w nb t y (λ j l. h j (omega arith))))
    (cases_eq (nb w) y)

-- ---- the sum of a row of the dictionary over all numbers
module _ (p : Program) (d : Dictionary) (t : IsTracked p d) where
  row_sum : (r : ℕ) (v : ℕ → ℚ) → r < d.height → Solves (first p) v → v (d.basic r) ≡ total (number_count p) (λ y. value_at (column_count p) d.nonbasic (d.entry r) y zero_ℚ *ℚ v y) +ℚ d.entry r (column_count p) *ℚ v (suc (number_count p))
  unfolding total
  row_sum r v hr s =
      let k = t.dictionary in
      let n = column_count p in
      let w = k.width in
      (k.solutions v).0 s r hr
      ∙ ap (λ (m : ℕ). total m (λ j. d.entry r j *ℚ v (d.nonbasic j))) w
      ∙ ap (λ (x : ℚ). x +ℚ d.entry r n *ℚ v (d.nonbasic n)) (total_reindexed (number_count p) n d.nonbasic (d.entry r) v (λ j l. k.good.nonbasic_small j (omega arith) (omega arith)) (λ a b la lb e. k.good.proper.nonbasic_apart a b (omega arith) (omega arith) e))
      ∙ ap (λ (y : ℕ). total (number_count p) (λ y. value_at n d.nonbasic (d.entry r) y zero_ℚ *ℚ v y) +ℚ d.entry r n *ℚ v y) k.constant

  swapped : (a b : ℚ) → a +ℚ b ≡ b +ℚ a
  swapped a b = simp ring

  pub goal_sum : HasSum p (cost p) (d.entry (slack_count p) (column_count p)) (goal_coefficient p d)
  unfolding goal_coefficient
  goal_sum = record {
    sum = λ v s.
        let k = t.dictionary in
        let r = row_sum (slack_count p) v k.good.g_inside s in
        sym (balances p v s).goal ∙ ap v (sym k.goal) ∙ r ∙ swapped (total (number_count p) (λ y. value_at (column_count p) d.nonbasic (d.entry (slack_count p)) y zero_ℚ *ℚ v y)) (d.entry (slack_count p) (column_count p) *ℚ v (suc (number_count p)));
  }

  pub goal_sign : IsOptimal d (column_count p) (slack_count p) → (y : ℕ) → AtLeast (goal_coefficient p d y)
  unfolding goal_coefficient
  goal_sign o y = value_at_least (column_count p) d.nonbasic (d.entry (slack_count p)) y (λ j l. o.goal j (let w = t.dictionary.width in omega arith) (omega arith))

  -- ---- an infeasible row
  turned_here : (r y : ℕ) → d.basic r ≡ y → turned_coefficient p d r y ≡ one_ℚ
  unfolding turned_coefficient
  turned_here r y e = choose (d.basic r) y one_ℚ (neg_ℚ (value_at (column_count p) d.nonbasic (d.entry r) y zero_ℚ)) e

  turned_off : (r y : ℕ) → d.basic r ≢ y → turned_coefficient p d r y ≡ neg_ℚ (value_at (column_count p) d.nonbasic (d.entry r) y zero_ℚ)
  unfolding turned_coefficient
  turned_off r y e = choose_not (d.basic r) y one_ℚ (neg_ℚ (value_at (column_count p) d.nonbasic (d.entry r) y zero_ℚ)) e

  pub turned_sign : (r : ℕ) → IsInfeasible d (column_count p) (slack_count p) r → (y : ℕ) → AtLeast (turned_coefficient p d r y)
  turned_sign r o y = ⊎_elim
      (λ (e : d.basic r ≡ y). moved one_ℚ (turned_coefficient p d r y) (sym (turned_here r y e)) one_at_least)
      (λ (ne : d.basic r ≢ y). moved (neg_ℚ (value_at (column_count p) d.nonbasic (d.entry r) y zero_ℚ)) (turned_coefficient p d r y) (sym (turned_off r y ne)) (value_at_most (column_count p) d.nonbasic (d.entry r) y (λ j l. o.none j (let w = t.dictionary.width in omega arith) (omega arith))))
      (cases_eq (d.basic r) y)

  turned_total : (r : ℕ) (v : ℕ → ℚ) → r < d.height → r ≢ slack_count p → Solves (first p) v → total (number_count p) (λ y. turned_coefficient p d r y *ℚ v y) ≡ d.entry r (column_count p) *ℚ v (suc (number_count p))
  turned_total r v hr ng s =
      let N = number_count p in
      let b = d.basic r in
      let c = λ (y : ℕ). value_at (column_count p) d.nonbasic (d.entry r) y zero_ℚ in
      let F = λ (y : ℕ). turned_coefficient p d r y *ℚ v y in
      let small = t.dictionary.good.basic_small r hr ng in
      let w = t.dictionary.width in
      let none : c b ≡ zero_ℚ = missing (column_count p) d.nonbasic (d.entry r) b zero_ℚ (λ i l e. t.dictionary.good.proper.apart r i hr (omega arith) (sym e)) in
      let each = total_same N (without b F) (λ y. neg_ℚ one_ℚ *ℚ (c y *ℚ v y)) (λ y l. ⊎_elim
      (λ (e : y ≡ b). without_at b F y e ∙ sym (gone (c y) (v y) (ap c e ∙ none)))
      (λ (ne : y ≢ b). without_off b F y ne ∙ ap (λ (x : ℚ). x *ℚ v y) (turned_off r y (λ e. ne (sym e))) ∙ turn (c y) (v y)) (cases_eq y b)) in
      total_split N b F small
      ∙ ap (λ (x : ℚ). x +ℚ F b) (each ∙ total-scaled N (neg_ℚ one_ℚ) (λ y. c y *ℚ v y))
      ∙ ap (λ (x : ℚ). neg_ℚ one_ℚ *ℚ total N (λ y. c y *ℚ v y) +ℚ x *ℚ v b) (turned_here r b refl)
      ∙ solved (total N (λ y. c y *ℚ v y)) (v b) (d.entry r (column_count p) *ℚ v (suc N)) (row_sum r v hr s)
    where
      gone : (c x : ℚ) → c ≡ zero_ℚ → neg_ℚ one_ℚ *ℚ (c *ℚ x) ≡ zero_ℚ
      gone c x e = ap (λ (q : ℚ). neg_ℚ one_ℚ *ℚ (q *ℚ x)) e ∙ tidy x
        where
          tidy : (x : ℚ) → neg_ℚ one_ℚ *ℚ (zero_ℚ *ℚ x) ≡ zero_ℚ
          tidy x = simp ring

      turn : (c x : ℚ) → neg_ℚ c *ℚ x ≡ neg_ℚ one_ℚ *ℚ (c *ℚ x)
      turn c x = simp ring

      solved : (s b k : ℚ) → b ≡ s +ℚ k → neg_ℚ one_ℚ *ℚ s +ℚ one_ℚ *ℚ b ≡ k
      solved s b k e = ap (λ (q : ℚ). neg_ℚ one_ℚ *ℚ s +ℚ one_ℚ *ℚ q) e ∙ tidy s k
        where
          tidy : (s k : ℚ) → neg_ℚ one_ℚ *ℚ s +ℚ one_ℚ *ℚ (s +ℚ k) ≡ k
          tidy s k = simp ring

  pub turned_sum : (r : ℕ) → IsInfeasible d (column_count p) (slack_count p) r → HasSum p (λ _. zero_ℚ) (neg_ℚ (d.entry r (column_count p))) (turned_coefficient p d r)
  turned_sum r o = record {
    sum = λ v s.
        let n = column_count p in
        let z = v (suc (number_count p)) in
        ap (λ (x : ℚ). x +ℚ total n (λ j. zero_ℚ *ℚ low p j) *ℚ z) (nothing n v)
        ∙ ap (λ (x : ℚ). zero_ℚ +ℚ x *ℚ z) (nothing n (low p))
        ∙ both (d.entry r n) z
        ∙ ap (λ (x : ℚ). neg_ℚ (d.entry r n) *ℚ z +ℚ x) (sym (turned_total r v o.row o.not_goal s));
  }
    where
      nothing : (n : ℕ) (x : ℕ → ℚ) → total n (λ j. zero_ℚ *ℚ x j) ≡ zero_ℚ
      nothing n x = total-zero n (λ j. zero_ℚ *ℚ x j) (λ j l. tidy (x j))
        where
          tidy : (y : ℚ) → zero_ℚ *ℚ y ≡ zero_ℚ
          tidy y = simp ring

      both : (k z : ℚ) → zero_ℚ +ℚ zero_ℚ *ℚ z ≡ neg_ℚ k *ℚ z +ℚ k *ℚ z
      both k z = simp ring

-- ---- rows and halves
abbrev Holds : ℕ → (ℕ → ℚ) → Half → Type 0
Holds n x h = h.bound ≤ℚ total n (λ j. h.coefficient j *ℚ x j)

turned_holds : (n : ℕ) (x : ℕ → ℚ) (row : LpRow) → Holds n x (turned_half row) → row_value n row x ≤ℚ row_bound row
turned_holds n x row h =
    let same : total n (λ j. neg_ℚ (row_coefficient row j) *ℚ x j) ≡ neg_ℚ (row_value n row x) =
    total_same n (λ j. neg_ℚ (row_coefficient row j) *ℚ x j) (λ j. neg_ℚ one_ℚ *ℚ (row_coefficient row j *ℚ x j)) (λ j l. turn (row_coefficient row j) (x j)) ∙ total-scaled n (neg_ℚ one_ℚ) (λ j. row_coefficient row j *ℚ x j) ∙ once (row_value n row x) in
    back (row_bound row) (row_value n row x) (subst (λ (z : ℚ). neg_ℚ (row_bound row) ≤ℚ z) same h)
  where
    turn : (a x : ℚ) → neg_ℚ a *ℚ x ≡ neg_ℚ one_ℚ *ℚ (a *ℚ x)
    turn a x = simp ring

    once : (s : ℚ) → neg_ℚ one_ℚ *ℚ s ≡ neg_ℚ s
    once s = simp ring

    back : (b s : ℚ) → neg_ℚ b ≤ℚ neg_ℚ s → s ≤ℚ b
    back b s h = record { le = subst (λ (z : ℚ). IsTrue (is_nonnegative z)) (tidy b s) h.le }
      where
        tidy : (b s : ℚ) → neg_ℚ s -ℚ neg_ℚ b ≡ b -ℚ s
        tidy b s = simp ring

satisfied : (n : ℕ) (x : ℕ → ℚ) (rows : List LpRow) → ((i : ℕ) → i < length (halves rows) → Holds n x (half_of (halves rows) i)) → All (SatisfiesRow n x) rows
unfolding halves
satisfied n x [] h = λ k d l. absurd (omega arith)
satisfied n x (row ∷ rows) h = by_kind row.equal row rows refl (λ k. satisfied n x rows k) h
  where
    by_kind : (e : Bool) (row : LpRow) (rows : List LpRow) → row.equal ≡ e → (((i : ℕ) → i < length (halves rows) → Holds n x (half_of (halves rows) i)) → All (SatisfiesRow n x) rows)
        → ((i : ℕ) → i < length (if e then upper_half row ∷ turned_half row ∷ halves rows else upper_half row ∷ halves rows) → Holds n x (half_of (if e then upper_half row ∷ turned_half row ∷ halves rows else upper_half row ∷ halves rows) i)) → All (SatisfiesRow n x) (row ∷ rows)
    by_kind true row rows is ih h = All-cons (SatisfiesRow n x) row rows (h 0 (omega arith), λ _. le_antisymm (row_value n row x) (row_bound row) (turned_holds n x row (h 1 (omega arith))) (h 0 (omega arith))) (ih (λ i l. h (suc (suc i)) (omega arith)))
    by_kind false row rows is ih h = All-cons (SatisfiesRow n x) row rows (h 0 (omega arith), λ e. absurd (let both = sym is ∙ e in cc)) (ih (λ i l. h (suc i) (omega arith)))

-- ---- the point of the last dictionary
module _ (p : Program) (d : Dictionary) (t : IsTracked p d) (o : IsOptimal d (column_count p) (slack_count p)) where
  last : ℕ → ℚ
  last = column_point d (column_count p)

  last_solves : Solves (first p) last
  unfolding last
  last_solves = (t.dictionary.solutions (column_point d (column_count p))).1 (column_point_solves d (column_count p) t.dictionary.good.proper)

  last_constant : last (suc (number_count p)) ≡ one_ℚ
  unfolding last
  last_constant = ap (column_point d (column_count p)) (sym t.dictionary.constant) ∙ column_point_nonbasic d (column_count p) t.dictionary.good.proper (column_count p) t.dictionary.good.f_inside ∙ unit_at (column_count p) (column_count p) refl

  last_goal : last (number_count p) ≡ d.entry (slack_count p) (column_count p)
  unfolding last
  last_goal = ap (column_point d (column_count p)) (sym t.dictionary.goal) ∙ column_point_basic d (column_count p) t.dictionary.good.proper t.dictionary.good.f_inside (slack_count p) t.dictionary.good.g_inside

  last_least : (y : ℕ) → y < number_count p → AtLeast (last y)
  unfolding last
  last_least y h = point_at_least d (column_count p) (number_count p) t.dictionary.good.proper t.dictionary.good.f_inside (λ i hi less. o.constants i hi (λ e. absurd (let same = ap d.basic e in let big = t.dictionary.goal in omega arith))) y h (t.occurs y h)

  last_column : (j : ℕ) → j < number_count p → constant_of d (column_count p) j ≡ last j
  unfolding last constant_of
  last_column j h = ⊎_elim
      (λ (b : (i : ℕ) × (i < d.height) × (d.basic i ≡ j)). found d.height d.basic (λ i. d.entry i (column_count p)) j zero_ℚ b.0 b.1 t.dictionary.good.proper.basic_apart b.2 ∙ sym (column_point_basic d (column_count p) t.dictionary.good.proper t.dictionary.good.f_inside b.0 b.1) ∙ ap (column_point d (column_count p)) b.2)
      (λ (b : (c : ℕ) × (c < d.width) × (d.nonbasic c ≡ j)).
      let off : b.0 ≢ column_count p = λ e. absurd (let same = ap d.nonbasic e in let big = t.dictionary.constant in let at = b.2 in omega arith) in
      missing d.height d.basic (λ i. d.entry i (column_count p)) j zero_ℚ (λ i l e. t.dictionary.good.proper.apart i b.0 l b.1 (e ∙ sym b.2))
      ∙ sym (unit_off (column_count p) b.0 off) ∙ sym (column_point_nonbasic d (column_count p) t.dictionary.good.proper b.0 b.1) ∙ ap (column_point d (column_count p)) b.2)
      (t.occurs j h)

  x : ℕ → ℚ
  x = column_value p d

  x_is : (j : ℕ) → j < column_count p → x j ≡ low p j +ℚ last j
  unfolding x
  x_is j h = ap (λ (q : ℚ). low p j +ℚ q) (last_column j (omega arith))

  shifted : (a : ℕ → ℚ) → total (column_count p) (λ j. a j *ℚ x j) ≡ total (column_count p) (λ j. a j *ℚ last j) +ℚ total (column_count p) (λ j. a j *ℚ low p j)
  shifted a = total_same (column_count p) (λ j. a j *ℚ x j) (λ j. a j *ℚ last j +ℚ a j *ℚ low p j) (λ j l. ap (λ (q : ℚ). a j *ℚ q) (x_is j l) ∙ spread (a j) (low p j) (last j)) ∙ total-sum (column_count p) (λ j. a j *ℚ last j) (λ j. a j *ℚ low p j)
    where
      spread : (a l v : ℚ) → a *ℚ (l +ℚ v) ≡ a *ℚ v +ℚ a *ℚ l
      spread a l v = simp ring

  b : Balances p last
  b = balances p last last_solves

  half_holds : (i : ℕ) → i < half_count p → (half_at p i).bound ≤ℚ total (column_count p) (λ j. (half_at p i).coefficient j *ℚ x j)
  half_holds i h =
      let n = column_count p in
      let above = last_least (n + i) (omega arith) in
      let is = b.rows i h ∙ ap (λ (q : ℚ). total n (λ j. (half_at p i).coefficient j *ℚ last j) +ℚ (total n (λ j. (half_at p i).coefficient j *ℚ low p j) -ℚ (half_at p i).bound) *ℚ q) last_constant ∙ tidy (total n (λ j. (half_at p i).coefficient j *ℚ last j)) (total n (λ j. (half_at p i).coefficient j *ℚ low p j)) (half_at p i).bound ∙ ap (λ (q : ℚ). q -ℚ (half_at p i).bound) (sym (shifted (half_at p i).coefficient)) in
      record { le = (moved (last (n + i)) (total n (λ j. (half_at p i).coefficient j *ℚ x j) -ℚ (half_at p i).bound) is above).is }
    where
      tidy : (v l b : ℚ) → v +ℚ (l -ℚ b) *ℚ one_ℚ ≡ v +ℚ l -ℚ b
      tidy v l b = simp ring

  pub feasible : Satisfies p (column_value p d)
  unfolding x
  feasible = record {
    least_ends = λ j h. record { le = (moved (last j) (column_value p d j -ℚ low p j) (over (low p j) (last j) ∙ ap (λ (q : ℚ). q -ℚ low p j) (sym (x_is j h))) (last_least j (omega arith))).is };
    greatest_ends = λ j h.
        let is = b.ends j h ∙ ap (λ (q : ℚ). neg_ℚ (last j) +ℚ (high p j -ℚ low p j) *ℚ q) last_constant ∙ under (low p j) (high p j) (last j) ∙ ap (λ (q : ℚ). high p j -ℚ q) (sym (x_is j h)) in
        record { le = (moved (last (column_count p + (half_count p + j))) (high p j -ℚ column_value p d j) is (last_least (column_count p + (half_count p + j)) (omega arith))).is };
    rows = satisfied (column_count p) (column_value p d) p.rows half_holds;
  }
    where
      over : (l v : ℚ) → v ≡ l +ℚ v -ℚ l
      over l v = simp ring

      under : (l h v : ℚ) → neg_ℚ v +ℚ (h -ℚ l) *ℚ one_ℚ ≡ h -ℚ (l +ℚ v)
      under l h v = simp ring

  cost_is : cost_of p (column_value p d) ≡ d.entry (slack_count p) (column_count p)
  unfolding x
  cost_is =
      let n = column_count p in
      shifted (cost p) ∙ tidy (total n (λ j. cost p j *ℚ last j)) (total n (λ j. cost p j *ℚ low p j)) ∙ ap (λ (q : ℚ). total n (λ j. cost p j *ℚ last j) +ℚ total n (λ j. cost p j *ℚ low p j) *ℚ q) (sym last_constant) ∙ sym b.goal ∙ last_goal
    where
      tidy : (v l : ℚ) → v +ℚ l ≡ v +ℚ l *ℚ one_ℚ
      tidy v l = simp ring

  abbrev ys : List ℚ
  ys = multipliers_of p (goal_coefficient p d)

  pub goal_lawful : AreMultipliers p.rows (multipliers_of p (goal_coefficient p d))
  goal_lawful = merged_lawful p.rows (goal_coefficient p d) (column_count p) (goal_sign p d t o)

  pub bound_is_cost : ((j : ℕ) → j < column_count p → low p j ≤ℚ high p j) → cost_of p (column_value p d) ≡ bound_of p (cost p) (multipliers_of p (goal_coefficient p d))
  bound_is_cost order =
      let up = sum_reached p (cost p) (d.entry (slack_count p) (column_count p)) (goal_coefficient p d) (goal_sum p d t) order (goal_sign p d t o) in
      let down = bound_least p (cost p) ys (column_value p d) goal_lawful feasible in
      le_antisymm (cost_of p (column_value p d)) (bound_of p (cost p) ys) (le_trans (cost_of p (column_value p d)) (d.entry (slack_count p) (column_count p)) (bound_of p (cost p) ys) (le_equal (cost_of p (column_value p d)) (d.entry (slack_count p) (column_count p)) cost_is) up) down

  pub none_costs_less : ((j : ℕ) → j < column_count p → low p j ≤ℚ high p j) → (z : ℕ → ℚ) → Satisfies p z → cost_of p (column_value p d) ≤ℚ cost_of p z
  none_costs_less order z s = subst (λ (q : ℚ). q ≤ℚ cost_of p z) (sym (bound_is_cost order)) (bound_least p (cost p) ys z goal_lawful s)

-- ---- a contradiction
module _ (p : Program) (d : Dictionary) (t : IsTracked p d) (r : ℕ) (o : IsInfeasible d (column_count p) (slack_count p) r) where
  pub turned_lawful : AreMultipliers p.rows (multipliers_of p (turned_coefficient p d r))
  turned_lawful = merged_lawful p.rows (turned_coefficient p d r) (column_count p) (turned_sign p d t r o)

  above_zero : zero_ℚ <ℚ neg_ℚ (d.entry r (column_count p))
  above_zero = lt_from_not_le zero_ℚ (neg_ℚ (d.entry r (column_count p))) (λ le. o.constant.is (record { is = subst (λ (q : ℚ). IsTrue (is_nonnegative q)) (tidy (d.entry r (column_count p))) le.le }))
    where
      tidy : (k : ℚ) → zero_ℚ -ℚ neg_ℚ k ≡ k
      tidy k = simp ring

  pub bound_positive : ((j : ℕ) → j < column_count p → low p j ≤ℚ high p j) → zero_ℚ <ℚ bound_of p (λ _. zero_ℚ) (multipliers_of p (turned_coefficient p d r))
  bound_positive order = lt_le_trans zero_ℚ (neg_ℚ (d.entry r (column_count p))) (bound_of p (λ _. zero_ℚ) (multipliers_of p (turned_coefficient p d r))) above_zero
      (sum_reached p (λ _. zero_ℚ) (neg_ℚ (d.entry r (column_count p))) (turned_coefficient p d r) (turned_sum p d t r o) order (turned_sign p d t r o))

  pub none_satisfies : ((j : ℕ) → j < column_count p → low p j ≤ℚ high p j) → (z : ℕ → ℚ) → Satisfies p z → ⊥
  none_satisfies order z s = lt_not_le zero_ℚ (bound_of p (λ _. zero_ℚ) (multipliers_of p (turned_coefficient p d r))) (bound_positive order)
      (subst (λ (q : ℚ). bound_of p (λ _. zero_ℚ) (multipliers_of p (turned_coefficient p d r)) ≤ℚ q) (nothing (column_count p) z) (bound_least p (λ _. zero_ℚ) (multipliers_of p (turned_coefficient p d r)) z turned_lawful s))
    where
      nothing : (n : ℕ) (x : ℕ → ℚ) → total n (λ j. zero_ℚ *ℚ x j) ≡ zero_ℚ
      nothing n x = total-zero n (λ j. zero_ℚ *ℚ x j) (λ j l. tidy (x j))
        where
          tidy : (y : ℚ) → zero_ℚ *ℚ y ≡ zero_ℚ
          tidy y = simp ring

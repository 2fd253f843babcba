-- Of the two halves of an equality one at least has the multiplier 0.
use Rattle.std.proofs.Common.{◌≡◌, ℕ, suc, ◌<◌, ◌≢◌, ◌+◌, List, [], ◌∷◌, length, sym, ap, ◌∙◌, refl, arith, subst, inl, inr, pos}
use Rattle.std.specs.Prelude.{◌⊎◌, ◌==◌, Bool, true, false, if◌then◌else◌, Some, None}
use Rattle.std.proofs.lemmas.Bool.{cases_eq}
use Rattle.std.proofs.lemmas.Int.{ints}
use Rattle.std.proofs.Math.Logic.{⊎_elim}
use Rattle.sm_frac.specs.Rational.{ℚ, ◌+ℚ◌, ◌*ℚ◌, ◌-ℚ◌, neg_ℚ, zero_ℚ, one_ℚ}
use Rattle.sm_frac.proofs.RationalRing.{ring}
use Rattle.sm_frac.proofs.OperationLemmas.{fraction_cross}
use Rattle.sm_certificate.specs.declared.program.Program.{Program}
use Rattle.sm_certificate.specs.declared.program.LpRow.{LpRow}
use Rattle.sm_lp.specs.Dictionary.{Dictionary, Solves, value_at}
use Rattle.sm_certificate.specs.Totals.{total}
use Rattle.sm_lp.specs.Moves.{IsInfeasible}
use Rattle.sm_certificate.specs.Program.{column_count, low}
use Rattle.sm_certificate.specs.Slacks.{Half, halves, half_count, half_at, slack_count, number_count, upper_half, turned_half}
use Rattle.sm_lp.specs.Ending.{AreApart, slack_of}
use Rattle.sm_certificate.proofs.Totals.{total_same, total-scaled}
use Rattle.sm_certificate.proofs.Signs.{not_zero}
use Rattle.sm_lp.proofs.Points.{column_point, column_point_nonbasic, column_point_basic, column_point_solves, unit_at, unit_off, missing}
use Rattle.sm_certificate.proofs.Totals.{choose_not}
use Rattle.sm_lp.proofs.FirstLemmas.{balances, IsTracked}
use Rattle.sm_lp.proofs.Combine.{half_of}

-- the half is the other with its signs turned
pub record IsTurnedHalf (a b : Half) : Type 0 where
  pub coefficient : (j : ℕ) → b.coefficient j ≡ neg_ℚ (a.coefficient j)
  pub bound : b.bound ≡ neg_ℚ a.bound

pub apart_list : (rows : List LpRow) (s : ℕ → ℚ) (k : ℕ) → ((i : ℕ) → suc i < length (halves rows) → IsTurnedHalf (half_of (halves rows) i) (half_of (halves rows) (suc i)) → (s (k + i) ≡ zero_ℚ) ⊎ (s (k + suc i) ≡ zero_ℚ)) → AreApart rows s k
unfolding halves AreApart
apart_list [] s k h = record {}
apart_list (row ∷ rows) s k h = by_kind row.equal row rows s k refl (λ k. apart_list rows s k) h
  where
    by_kind : (e : Bool) (row : LpRow) (rows : List LpRow) (s : ℕ → ℚ) (k : ℕ) → row.equal ≡ e → ((k : ℕ) → ((i : ℕ) → suc i < length (halves rows) → IsTurnedHalf (half_of (halves rows) i) (half_of (halves rows) (suc i)) → (s (k + i) ≡ zero_ℚ) ⊎ (s (k + suc i) ≡ zero_ℚ)) → AreApart rows s k)
        → ((i : ℕ) → suc i < length (if e then upper_half row ∷ turned_half row ∷ halves rows else upper_half row ∷ halves rows) → IsTurnedHalf (half_of (if e then upper_half row ∷ turned_half row ∷ halves rows else upper_half row ∷ halves rows) i) (half_of (if e then upper_half row ∷ turned_half row ∷ halves rows else upper_half row ∷ halves rows) (suc i)) → (s (k + i) ≡ zero_ℚ) ⊎ (s (k + suc i) ≡ zero_ℚ))
        → (row.equal ≡ true → (s k ≡ zero_ℚ) ⊎ (s (k + 1) ≡ zero_ℚ)) × AreApart rows s (if e then k + 2 else k + 1)
    by_kind true row rows s k is ih h = (
      λ e. let at : k + 0 ≡ k = omega arith in subst (λ (x : ℕ). (s x ≡ zero_ℚ) ⊎ (s (k + 1) ≡ zero_ℚ)) at (h 0 (omega arith) (record { coefficient = λ j. refl; bound = refl })),
      ih (k + 2) (λ i l t. let a : k + 2 + i ≡ k + suc (suc i) = omega arith in let b : k + 2 + suc i ≡ k + suc (suc (suc i)) = omega arith in subst (λ (x : ℕ). (s x ≡ zero_ℚ) ⊎ (s (k + 2 + suc i) ≡ zero_ℚ)) (sym a) (subst (λ (x : ℕ). (s (k + suc (suc i)) ≡ zero_ℚ) ⊎ (s x ≡ zero_ℚ)) (sym b) (h (suc (suc i)) (omega arith) t))),
    )
    by_kind false row rows s k is ih h = (
      λ e. absurd (let both = sym is ∙ e in cc),
      ih (k + 1) (λ i l t. let a : k + 1 + i ≡ k + suc i = omega arith in let b : k + 1 + suc i ≡ k + suc (suc i) = omega arith in subst (λ (x : ℕ). (s x ≡ zero_ℚ) ⊎ (s (k + 1 + suc i) ≡ zero_ℚ)) (sym a) (subst (λ (x : ℕ). (s (k + suc i) ≡ zero_ℚ) ⊎ (s x ≡ zero_ℚ)) (sym b) (h (suc i) (omega arith) t))),
    )

one_not_zero : one_ℚ +ℚ zero_ℚ ≡ zero_ℚ → one_ℚ ≡ zero_ℚ
one_not_zero e = (tidy one_ℚ) ∙ e
  where
    tidy : (x : ℚ) → x ≡ x +ℚ zero_ℚ
    tidy x = simp ring

one_zero : one_ℚ ≡ zero_ℚ → ⊥
one_zero e = absurd (let cross = fraction_cross (pos 1) (pos 0) 1 1 (omega arith) (omega arith) e in omega (arith, ints))

-- the slacks of the two halves are each other's negatives at every solution
module _ (p : Program) (d : Dictionary) (t : IsTracked p d) where
  halves_cancel : (i : ℕ) → suc i < half_count p → IsTurnedHalf (half_at p i) (half_at p (suc i)) → (v : ℕ → ℚ) → Solves d v → v (column_count p + i) +ℚ v (column_count p + suc i) ≡ zero_ℚ
  halves_cancel i hi h v s =
      let n = column_count p in
      let b = balances p v ((t.dictionary.solutions v).1 s) in
      let z = v (suc (number_count p)) in
      let sum = λ (x : ℕ → ℚ). total n (λ j. (half_at p i).coefficient j *ℚ x j) in
      let turned = λ (x : ℕ → ℚ). turned_total n (half_at p i) (half_at p (suc i)) h x in
      ap (λ (q : ℚ). q +ℚ v (n + suc i)) (b.rows i (omega arith))
      ∙ ap (λ (q : ℚ). sum v +ℚ (sum (low p) -ℚ (half_at p i).bound) *ℚ z +ℚ q) (b.rows (suc i) hi)
      ∙ ap (λ (q : ℚ). sum v +ℚ (sum (low p) -ℚ (half_at p i).bound) *ℚ z +ℚ (q +ℚ (total n (λ j. (half_at p (suc i)).coefficient j *ℚ low p j) -ℚ (half_at p (suc i)).bound) *ℚ z)) (turned v)
      ∙ ap (λ (q : ℚ). sum v +ℚ (sum (low p) -ℚ (half_at p i).bound) *ℚ z +ℚ (neg_ℚ (sum v) +ℚ (q -ℚ (half_at p (suc i)).bound) *ℚ z)) (turned (low p))
      ∙ ap (λ (q : ℚ). sum v +ℚ (sum (low p) -ℚ (half_at p i).bound) *ℚ z +ℚ (neg_ℚ (sum v) +ℚ (neg_ℚ (sum (low p)) -ℚ q) *ℚ z)) h.bound
      ∙ tidy (sum v) (sum (low p)) (half_at p i).bound z
    where
      turned_total : (n : ℕ) (a b : Half) → IsTurnedHalf a b → (x : ℕ → ℚ) → total n (λ j. b.coefficient j *ℚ x j) ≡ neg_ℚ (total n (λ j. a.coefficient j *ℚ x j))
      turned_total n a b h x = total_same n (λ j. b.coefficient j *ℚ x j) (λ j. neg_ℚ one_ℚ *ℚ (a.coefficient j *ℚ x j)) (λ j l. ap (λ (q : ℚ). q *ℚ x j) (h.coefficient j) ∙ turn (a.coefficient j) (x j)) ∙ total-scaled n (neg_ℚ one_ℚ) (λ j. a.coefficient j *ℚ x j) ∙ once (total n (λ j. a.coefficient j *ℚ x j))
        where
          turn : (a x : ℚ) → neg_ℚ a *ℚ x ≡ neg_ℚ one_ℚ *ℚ (a *ℚ x)
          turn a x = simp ring

          once : (s : ℚ) → neg_ℚ one_ℚ *ℚ s ≡ neg_ℚ s
          once s = simp ring

      tidy : (s l b z : ℚ) → s +ℚ (l -ℚ b) *ℚ z +ℚ (neg_ℚ s +ℚ (neg_ℚ l -ℚ neg_ℚ b) *ℚ z) ≡ zero_ℚ
      tidy s l b z = simp ring

  Cancel : ℕ → ℕ → Type 0
  Cancel y z = (v : ℕ → ℚ) → Solves d v → v y +ℚ v z ≡ zero_ℚ

  Nonbasic : ℕ → Type 0
  Nonbasic y = (c : ℕ) × (c < d.width) × (d.nonbasic c ≡ y)

  Basic : ℕ → Type 0
  Basic y = (i : ℕ) × (i < d.height) × (d.basic i ≡ y)

  -- they aren't both nonbasic
  never_both : (y z : ℕ) → y ≢ z → Cancel y z → Nonbasic y → Nonbasic z → ⊥
  unfolding Cancel Nonbasic
  never_both y z ne sum a b =
      let g = t.dictionary.good.proper in
      let v = column_point d a.0 in
      let at : v y ≡ one_ℚ = ap v (sym a.2) ∙ column_point_nonbasic d a.0 g a.0 a.1 ∙ unit_at a.0 a.0 refl in
      let off : v z ≡ zero_ℚ = ap v (sym b.2) ∙ column_point_nonbasic d a.0 g b.0 b.1 ∙ unit_off a.0 b.0 (λ e. ne (sym a.2 ∙ ap d.nonbasic (sym e) ∙ b.2)) in
      one_zero (one_not_zero (ap (λ (q : ℚ). one_ℚ +ℚ q) (sym off) ∙ ap (λ (q : ℚ). q +ℚ v z) (sym at) ∙ sum v (column_point_solves d a.0 g)))

  -- no coefficient at a basic number
  none_basic : (y : ℕ) (e : ℕ → ℚ) → Basic y → value_at (column_count p) d.nonbasic e y zero_ℚ ≡ zero_ℚ
  unfolding Basic
  none_basic y e b = missing (column_count p) d.nonbasic e y zero_ℚ (λ i l is. t.dictionary.good.proper.apart b.0 i b.1 (let w = t.dictionary.width in omega arith) (b.2 ∙ sym is))

  goal_apart : (y z : ℕ) → y ≢ z → y < number_count p → z < number_count p → Cancel y z → (value_at (column_count p) d.nonbasic (d.entry (slack_count p)) y zero_ℚ ≡ zero_ℚ) ⊎ (value_at (column_count p) d.nonbasic (d.entry (slack_count p)) z zero_ℚ ≡ zero_ℚ)
  unfolding Cancel Nonbasic Basic
  goal_apart y z ne hy hz sum = ⊎_elim
      (λ (b : (i : ℕ) × (i < d.height) × (d.basic i ≡ y)). inl (none_basic y (d.entry (slack_count p)) b))
      (λ (a : (c : ℕ) × (c < d.width) × (d.nonbasic c ≡ y)). ⊎_elim
      (λ (b : (i : ℕ) × (i < d.height) × (d.basic i ≡ z)). inr (none_basic z (d.entry (slack_count p)) b))
      (λ (b : (c : ℕ) × (c < d.width) × (d.nonbasic c ≡ z)). absurd (never_both y z ne sum a b))
      (t.occurs z hz))
      (t.occurs y hy)

  -- an infeasible row's number and a nonbasic one aren't each other's negatives, since the row's constant isn't 0
  never_row : (r z : ℕ) → IsInfeasible d (column_count p) (slack_count p) r → Nonbasic z → z < number_count p → Cancel (d.basic r) z → ⊥
  unfolding Cancel Nonbasic
  never_row r z o b hz sum =
      let g = t.dictionary.good in
      let f = column_count p in
      let v = column_point d f in
      let at : v (d.basic r) ≡ d.entry r f = column_point_basic d f g.proper g.f_inside r o.row in
      let off : v z ≡ zero_ℚ = ap v (sym b.2) ∙ column_point_nonbasic d f g.proper b.0 b.1 ∙ unit_off f b.0 (λ e. absurd (let same = ap d.nonbasic e in let big = t.dictionary.constant in let is = b.2 in omega arith)) in
      not_zero (d.entry r f) o.constant (plain (d.entry r f) ∙ ap (λ (q : ℚ). d.entry r f +ℚ q) (sym off) ∙ ap (λ (q : ℚ). q +ℚ v z) (sym at) ∙ sum v (column_point_solves d f g.proper))
    where
      plain : (x : ℚ) → x ≡ x +ℚ zero_ℚ
      plain x = simp ring

  Turned : ℕ → ℕ → ℚ
  Turned r y = if d.basic r == y then one_ℚ else neg_ℚ (value_at (column_count p) d.nonbasic (d.entry r) y zero_ℚ)

  -- a basic number that isn't the row's has the multiplier 0
  turned_none : (r y : ℕ) → d.basic r ≢ y → Basic y → Turned r y ≡ zero_ℚ
  unfolding Turned
  turned_none r y ne b = choose_not (d.basic r) y one_ℚ (neg_ℚ (value_at (column_count p) d.nonbasic (d.entry r) y zero_ℚ)) ne ∙ ap neg_ℚ (none_basic y (d.entry r) b) ∙ neg_zero
    where
      neg_zero : neg_ℚ zero_ℚ ≡ zero_ℚ
      neg_zero = simp ring

  cancel_swap : (y z : ℕ) → Cancel y z → Cancel z y
  unfolding Cancel
  cancel_swap y z h v s = swapped (v z) (v y) ∙ h v s
    where
      swapped : (a b : ℚ) → a +ℚ b ≡ b +ℚ a
      swapped a b = simp ring

  cancel_moved : (x y z : ℕ) → x ≡ y → Cancel y z → Cancel x z
  cancel_moved x y z e h = subst (λ (q : ℕ). Cancel q z) (sym e) h

  row_apart : (r y z : ℕ) → IsInfeasible d (column_count p) (slack_count p) r → y ≢ z → y < number_count p → z < number_count p → Cancel y z → (Turned r y ≡ zero_ℚ) ⊎ (Turned r z ≡ zero_ℚ)
  unfolding Nonbasic Basic
  row_apart r y z o ne hy hz sum = ⊎_elim
      (λ (b : (i : ℕ) × (i < d.height) × (d.basic i ≡ y)). ⊎_elim
      (λ (is : d.basic r ≡ y). ⊎_elim
      (λ (c : (i : ℕ) × (i < d.height) × (d.basic i ≡ z)). inr (turned_none r z (λ e. ne (sym is ∙ e)) c))
      (λ (c : (j : ℕ) × (j < d.width) × (d.nonbasic j ≡ z)). absurd (never_row r z o c hz (cancel_moved (d.basic r) y z is sum)))
      (t.occurs z hz))
      (λ (off : d.basic r ≢ y). inl (turned_none r y off b)) (cases_eq (d.basic r) y))
      (λ (a : (j : ℕ) × (j < d.width) × (d.nonbasic j ≡ y)). ⊎_elim
      (λ (c : (i : ℕ) × (i < d.height) × (d.basic i ≡ z)). ⊎_elim
      (λ (is : d.basic r ≡ z). absurd (never_row r y o a hy (cancel_moved (d.basic r) z y is (cancel_swap y z sum))))
      (λ (off : d.basic r ≢ z). inr (turned_none r z off c)) (cases_eq (d.basic r) z))
      (λ (c : (j : ℕ) × (j < d.width) × (d.nonbasic j ≡ z)). absurd (never_both y z ne sum a c))
      (t.occurs z hz))
      (t.occurs y hy)

  apart_goal : AreApart p.rows (slack_of (column_count p) (slack_count p) d None) (column_count p)
  unfolding Cancel
  apart_goal = apart_list p.rows (slack_of (column_count p) (slack_count p) d None) (column_count p) (λ i l h. goal_apart (column_count p + i) (column_count p + suc i) (λ e. absurd (omega arith)) (omega arith) (omega arith) (halves_cancel i l h))

  apart_row : (r : ℕ) → IsInfeasible d (column_count p) (slack_count p) r → AreApart p.rows (slack_of (column_count p) (slack_count p) d (Some r)) (column_count p)
  unfolding Cancel Turned
  apart_row r o = apart_list p.rows (slack_of (column_count p) (slack_count p) d (Some r)) (column_count p) (λ i l h. row_apart r (column_count p + i) (column_count p + suc i) o (λ e. absurd (omega arith)) (omega arith) (omega arith) (halves_cancel i l h))

pub goal_halves_apart : (p : Program) (d : Dictionary) (f g : ℕ) → f ≡ column_count p → g ≡ slack_count p → IsTracked p d → AreApart p.rows (slack_of f g d None) f
goal_halves_apart p d f g ef eg t = subst (λ (x : ℕ). AreApart p.rows (slack_of x g d None) x) (sym ef) (subst (λ (x : ℕ). AreApart p.rows (slack_of (column_count p) x d None) (column_count p)) (sym eg) (apart_goal p d t))

pub row_halves_apart : (p : Program) (d : Dictionary) (f g r : ℕ) → f ≡ column_count p → g ≡ slack_count p → IsTracked p d → IsInfeasible d (column_count p) (slack_count p) r → AreApart p.rows (slack_of f g d (Some r)) f
row_halves_apart p d f g r ef eg t o = subst (λ (x : ℕ). AreApart p.rows (slack_of x g d (Some r)) x) (sym ef) (subst (λ (x : ℕ). AreApart p.rows (slack_of (column_count p) x d (Some r)) (column_count p)) (sym eg) (apart_row p d t r o))

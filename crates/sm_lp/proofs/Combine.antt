-- From the coefficients of a dictionary's row to the bound of its multipliers.
use Rattle.std.proofs.Common.{◌≡◌, ℕ, suc, ◌<◌, ◌+◌, List, [], ◌∷◌, length, get_or, sym, ap, ◌∙◌, refl, arith}
use Rattle.std.specs.Prelude.{if◌then◌else◌, Bool, true, false, nat_lt}
use Rattle.std.proofs.lemmas.Bool.Decides.{nat_tests}
use Rattle.sm_frac.specs.Rational.{ℚ, ◌+ℚ◌, ◌*ℚ◌, ◌-ℚ◌, neg_ℚ, zero_ℚ, one_ℚ, ◌≤ℚ◌}
use Rattle.sm_frac.proofs.RationalRing.{ring}
use Rattle.sm_certificate.specs.declared.program.Program.{Program}
use Rattle.sm_certificate.specs.declared.program.LpRow.{LpRow}
use Rattle.sm_certificate.specs.Signs.{AtLeast}
use Rattle.sm_certificate.specs.Totals.{total}
use Rattle.sm_lp.specs.Dictionary.{Solves}
use Rattle.sm_certificate.specs.Program.{column_count, low, high, row_coefficient, row_bound, AreMultipliers, combined_coefficient, combined_bound, bound_of}
use Rattle.sm_certificate.specs.Slacks.{Half, halves, half_count, half_at, slack_count, number_count, upper_half, turned_half}
use Rattle.sm_lp.specs.First.{first}
use Rattle.sm_lp.specs.Answer.{row_multipliers}
use Rattle.sm_certificate.proofs.Totals.{total_same, total-scaled, total-sum, total_front}
use Rattle.sm_lp.proofs.Points.{point, point_nonbasic, point_solves, unit, unit_at, unit_off, total_one}
use Rattle.sm_lp.proofs.Multipliers.{total-add}
use Rattle.sm_lp.proofs.FirstLemmas.{balances, first_proper, first_nonbasic, first_constant, first_width}
use Rattle.sm_certificate.proofs.Duality.{bound_reached}

-- ---- the halves of the rows
abbrev pub half_of : List Half → ℕ → Half
half_of hs i = get_or hs i (record { coefficient = λ _. zero_ℚ; bound = zero_ℚ })

half_total : (Half → ℚ) → List Half → (ℕ → ℚ) → ℕ → ℚ
half_total A hs s k = total (length hs) (λ i. s (k + i) *ℚ A (half_of hs i))

one_half : (A : Half → ℚ) (h : Half) (hs : List Half) (s : ℕ → ℚ) (k : ℕ) → half_total A (h ∷ hs) s k ≡ s k *ℚ A h +ℚ half_total A hs s (k + 1)
unfolding half_total
one_half A h hs s k =
    let e : k + 0 ≡ k = omega arith in
    total_front (length hs) (λ i. s (k + i) *ℚ A (half_of (h ∷ hs) i))
    ∙ ap (λ (x : ℕ). s x *ℚ A h +ℚ total (length hs) (λ i. s (k + suc i) *ℚ A (half_of hs i))) e
    ∙ ap (λ (x : ℚ). s k *ℚ A h +ℚ x) (total_same (length hs) (λ i. s (k + suc i) *ℚ A (half_of hs i)) (λ i. s (k + 1 + i) *ℚ A (half_of hs i)) (λ i l. let same : k + suc i ≡ k + 1 + i = omega arith in ap (λ (x : ℕ). s x *ℚ A (half_of hs i)) same))

two_halves : (y z a b r : ℚ) → b ≡ neg_ℚ a → y *ℚ a +ℚ (z *ℚ b +ℚ r) ≡ (y -ℚ z) *ℚ a +ℚ r
two_halves y z a b r e = ap (λ (x : ℚ). y *ℚ a +ℚ (z *ℚ x +ℚ r)) e ∙ tidy y z a r
  where
    tidy : (y z a r : ℚ) → y *ℚ a +ℚ (z *ℚ neg_ℚ a +ℚ r) ≡ (y -ℚ z) *ℚ a +ℚ r
    tidy y z a r = simp ring

-- both sums go by this, with what a row and a half count for
module _ (A : Half → ℚ) (B : LpRow → ℚ) (S : List LpRow → List ℚ → ℚ) (upper : (row : LpRow) → A (upper_half row) ≡ B row) (turned : (row : LpRow) → A (turned_half row) ≡ neg_ℚ (B row)) (none : (ys : List ℚ) → S [] ys ≡ zero_ℚ) (more : (row : LpRow) (rows : List LpRow) (y : ℚ) (ys : List ℚ) → S (row ∷ rows) (y ∷ ys) ≡ y *ℚ B row +ℚ S rows ys) where
  merged_equal : (row : LpRow) (rows : List LpRow) (s : ℕ → ℚ) (k : ℕ) → S rows (row_multipliers rows s (k + 2)) ≡ half_total A (halves rows) s (k + 2) → S (row ∷ rows) ((s k -ℚ s (k + 1)) ∷ row_multipliers rows s (k + 2)) ≡ half_total A (upper_half row ∷ turned_half row ∷ halves rows) s k
  merged_equal row rows s k ih =
      let same : k + 1 + 1 ≡ k + 2 = omega arith in
      more row rows (s k -ℚ s (k + 1)) (row_multipliers rows s (k + 2))
      ∙ ap (λ (x : ℚ). (s k -ℚ s (k + 1)) *ℚ B row +ℚ x) ih
      ∙ sym (one_half A (upper_half row) (turned_half row ∷ halves rows) s k
      ∙ ap (λ (x : ℚ). s k *ℚ A (upper_half row) +ℚ x) (one_half A (turned_half row) (halves rows) s (k + 1))
      ∙ ap (λ (x : ℕ). s k *ℚ A (upper_half row) +ℚ (s (k + 1) *ℚ A (turned_half row) +ℚ half_total A (halves rows) s x)) same
      ∙ ap (λ (x : ℚ). s k *ℚ x +ℚ (s (k + 1) *ℚ A (turned_half row) +ℚ half_total A (halves rows) s (k + 2))) (upper row)
      ∙ two_halves (s k) (s (k + 1)) (B row) (A (turned_half row)) (half_total A (halves rows) s (k + 2)) (turned row))

  merged_other : (row : LpRow) (rows : List LpRow) (s : ℕ → ℚ) (k : ℕ) → S rows (row_multipliers rows s (k + 1)) ≡ half_total A (halves rows) s (k + 1) → S (row ∷ rows) (s k ∷ row_multipliers rows s (k + 1)) ≡ half_total A (upper_half row ∷ halves rows) s k
  merged_other row rows s k ih =
      more row rows (s k) (row_multipliers rows s (k + 1))
      ∙ ap (λ (x : ℚ). s k *ℚ B row +ℚ x) ih
      ∙ sym (one_half A (upper_half row) (halves rows) s k ∙ ap (λ (x : ℚ). s k *ℚ x +ℚ half_total A (halves rows) s (k + 1)) (upper row))

  by_kind : (e : Bool) (row : LpRow) (rows : List LpRow) (s : ℕ → ℚ) (k : ℕ) → ((q : ℕ) → S rows (row_multipliers rows s q) ≡ half_total A (halves rows) s q)
      → S (row ∷ rows) (if e then (s k -ℚ s (k + 1)) ∷ row_multipliers rows s (k + 2) else s k ∷ row_multipliers rows s (k + 1)) ≡ half_total A (if e then upper_half row ∷ turned_half row ∷ halves rows else upper_half row ∷ halves rows) s k
  by_kind true row rows s k ih = merged_equal row rows s k (ih (k + 2))
  by_kind false row rows s k ih = merged_other row rows s k (ih (k + 1))

  merged : (rows : List LpRow) (s : ℕ → ℚ) (k : ℕ) → S rows (row_multipliers rows s k) ≡ half_total A (halves rows) s k
  unfolding half_total total halves row_multipliers
  merged [] s k = none []
  merged (row ∷ rows) s k = by_kind row.equal row rows s k (λ q. merged rows s q)

no_coefficient : (j : ℕ) (ys : List ℚ) → combined_coefficient [] ys j ≡ zero_ℚ
unfolding combined_coefficient
no_coefficient j ys = refl

more_coefficient : (j : ℕ) (row : LpRow) (rows : List LpRow) (y : ℚ) (ys : List ℚ) → combined_coefficient (row ∷ rows) (y ∷ ys) j ≡ y *ℚ row_coefficient row j +ℚ combined_coefficient rows ys j
unfolding combined_coefficient
more_coefficient j row rows y ys = refl

no_bound : (ys : List ℚ) → combined_bound [] ys ≡ zero_ℚ
unfolding combined_bound
no_bound ys = refl

more_bound : (row : LpRow) (rows : List LpRow) (y : ℚ) (ys : List ℚ) → combined_bound (row ∷ rows) (y ∷ ys) ≡ y *ℚ row_bound row +ℚ combined_bound rows ys
unfolding combined_bound
more_bound row rows y ys = refl

pub merged_coefficient : (rows : List LpRow) (s : ℕ → ℚ) (k j : ℕ) → combined_coefficient rows (row_multipliers rows s k) j ≡ total (length (halves rows)) (λ i. s (k + i) *ℚ (half_of (halves rows) i).coefficient j)
unfolding half_total
merged_coefficient rows s k j = merged (λ (h : Half). h.coefficient j) (λ (row : LpRow). row_coefficient row j) (λ (rs : List LpRow) (ys : List ℚ). combined_coefficient rs ys j) (λ row. refl) (λ row. refl) (no_coefficient j) (more_coefficient j) rows s k

pub merged_bound : (rows : List LpRow) (s : ℕ → ℚ) (k : ℕ) → combined_bound rows (row_multipliers rows s k) ≡ total (length (halves rows)) (λ i. s (k + i) *ℚ (half_of (halves rows) i).bound)
unfolding half_total
merged_bound rows s k = merged (λ (h : Half). h.bound) (λ (row : LpRow). row_bound row) combined_bound (λ row. refl) (λ row. refl) no_bound more_bound rows s k

lawful_equal : (row : LpRow) (rows : List LpRow) (y : ℚ) (ys : List ℚ) → (row.equal ≡ false → AtLeast y) → AreMultipliers rows ys → AreMultipliers (row ∷ rows) (y ∷ ys)
unfolding AreMultipliers
lawful_equal row rows y ys h m = (h, m)

no_rows : AreMultipliers [] []
unfolding AreMultipliers
no_rows = tt

equal_or_not : (e : Bool) (row : LpRow) (rows : List LpRow) (s : ℕ → ℚ) (k : ℕ) → row.equal ≡ e → ((q : ℕ) → AtLeast (s q)) → ((q : ℕ) → AreMultipliers rows (row_multipliers rows s q)) → AreMultipliers (row ∷ rows) (if e then (s k -ℚ s (k + 1)) ∷ row_multipliers rows s (k + 2) else s k ∷ row_multipliers rows s (k + 1))
equal_or_not true row rows s k is h m = lawful_equal row rows (s k -ℚ s (k + 1)) (row_multipliers rows s (k + 2)) (λ e. absurd (let both = sym is ∙ e in cc)) (m (k + 2))
equal_or_not false row rows s k is h m = lawful_equal row rows (s k) (row_multipliers rows s (k + 1)) (λ e. h k) (m (k + 1))

pub merged_lawful : (rows : List LpRow) (s : ℕ → ℚ) (k : ℕ) → ((q : ℕ) → AtLeast (s q)) → AreMultipliers rows (row_multipliers rows s k)
unfolding row_multipliers
merged_lawful [] s k h = no_rows
merged_lawful (row ∷ rows) s k h = equal_or_not row.equal row rows s k refl h (λ q. merged_lawful rows s q h)

-- ---- the program's equations at chosen points
point_at : Program → (ℕ → ℚ) → ℚ → ℕ → ℚ
point_at p x z = point (first p) (λ j. if nat_lt j (column_count p) then x j else z)

at_column : (n j : ℕ) (x : ℕ → ℚ) (z : ℚ) → j < n → (if nat_lt j n then x j else z) ≡ x j
at_column n j x z h = grind (arith, nat_tests)

at_constant : (n : ℕ) (x : ℕ → ℚ) (z : ℚ) → (if nat_lt n n then x n else z) ≡ z
at_constant n x z = grind (arith, nat_tests)

point_column : (p : Program) (x : ℕ → ℚ) (z : ℚ) (j : ℕ) → j < column_count p → point_at p x z j ≡ x j
unfolding point_at
point_column p x z j h =
    let w = first_width p in
    ap (point (first p) (λ i. if nat_lt i (column_count p) then x i else z)) (sym (first_nonbasic p j h)) ∙ point_nonbasic (first p) (λ i. if nat_lt i (column_count p) then x i else z) (first_proper p) j (omega arith) ∙ at_column (column_count p) j x z h

point_constant : (p : Program) (x : ℕ → ℚ) (z : ℚ) → point_at p x z (suc (number_count p)) ≡ z
unfolding point_at
point_constant p x z =
    let w = first_width p in
    ap (point (first p) (λ i. if nat_lt i (column_count p) then x i else z)) (sym (first_constant p)) ∙ point_nonbasic (first p) (λ i. if nat_lt i (column_count p) then x i else z) (first_proper p) (column_count p) (omega arith) ∙ at_constant (column_count p) x z

point_balances : (p : Program) (x : ℕ → ℚ) (z : ℚ) → Solves (first p) (point_at p x z)
unfolding point_at
point_balances p x z = point_solves (first p) (λ j. if nat_lt j (column_count p) then x j else z) (first_proper p)

-- The coefficients u and the constant k give the target's sum at every solution.
pub record HasSum (p : Program) (target : ℕ → ℚ) (k : ℚ) (u : ℕ → ℚ) : Type 0 where
  pub sum : (v : ℕ → ℚ) → Solves (first p) v → total (column_count p) (λ j. target j *ℚ v j) +ℚ total (column_count p) (λ j. target j *ℚ low p j) *ℚ v (suc (number_count p)) ≡ k *ℚ v (suc (number_count p)) +ℚ total (number_count p) (λ y. u y *ℚ v y)

module _ (p : Program) (target : ℕ → ℚ) (k : ℚ) (u : ℕ → ℚ) (h : HasSum p target k u) where
  y_of : ℕ → ℚ
  y_of i = u (column_count p + i)

  w_of : ℕ → ℚ
  w_of j = u (column_count p + (half_count p + j))

  -- the sum over all numbers, by the columns' values and the constant's
  blocks : (v : ℕ → ℚ) → total (number_count p) (λ y. u y *ℚ v y) ≡ total (column_count p) (λ j. u j *ℚ v j) +ℚ (total (half_count p) (λ i. y_of i *ℚ v (column_count p + i)) +ℚ total (column_count p) (λ j. w_of j *ℚ v (column_count p + (half_count p + j))))
  unfolding y_of w_of
  blocks v = total-add (column_count p) (slack_count p) (λ y. u y *ℚ v y) ∙ ap (λ (x : ℚ). total (column_count p) (λ j. u j *ℚ v j) +ℚ x) (total-add (half_count p) (column_count p) (λ i. u (column_count p + i) *ℚ v (column_count p + i)))

  -- at the point that is 1 in column c and 0 in the others
  column_sum : (c : ℕ) → c < column_count p → target c ≡ u c +ℚ total (half_count p) (λ i. y_of i *ℚ (half_at p i).coefficient c) -ℚ w_of c
  column_sum c hc =
      let n = column_count p in
      let x = unit c in
      let v = point_at p x zero_ℚ in
      let s = point_balances p x zero_ℚ in
      let b = balances p v s in
      let z = point_constant p x zero_ℚ in
      let cols = λ (f : ℕ → ℚ). total_same n (λ j. f j *ℚ v j) (λ j. f j *ℚ x j) (λ j l. ap (λ (q : ℚ). f j *ℚ q) (point_column p x zero_ℚ j l)) ∙ total_one n c f x hc (unit_at c c refl) (λ j l ne. unit_off c j ne) in
      let rows = total_same (half_count p) (λ i. y_of i *ℚ v (n + i)) (λ i. y_of i *ℚ (half_at p i).coefficient c) (λ i l. ap (λ (q : ℚ). y_of i *ℚ q) (b.rows i l ∙ no_constant (total n (λ j. (half_at p i).coefficient j *ℚ v j)) (total n (λ j. (half_at p i).coefficient j *ℚ low p j) -ℚ (half_at p i).bound) (v (suc (number_count p))) z ∙ cols (half_at p i).coefficient)) in
      let ends = total_same n (λ j. w_of j *ℚ v (n + (half_count p + j))) (λ j. neg_ℚ (w_of j) *ℚ v j) (λ j l. ap (λ (q : ℚ). w_of j *ℚ q) (b.ends j l ∙ no_constant (neg_ℚ (v j)) (high p j -ℚ low p j) (v (suc (number_count p))) z) ∙ turn (w_of j) (v j)) ∙ cols (λ (j : ℕ). neg_ℚ (w_of j)) in
      sym (no_constant (total n (λ j. target j *ℚ v j)) (total n (λ j. target j *ℚ low p j)) (v (suc (number_count p))) z ∙ cols target)
      ∙ h.sum v s
      ∙ no_constant_left k (v (suc (number_count p))) (total (number_count p) (λ y. u y *ℚ v y)) z
      ∙ blocks v
      ∙ ap (λ (q : ℚ). q +ℚ (total (half_count p) (λ i. y_of i *ℚ v (n + i)) +ℚ total n (λ j. w_of j *ℚ v (n + (half_count p + j))))) (cols u)
      ∙ ap (λ (q : ℚ). u c +ℚ (q +ℚ total n (λ j. w_of j *ℚ v (n + (half_count p + j))))) rows
      ∙ ap (λ (q : ℚ). u c +ℚ (total (half_count p) (λ i. y_of i *ℚ (half_at p i).coefficient c) +ℚ q)) ends
      ∙ grouped (u c) (total (half_count p) (λ i. y_of i *ℚ (half_at p i).coefficient c)) (neg_ℚ (w_of c))
    where
      no_constant : (s k z : ℚ) → z ≡ zero_ℚ → s +ℚ k *ℚ z ≡ s
      no_constant s k z e = ap (λ (q : ℚ). s +ℚ k *ℚ q) e ∙ tidy s k
        where
          tidy : (s k : ℚ) → s +ℚ k *ℚ zero_ℚ ≡ s
          tidy s k = simp ring

      no_constant_left : (k z s : ℚ) → z ≡ zero_ℚ → k *ℚ z +ℚ s ≡ s
      no_constant_left k z s e = ap (λ (q : ℚ). k *ℚ q +ℚ s) e ∙ tidy k s
        where
          tidy : (k s : ℚ) → k *ℚ zero_ℚ +ℚ s ≡ s
          tidy k s = simp ring

      turn : (w x : ℚ) → w *ℚ neg_ℚ x ≡ neg_ℚ w *ℚ x
      turn w x = simp ring

      grouped : (x y z : ℚ) → x +ℚ (y +ℚ z) ≡ x +ℚ y +ℚ z
      grouped x y z = simp ring

  -- at the point where every column is 0, which is its least end below 0 above that end
  constant_sum : k ≡ total (half_count p) (λ i. y_of i *ℚ (half_at p i).bound) +ℚ total (column_count p) (λ j. u j *ℚ low p j -ℚ w_of j *ℚ high p j)
  constant_sum =
      let n = column_count p in
      let x = λ (j : ℕ). neg_ℚ (low p j) in
      let v = point_at p x one_ℚ in
      let s = point_balances p x one_ℚ in
      let b = balances p v s in
      let z = point_constant p x one_ℚ in
      let cols = λ (f : ℕ → ℚ). total_same n (λ j. f j *ℚ v j) (λ j. neg_ℚ one_ℚ *ℚ (f j *ℚ low p j)) (λ j l. ap (λ (q : ℚ). f j *ℚ q) (point_column p x one_ℚ j l) ∙ turned (f j) (low p j)) ∙ total-scaled n (neg_ℚ one_ℚ) (λ j. f j *ℚ low p j) in
      let rows = total_same (half_count p) (λ i. y_of i *ℚ v (n + i)) (λ i. neg_ℚ one_ℚ *ℚ (y_of i *ℚ (half_at p i).bound)) (λ i l. ap (λ (q : ℚ). y_of i *ℚ q) (b.rows i l ∙ ap (λ (q : ℚ). q +ℚ (total n (λ j. (half_at p i).coefficient j *ℚ low p j) -ℚ (half_at p i).bound) *ℚ v (suc (number_count p))) (cols (half_at p i).coefficient) ∙ row_left (total n (λ j. (half_at p i).coefficient j *ℚ low p j)) (half_at p i).bound (v (suc (number_count p))) z) ∙ turned (y_of i) (half_at p i).bound) ∙ total-scaled (half_count p) (neg_ℚ one_ℚ) (λ i. y_of i *ℚ (half_at p i).bound) in
      let ends = total_same n (λ j. w_of j *ℚ v (n + (half_count p + j))) (λ j. w_of j *ℚ high p j) (λ j l. ap (λ (q : ℚ). w_of j *ℚ q) (b.ends j l ∙ ap (λ (q : ℚ). neg_ℚ q +ℚ (high p j -ℚ low p j) *ℚ v (suc (number_count p))) (point_column p x one_ℚ j l) ∙ end_left (low p j) (high p j) (v (suc (number_count p))) z)) in
      let whole = sym (h.sum v s) ∙ ap (λ (q : ℚ). q +ℚ total n (λ j. target j *ℚ low p j) *ℚ v (suc (number_count p))) (cols target) ∙ nothing (total n (λ j. target j *ℚ low p j)) (v (suc (number_count p))) z in
      let parts = blocks v
      ∙ ap (λ (q : ℚ). q +ℚ (total (half_count p) (λ i. y_of i *ℚ v (n + i)) +ℚ total n (λ j. w_of j *ℚ v (n + (half_count p + j))))) (cols u)
      ∙ ap (λ (q : ℚ). neg_ℚ one_ℚ *ℚ total n (λ j. u j *ℚ low p j) +ℚ (q +ℚ total n (λ j. w_of j *ℚ v (n + (half_count p + j))))) rows
      ∙ ap (λ (q : ℚ). neg_ℚ one_ℚ *ℚ total n (λ j. u j *ℚ low p j) +ℚ (neg_ℚ one_ℚ *ℚ total (half_count p) (λ i. y_of i *ℚ (half_at p i).bound) +ℚ q)) ends in
      let spread : total n (λ j. u j *ℚ low p j -ℚ w_of j *ℚ high p j) ≡ total n (λ j. u j *ℚ low p j) +ℚ neg_ℚ one_ℚ *ℚ total n (λ j. w_of j *ℚ high p j) =
      total_same n (λ j. u j *ℚ low p j -ℚ w_of j *ℚ high p j) (λ j. u j *ℚ low p j +ℚ neg_ℚ one_ℚ *ℚ (w_of j *ℚ high p j)) (λ j l. less (u j *ℚ low p j) (w_of j *ℚ high p j)) ∙ total-sum n (λ j. u j *ℚ low p j) (λ j. neg_ℚ one_ℚ *ℚ (w_of j *ℚ high p j)) ∙ ap (λ (q : ℚ). total n (λ j. u j *ℚ low p j) +ℚ q) (total-scaled n (neg_ℚ one_ℚ) (λ j. w_of j *ℚ high p j)) in
      solved k (v (suc (number_count p))) (total (number_count p) (λ y. u y *ℚ v y)) (total n (λ j. u j *ℚ low p j)) (total (half_count p) (λ i. y_of i *ℚ (half_at p i).bound)) (total n (λ j. w_of j *ℚ high p j)) z whole parts
      ∙ ap (λ (q : ℚ). total (half_count p) (λ i. y_of i *ℚ (half_at p i).bound) +ℚ q) (sym spread)
    where
      turned : (a l : ℚ) → a *ℚ neg_ℚ l ≡ neg_ℚ one_ℚ *ℚ (a *ℚ l)
      turned a l = simp ring

      less : (a b : ℚ) → a -ℚ b ≡ a +ℚ neg_ℚ one_ℚ *ℚ b
      less a b = simp ring

      row_left : (s b z : ℚ) → z ≡ one_ℚ → neg_ℚ one_ℚ *ℚ s +ℚ (s -ℚ b) *ℚ z ≡ neg_ℚ b
      row_left s b z e = ap (λ (q : ℚ). neg_ℚ one_ℚ *ℚ s +ℚ (s -ℚ b) *ℚ q) e ∙ tidy s b
        where
          tidy : (s b : ℚ) → neg_ℚ one_ℚ *ℚ s +ℚ (s -ℚ b) *ℚ one_ℚ ≡ neg_ℚ b
          tidy s b = simp ring

      end_left : (l h z : ℚ) → z ≡ one_ℚ → neg_ℚ (neg_ℚ l) +ℚ (h -ℚ l) *ℚ z ≡ h
      end_left l h z e = ap (λ (q : ℚ). neg_ℚ (neg_ℚ l) +ℚ (h -ℚ l) *ℚ q) e ∙ tidy l h
        where
          tidy : (l h : ℚ) → neg_ℚ (neg_ℚ l) +ℚ (h -ℚ l) *ℚ one_ℚ ≡ h
          tidy l h = simp ring

      nothing : (s z : ℚ) → z ≡ one_ℚ → neg_ℚ one_ℚ *ℚ s +ℚ s *ℚ z ≡ zero_ℚ
      nothing s z e = ap (λ (q : ℚ). neg_ℚ one_ℚ *ℚ s +ℚ s *ℚ q) e ∙ tidy s
        where
          tidy : (s : ℚ) → neg_ℚ one_ℚ *ℚ s +ℚ s *ℚ one_ℚ ≡ zero_ℚ
          tidy s = simp ring

      solved : (k z t a b c : ℚ) → z ≡ one_ℚ → k *ℚ z +ℚ t ≡ zero_ℚ → t ≡ neg_ℚ one_ℚ *ℚ a +ℚ (neg_ℚ one_ℚ *ℚ b +ℚ c) → k ≡ b +ℚ (a +ℚ neg_ℚ one_ℚ *ℚ c)
      solved k z t a b c ez e parts = restored k t ∙ ap (λ (q : ℚ). q -ℚ t) (sym (ap (λ (q : ℚ). k *ℚ q +ℚ t) ez ∙ plain k t) ∙ e) ∙ ap (λ (q : ℚ). zero_ℚ -ℚ q) parts ∙ tidy a b c
        where
          restored : (k t : ℚ) → k ≡ (k +ℚ t) -ℚ t
          restored k t = simp ring

          plain : (k t : ℚ) → k *ℚ one_ℚ +ℚ t ≡ k +ℚ t
          plain k t = simp ring

          tidy : (a b c : ℚ) → zero_ℚ -ℚ (neg_ℚ one_ℚ *ℚ a +ℚ (neg_ℚ one_ℚ *ℚ b +ℚ c)) ≡ b +ℚ (a +ℚ neg_ℚ one_ℚ *ℚ c)
          tidy a b c = simp ring

  -- the bound of the multipliers is at least the constant
  pub sum_reached : ((j : ℕ) → j < column_count p → low p j ≤ℚ high p j) → ((y : ℕ) → AtLeast (u y)) → k ≤ℚ bound_of p target (row_multipliers p.rows u (column_count p))
  unfolding y_of w_of
  sum_reached order sign =
      let n = column_count p in
      let ys = row_multipliers p.rows u n in
      bound_reached p target u w_of ys k order (λ j l. sign j) (λ j l. sign (n + (half_count p + j)))
      (λ j l. ap (λ (q : ℚ). q -ℚ combined_coefficient p.rows ys j) (column_sum j l) ∙ ap (λ (q : ℚ). u j +ℚ total (half_count p) (λ i. y_of i *ℚ (half_at p i).coefficient j) -ℚ w_of j -ℚ q) (merged_coefficient p.rows u n j) ∙ left (u j) (total (half_count p) (λ i. y_of i *ℚ (half_at p i).coefficient j)) (w_of j))
      (constant_sum ∙ ap (λ (q : ℚ). q +ℚ total n (λ j. u j *ℚ low p j -ℚ w_of j *ℚ high p j)) (sym (merged_bound p.rows u n)))
    where
      left : (d s w : ℚ) → d +ℚ s -ℚ w -ℚ s ≡ d -ℚ w
      left d s w = simp ring

-- The bound of a combination: no point that satisfies the program costs less, and the last dictionary's multipliers reach its constant.
use Rattle.std.proofs.Common.{◌≡◌, ℕ, suc, zero, ◌<◌, List, [], ◌∷◌, sym, ap, ◌∙◌, refl, arith, subst}
use Rattle.std.specs.Prelude.{if◌then◌else◌, All, Bool, true, false, IsTrue}
use Rattle.std.proofs.lemmas.List.Elements.{All-head, All-tail}
use Rattle.sm_frac.specs.Rational.{ℚ, ◌+ℚ◌, ◌*ℚ◌, ◌-ℚ◌, zero_ℚ, ◌≤ℚ◌, is_nonnegative}
use Rattle.sm_frac.proofs.RationalRing.{ring}
use Rattle.sm_frac.proofs.Order.{le_equal, le_trans, le_sum, le_product, le_product_turned}
use Rattle.sm_certificate.specs.declared.program.Program.{Program}
use Rattle.sm_certificate.specs.declared.program.LpRow.{LpRow}
use Rattle.sm_certificate.specs.Signs.{AtLeast}
use Rattle.sm_certificate.specs.Totals.{total}
use Rattle.sm_certificate.specs.Program.{column_count, low, high, row_coefficient, row_bound, row_value, SatisfiesRow, Satisfies, AreMultipliers, combined_coefficient, combined_bound, rest_coefficient, least_product, bound_of}
use Rattle.sm_certificate.proofs.Totals.{total_same, total-zero, total-scaled, total-sum}

-- ---- sums in order
pub total_le : (n : ℕ) (f g : ℕ → ℚ) → ((j : ℕ) → j < n → f j ≤ℚ g j) → total n f ≤ℚ total n g
unfolding total
total_le zero f g h = le_equal zero_ℚ zero_ℚ refl
total_le (suc n) f g h = le_sum (total n f) (total n g) (f n) (g n) (total_le n f g (λ j l. h j (omega arith))) (h n (omega arith))

-- ---- the least that a product can be
least_low : (r l h x : ℚ) → l ≤ℚ x → x ≤ℚ h → least_product r l h ≤ℚ r *ℚ x
least_low r l h x low high = by_sign (is_nonnegative r) refl
  where
    by_sign : (b : Bool) → is_nonnegative r ≡ b → (if b then r *ℚ l else r *ℚ h) ≤ℚ r *ℚ x
    by_sign true e = le_product r l x e low
    by_sign false e = le_product_turned r x h e high

-- ---- no point costs less than the bound
-- the sum of the combination at a point
combined_value : ℕ → List LpRow → List ℚ → (ℕ → ℚ) → ℚ
combined_value n rows ys x = total n (λ j. combined_coefficient rows ys j *ℚ x j)

none_value : (n : ℕ) (x : ℕ → ℚ) → total n (λ j. zero_ℚ *ℚ x j) ≡ zero_ℚ
none_value n x = total-zero n (λ j. zero_ℚ *ℚ x j) (λ j h. zero_times (x j))
  where
    zero_times : (y : ℚ) → zero_ℚ *ℚ y ≡ zero_ℚ
    zero_times y = simp ring

pub more_value : (n : ℕ) (y : ℚ) (a b x : ℕ → ℚ) → total n (λ j. (y *ℚ a j +ℚ b j) *ℚ x j) ≡ y *ℚ total n (λ j. a j *ℚ x j) +ℚ total n (λ j. b j *ℚ x j)
more_value n y a b x =
    total_same n (λ j. (y *ℚ a j +ℚ b j) *ℚ x j) (λ j. y *ℚ (a j *ℚ x j) +ℚ b j *ℚ x j) (λ j h. spread y (a j) (b j) (x j))
    ∙ total-sum n (λ j. y *ℚ (a j *ℚ x j)) (λ j. b j *ℚ x j)
    ∙ ap (λ (z : ℚ). z +ℚ total n (λ j. b j *ℚ x j)) (total-scaled n y (λ j. a j *ℚ x j))
  where
    spread : (y a b x : ℚ) → (y *ℚ a +ℚ b) *ℚ x ≡ y *ℚ (a *ℚ x) +ℚ b *ℚ x
    spread y a b x = simp ring

row_least : (b : Bool) (y v w : ℚ) → (b ≡ false → AtLeast y) → w ≤ℚ v → (b ≡ true → v ≡ w) → y *ℚ w ≤ℚ y *ℚ v
row_least true y v w sign le same = le_equal (y *ℚ w) (y *ℚ v) (ap (λ (z : ℚ). y *ℚ z) (sym (same refl)))
row_least false y v w sign le same = le_product y w v (sign refl).is le

-- the combination's bound is at most its sum
combined_least : (n : ℕ) (x : ℕ → ℚ) (rows : List LpRow) (ys : List ℚ) → AreMultipliers rows ys → All (SatisfiesRow n x) rows → combined_bound rows ys ≤ℚ combined_value n rows ys x
unfolding AreMultipliers combined_bound combined_value combined_coefficient
combined_least n x [] [] m s = le_equal zero_ℚ (total n (λ j. zero_ℚ *ℚ x j)) (sym (none_value n x))
combined_least n x [] (y ∷ ys) m s = absurd m
combined_least n x (row ∷ rows) [] m s = absurd m
combined_least n x (row ∷ rows) (y ∷ ys) m s =
    le_trans (y *ℚ row_bound row +ℚ combined_bound rows ys) (y *ℚ row_value n row x +ℚ combined_value n rows ys x) (total n (λ j. (y *ℚ row_coefficient row j +ℚ combined_coefficient rows ys j) *ℚ x j))
    (le_sum (y *ℚ row_bound row) (y *ℚ row_value n row x) (combined_bound rows ys) (combined_value n rows ys x)
    (row_least row.equal y (row_value n row x) (row_bound row) m.0 (All-head (SatisfiesRow n x) row rows s).0 (All-head (SatisfiesRow n x) row rows s).1)
    (combined_least n x rows ys m.1 (All-tail (SatisfiesRow n x) row rows s)))
    (le_equal (y *ℚ row_value n row x +ℚ combined_value n rows ys x) (total n (λ j. (y *ℚ row_coefficient row j +ℚ combined_coefficient rows ys j) *ℚ x j)) (sym (more_value n y (row_coefficient row) (combined_coefficient rows ys) x)))

pub bound_least : (p : Program) (target : ℕ → ℚ) (ys : List ℚ) (x : ℕ → ℚ) → AreMultipliers p.rows ys → Satisfies p x → bound_of p target ys ≤ℚ total (column_count p) (λ j. target j *ℚ x j)
unfolding bound_of combined_value
bound_least p target ys x m s =
    let n = column_count p in
    let rest = rest_coefficient p target ys in
    let first = combined_least n x p.rows ys m s.rows in
    let second = total_le n (λ j. least_product (rest j) (low p j) (high p j)) (λ j. rest j *ℚ x j) (λ j h. least_low (rest j) (low p j) (high p j) (x j) (s.least_ends j h) (s.greatest_ends j h)) in
    le_trans (combined_bound p.rows ys +ℚ total n (λ j. least_product (rest j) (low p j) (high p j))) (combined_value n p.rows ys x +ℚ total n (λ j. rest j *ℚ x j)) (total n (λ j. target j *ℚ x j))
    (le_sum (combined_bound p.rows ys) (combined_value n p.rows ys x) (total n (λ j. least_product (rest j) (low p j) (high p j))) (total n (λ j. rest j *ℚ x j)) first second)
    (le_equal (combined_value n p.rows ys x +ℚ total n (λ j. rest j *ℚ x j)) (total n (λ j. target j *ℚ x j))
    (sym (total-sum n (λ j. combined_coefficient p.rows ys j *ℚ x j) (λ j. rest j *ℚ x j)) ∙ total_same n (λ j. combined_coefficient p.rows ys j *ℚ x j +ℚ rest j *ℚ x j) (λ j. target j *ℚ x j) (λ j h. together (combined_coefficient p.rows ys j) (target j) (x j))))
  where
    together : (a t x : ℚ) → a *ℚ x +ℚ (t -ℚ a) *ℚ x ≡ t *ℚ x
    together a t x = simp ring

-- ---- the multipliers reach the constant
-- a product is at least what the two ends' coefficients give, where the rest is their difference
reached : (r d w l h : ℚ) → AtLeast d → AtLeast w → l ≤ℚ h → r ≡ d -ℚ w → d *ℚ l -ℚ w *ℚ h ≤ℚ least_product r l h
reached r d w l h hd hw le e = by_sign (is_nonnegative r) refl
  where
    by_low : (d -ℚ w) *ℚ l -ℚ (d *ℚ l -ℚ w *ℚ h) ≡ w *ℚ h -ℚ w *ℚ l
    by_low = simp ring

    by_high : (d -ℚ w) *ℚ h -ℚ (d *ℚ l -ℚ w *ℚ h) ≡ d *ℚ h -ℚ d *ℚ l
    by_high = simp ring

    at_low : d *ℚ l -ℚ w *ℚ h ≤ℚ (d -ℚ w) *ℚ l
    at_low = record { le = subst (λ (z : ℚ). IsTrue (is_nonnegative z)) (sym by_low) (le_product w l h hw.is le).le }

    at_high : d *ℚ l -ℚ w *ℚ h ≤ℚ (d -ℚ w) *ℚ h
    at_high = record { le = subst (λ (z : ℚ). IsTrue (is_nonnegative z)) (sym by_high) (le_product d l h hd.is le).le }

    by_sign : (b : Bool) → is_nonnegative r ≡ b → d *ℚ l -ℚ w *ℚ h ≤ℚ (if b then r *ℚ l else r *ℚ h)
    by_sign true _ = subst (λ (z : ℚ). d *ℚ l -ℚ w *ℚ h ≤ℚ z *ℚ l) (sym e) at_low
    by_sign false _ = subst (λ (z : ℚ). d *ℚ l -ℚ w *ℚ h ≤ℚ z *ℚ h) (sym e) at_high

pub bound_reached : (p : Program) (target d w : ℕ → ℚ) (ys : List ℚ) (k : ℚ)
    → ((j : ℕ) → j < column_count p → low p j ≤ℚ high p j)
    → ((j : ℕ) → j < column_count p → AtLeast (d j))
    → ((j : ℕ) → j < column_count p → AtLeast (w j))
    → ((j : ℕ) → j < column_count p → rest_coefficient p target ys j ≡ d j -ℚ w j)
    → k ≡ combined_bound p.rows ys +ℚ total (column_count p) (λ j. d j *ℚ low p j -ℚ w j *ℚ high p j)
    → k ≤ℚ bound_of p target ys
unfolding bound_of
bound_reached p target d w ys k order hd hw rest is =
    let n = column_count p in
    subst (λ (z : ℚ). z ≤ℚ (combined_bound p.rows ys +ℚ total n (λ j. least_product (rest_coefficient p target ys j) (low p j) (high p j)))) (sym is)
    (le_sum (combined_bound p.rows ys) (combined_bound p.rows ys) (total n (λ j. d j *ℚ low p j -ℚ w j *ℚ high p j)) (total n (λ j. least_product (rest_coefficient p target ys j) (low p j) (high p j)))
    (le_equal (combined_bound p.rows ys) (combined_bound p.rows ys) refl)
    (total_le n (λ j. d j *ℚ low p j -ℚ w j *ℚ high p j) (λ j. least_product (rest_coefficient p target ys j) (low p j) (high p j)) (λ j h. reached (rest_coefficient p target ys j) (d j) (w j) (low p j) (high p j) (hd j h) (hw j h) (order j h) (rest j h))))

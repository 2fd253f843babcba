-- From the last dictionary's coefficients to the bound of the multipliers.
use Rattle.std.proofs.Common.{◌≡◌, ℕ, suc, zero, ◌+◌, ◌<◌, sym, ap, ◌∙◌, refl, arith, ◌≢◌, add-zero, add-suc}
use Rattle.std.proofs.lemmas.Bool.{cases_eq}
use Rattle.std.proofs.Math.Logic.{⊎_elim}
use Rattle.sm_frac.specs.Rational.{ℚ, ◌+ℚ◌, ◌*ℚ◌, ◌-ℚ◌, zero_ℚ}
use Rattle.sm_frac.proofs.RationalRing.{ring}
use Rattle.sm_certificate.specs.Totals.{total}
use Rattle.sm_lp.specs.Dictionary.{value_at}
use Rattle.sm_certificate.proofs.Totals.{total_same, total-scaled, total-sum, total_split, total-zero, without, without_at, without_off}
use Rattle.sm_certificate.proofs.Totals.{choose, choose_not}
use Rattle.sm_lp.proofs.Points.{missing}

zero_times : (x : ℚ) → zero_ℚ *ℚ x ≡ zero_ℚ
zero_times x = simp ring

plus_zero : (x : ℚ) → x +ℚ zero_ℚ ≡ x
plus_zero x = simp ring

-- a sum over the nonbasic places as one over all numbers below m, with the coefficient 0 at the others
pub total_reindexed : (m w : ℕ) (nb : ℕ → ℕ) (t v : ℕ → ℚ) → ((j : ℕ) → j < w → nb j < m) → ((a b : ℕ) → a < w → b < w → nb a ≡ nb b → a ≡ b) → total w (λ j. t j *ℚ v (nb j)) ≡ total m (λ y. value_at w nb t y zero_ℚ *ℚ v y)
unfolding total value_at
total_reindexed m zero nb t v low one = sym (total-zero m (λ y. zero_ℚ *ℚ v y) (λ y l. zero_times (v y)))
total_reindexed m (suc w) nb t v low one =
    let a = nb w in
    let F = λ (y : ℕ). value_at w nb t y zero_ℚ *ℚ v y in
    let G = λ (y : ℕ). value_at (suc w) nb t y zero_ℚ *ℚ v y in
    let inside : a < m = low w (omega arith) in
    let rest = total_reindexed m w nb t v (λ j l. low j (omega arith)) (λ i j p q. one i j (omega arith) (omega arith)) in
    let gone : F a ≡ zero_ℚ = ap (λ (x : ℚ). x *ℚ v a) (missing w nb t a zero_ℚ (λ i l e. let at = one i w (omega arith) (omega arith) e in omega arith)) ∙ zero_times (v a) in
    let here : G a ≡ t w *ℚ v a = ap (λ (x : ℚ). x *ℚ v a) (choose (nb w) a (t w) (value_at w nb t a zero_ℚ) refl) in
    let same = total_same m (without a F) (without a G) (λ y l. ⊎_elim
    (λ (e : y ≡ a). without_at a F y e ∙ sym (without_at a G y e))
    (λ (ne : y ≢ a). without_off a F y ne ∙ ap (λ (x : ℚ). x *ℚ v y) (sym (choose_not (nb w) y (t w) (value_at w nb t y zero_ℚ) (λ e. ne (sym e)))) ∙ sym (without_off a G y ne))
    (cases_eq y a)) in
    ap (λ (x : ℚ). x +ℚ t w *ℚ v a) (rest ∙ total_split m a F inside ∙ ap (λ (x : ℚ). total m (without a F) +ℚ x) gone ∙ plus_zero (total m (without a F)) ∙ same)
    ∙ ap (λ (x : ℚ). total m (without a G) +ℚ x) (sym here) ∙ sym (total_split m a G inside)

-- a sum over two blocks
pub total-add : (a b : ℕ) (f : ℕ → ℚ) → total (a + b) f ≡ total a f +ℚ total b (λ k. f (a + k))
unfolding total
total-add a zero f = ap (λ (n : ℕ). total n f) (add-zero a) ∙ sym (plus_zero (total a f))
total-add a (suc b) f = ap (λ (n : ℕ). total n f) (add-suc a b) ∙ ap (λ (x : ℚ). x +ℚ f (a + b)) (total-add a b f) ∙ grouped (total a f) (total b (λ k. f (a + k))) (f (a + b))
  where
    grouped : (x y z : ℚ) → x +ℚ y +ℚ z ≡ x +ℚ (y +ℚ z)
    grouped x y z = simp ring

-- two sums in either order
pub total-swap : (n m : ℕ) (f : ℕ → ℕ → ℚ) → total n (λ j. total m (λ i. f i j)) ≡ total m (λ i. total n (λ j. f i j))
unfolding total
total-swap zero m f = sym (total-zero m (λ i. zero_ℚ) (λ i l. refl))
total-swap (suc n) m f = ap (λ (x : ℚ). x +ℚ total m (λ i. f i n)) (total-swap n m f) ∙ sym (total-sum m (λ i. total n (λ j. f i j)) (λ i. f i n))

-- The cost of the point is the bound: the multipliers y of the rows, d of the columns' least ends and w of their greatest ends, each zero where its slack isn't.
pub cost_is_bound : (n m : ℕ) (cost b y d w x lo hi : ℕ → ℚ) (a : ℕ → ℕ → ℚ)
    → ((j : ℕ) → j < n → cost j ≡ d j +ℚ total m (λ i. y i *ℚ a i j) -ℚ w j)
    → ((i : ℕ) → i < m → y i *ℚ total n (λ j. a i j *ℚ x j) ≡ y i *ℚ b i)
    → ((j : ℕ) → j < n → d j *ℚ x j ≡ d j *ℚ lo j)
    → ((j : ℕ) → j < n → w j *ℚ x j ≡ w j *ℚ hi j)
    → total n (λ j. cost j *ℚ x j) ≡ total m (λ i. y i *ℚ b i) +ℚ total n (λ j. d j *ℚ lo j -ℚ w j *ℚ hi j)
cost_is_bound n m cost b y d w x lo hi a coefficient rows low high =
    let each = total_same n (λ j. cost j *ℚ x j) (λ j. total m (λ i. y i *ℚ (a i j *ℚ x j)) +ℚ (d j *ℚ lo j -ℚ w j *ℚ hi j)) (λ j l.
    ap (λ (z : ℚ). z *ℚ x j) (coefficient j l)
    ∙ spread (d j) (total m (λ i. y i *ℚ a i j)) (w j) (x j)
    ∙ ap (λ (z : ℚ). z +ℚ (d j *ℚ x j -ℚ w j *ℚ x j)) (sym (total-scaled m (x j) (λ i. y i *ℚ a i j)) ∙ total_same m (λ i. x j *ℚ (y i *ℚ a i j)) (λ i. y i *ℚ (a i j *ℚ x j)) (λ i k. turn (x j) (y i) (a i j)))
    ∙ ap (λ (z : ℚ). total m (λ i. y i *ℚ (a i j *ℚ x j)) +ℚ z) (ap (λ (z : ℚ). z -ℚ w j *ℚ x j) (low j l) ∙ ap (λ (z : ℚ). d j *ℚ lo j -ℚ z) (high j l))) in
    each
    ∙ total-sum n (λ j. total m (λ i. y i *ℚ (a i j *ℚ x j))) (λ j. d j *ℚ lo j -ℚ w j *ℚ hi j)
    ∙ ap (λ (z : ℚ). z +ℚ total n (λ j. d j *ℚ lo j -ℚ w j *ℚ hi j))
    (total-swap n m (λ i j. y i *ℚ (a i j *ℚ x j))
    ∙ total_same m (λ i. total n (λ j. y i *ℚ (a i j *ℚ x j))) (λ i. y i *ℚ b i) (λ i k. total-scaled n (y i) (λ j. a i j *ℚ x j) ∙ rows i k))
  where
    spread : (d s w x : ℚ) → (d +ℚ s -ℚ w) *ℚ x ≡ x *ℚ s +ℚ (d *ℚ x -ℚ w *ℚ x)
    spread d s w x = simp ring

    turn : (x y a : ℚ) → x *ℚ (y *ℚ a) ≡ y *ℚ (a *ℚ x)
    turn x y a = simp ring

-- A dictionary has a solution for any values of its nonbasic numbers, and so each basis has one dictionary.
use Rattle.std.proofs.Common.{◌≡◌, ℕ, suc, zero, ◌<◌, sym, ap, ◌∙◌, refl, arith, ◌≢◌}
use Rattle.std.specs.Prelude.{◌==◌, if◌then◌else◌}
use Rattle.std.proofs.lemmas.Bool.{cases_eq}
use Rattle.std.proofs.Math.Logic.{⊎_elim}
use Rattle.sm_frac.specs.Rational.{ℚ, ◌+ℚ◌, ◌*ℚ◌, zero_ℚ, one_ℚ}
use Rattle.sm_frac.proofs.RationalRing.{ring}
use Rattle.sm_certificate.specs.Totals.{total}
use Rattle.sm_lp.specs.Dictionary.{Dictionary, Solves, IsProper, value_at}
use Rattle.sm_certificate.proofs.Totals.{total_same, total_split, total-zero, without, without_at, without_off, choose, choose_not}

pub found : (n : ℕ) (f : ℕ → ℕ) (g : ℕ → ℚ) (k : ℕ) (x : ℚ) (i : ℕ) → i < n → ((a b : ℕ) → a < n → b < n → f a ≡ f b → a ≡ b) → f i ≡ k → value_at n f g k x ≡ g i
unfolding value_at
found zero f g k x i h one e = absurd (omega arith)
found (suc n) f g k x i h one e =
    ⊎_elim
    (λ (at : f n ≡ k). choose (f n) k (g n) (value_at n f g k x) at ∙ ap g (one n i (omega arith) h (at ∙ sym e)))
    (λ (off : f n ≢ k). choose_not (f n) k (g n) (value_at n f g k x) off ∙ found n f g k x i (⊎_elim (λ (at : i ≡ n). absurd (off (ap f (sym at) ∙ e))) (λ (ne : i ≢ n). omega arith) (cases_eq i n)) (λ a b p q. one a b (omega arith) (omega arith)) e)
    (cases_eq (f n) k)

pub missing : (n : ℕ) (f : ℕ → ℕ) (g : ℕ → ℚ) (k : ℕ) (x : ℚ) → ((i : ℕ) → i < n → f i ≡ k → ⊥) → value_at n f g k x ≡ x
unfolding value_at
missing zero f g k x h = refl
missing (suc n) f g k x h = choose_not (f n) k (g n) (value_at n f g k x) (h n (omega arith)) ∙ missing n f g k x (λ i l. h i (omega arith))

row_value : Dictionary → (ℕ → ℚ) → ℕ → ℚ
row_value d u i = total d.width (λ j. d.entry i j *ℚ u j)

-- the values with u at the nonbasic places
pub point : Dictionary → (ℕ → ℚ) → ℕ → ℚ
point d u k = value_at d.width d.nonbasic u k (value_at d.height d.basic (row_value d u) k zero_ℚ)

pub point_nonbasic : (d : Dictionary) (u : ℕ → ℚ) → IsProper d → (j : ℕ) → j < d.width → point d u (d.nonbasic j) ≡ u j
unfolding point
point_nonbasic d u p j h = found d.width d.nonbasic u (d.nonbasic j) (value_at d.height d.basic (row_value d u) (d.nonbasic j) zero_ℚ) j h p.nonbasic_apart refl

point_basic : (d : Dictionary) (u : ℕ → ℚ) → IsProper d → (i : ℕ) → i < d.height → point d u (d.basic i) ≡ row_value d u i
unfolding point
point_basic d u p i h = missing d.width d.nonbasic u (d.basic i) (value_at d.height d.basic (row_value d u) (d.basic i) zero_ℚ) (λ j l e. p.apart i j h l (sym e)) ∙ found d.height d.basic (row_value d u) (d.basic i) zero_ℚ i h p.basic_apart refl

pub point_solves : (d : Dictionary) (u : ℕ → ℚ) → IsProper d → Solves d (point d u)
unfolding row_value
point_solves d u p i h = point_basic d u p i h ∙ total_same d.width (λ j. d.entry i j *ℚ u j) (λ j. d.entry i j *ℚ point d u (d.nonbasic j)) (λ j l. ap (λ (x : ℚ). d.entry i j *ℚ x) (sym (point_nonbasic d u p j l)))

-- 1 at the place c, and 0 elsewhere
pub unit : ℕ → ℕ → ℚ
unit c j = if j == c then one_ℚ else zero_ℚ

pub unit_at : (c j : ℕ) → j ≡ c → unit c j ≡ one_ℚ
unfolding unit
unit_at c j e = choose j c one_ℚ zero_ℚ e

pub unit_off : (c j : ℕ) → j ≢ c → unit c j ≡ zero_ℚ
unfolding unit
unit_off c j e = choose_not j c one_ℚ zero_ℚ e

last_term : (t x : ℚ) → x ≡ one_ℚ → zero_ℚ +ℚ t *ℚ x ≡ t
last_term t x e = ap (λ (y : ℚ). zero_ℚ +ℚ t *ℚ y) e ∙ tidy t
  where
    tidy : (t : ℚ) → zero_ℚ +ℚ t *ℚ one_ℚ ≡ t
    tidy t = simp ring

zero_term : (t x : ℚ) → x ≡ zero_ℚ → t *ℚ x ≡ zero_ℚ
zero_term t x e = ap (λ (y : ℚ). t *ℚ y) e ∙ tidy t
  where
    tidy : (t : ℚ) → t *ℚ zero_ℚ ≡ zero_ℚ
    tidy t = simp ring

-- a sum whose other terms have the factor 0 is the one with the factor 1
pub total_one : (n c : ℕ) (t x : ℕ → ℚ) → c < n → x c ≡ one_ℚ → ((j : ℕ) → j < n → j ≢ c → x j ≡ zero_ℚ) → total n (λ j. t j *ℚ x j) ≡ t c
total_one n c t x h one zeros =
    total_split n c (λ j. t j *ℚ x j) h
    ∙ ap (λ (y : ℚ). y +ℚ t c *ℚ x c) (total-zero n (without c (λ j. t j *ℚ x j)) (λ j l. ⊎_elim (λ e. without_at c (λ j. t j *ℚ x j) j e) (λ ne. without_off c (λ j. t j *ℚ x j) j ne ∙ zero_term (t j) (x j) (zeros j l ne)) (cases_eq j c)))
    ∙ last_term (t c) (x c) one

-- the point of the column c: 1 at its number, 0 at the other nonbasic ones, and the column's entries at the basic ones
pub column_point : Dictionary → ℕ → ℕ → ℚ
column_point d c = point d (unit c)

pub column_point_nonbasic : (d : Dictionary) (c : ℕ) → IsProper d → (j : ℕ) → j < d.width → column_point d c (d.nonbasic j) ≡ unit c j
unfolding column_point
column_point_nonbasic d c p j h = point_nonbasic d (unit c) p j h

pub column_point_solves : (d : Dictionary) (c : ℕ) → IsProper d → Solves d (column_point d c)
unfolding column_point
column_point_solves d c p = point_solves d (unit c) p

pub column_point_basic : (d : Dictionary) (c : ℕ) → IsProper d → c < d.width → (i : ℕ) → i < d.height → column_point d c (d.basic i) ≡ d.entry i c
unfolding column_point row_value
column_point_basic d c p hc i h = point_basic d (unit c) p i h ∙ total_one d.width c (d.entry i) (unit c) hc (unit_at c c refl) (λ j l ne. unit_off c j ne)

-- Two dictionaries with the same solutions and the same nonbasic numbers, in any order, have the same entries.
pub one_dictionary : (d e : Dictionary) → IsProper d → IsProper e → ((v : ℕ → ℚ) → Solves d v → Solves e v)
    → ((k : ℕ) → k < e.width → (j : ℕ) × (j < d.width) × (d.nonbasic j ≡ e.nonbasic k))
    → (i j a b : ℕ) → i < d.height → j < d.width → a < e.height → b < e.width → d.basic i ≡ e.basic a → d.nonbasic j ≡ e.nonbasic b → d.entry i j ≡ e.entry a b
one_dictionary d e p q same covers i j a b hi hj ha hb eb en =
    let v = column_point d j in
    let row = same v (column_point_solves d j p) a ha in
    let one : v (e.nonbasic b) ≡ one_ℚ = ap v (sym en) ∙ column_point_nonbasic d j p j hj ∙ unit_at j j refl in
    let zeros : (k : ℕ) → k < e.width → k ≢ b → v (e.nonbasic k) ≡ zero_ℚ = λ k l ne.
    let place = covers k l in
    ap v (sym place.2) ∙ column_point_nonbasic d j p place.0 place.1 ∙ unit_off j place.0 (λ (at : place.0 ≡ j). ne (q.nonbasic_apart k b l hb (sym place.2 ∙ ap d.nonbasic at ∙ en))) in
    sym (column_point_basic d j p hj i hi) ∙ ap v eb ∙ row ∙ total_one e.width b (e.entry a) (λ k. v (e.nonbasic k)) hb one zeros

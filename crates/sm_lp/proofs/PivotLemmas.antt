-- A pivot keeps the solutions.
use Rattle.std.proofs.Common.{◌≡◌, ℕ, ◌<◌, ◌≤◌, sym, ap, ◌∙◌, refl, arith, ◌≢◌, subst}
use Rattle.std.proofs.lemmas.Bool.Decides.{nat_tests}
use Rattle.std.proofs.lemmas.Bool.{cases_eq}
use Rattle.std.proofs.Math.Logic.{⊎_elim}
use Rattle.sm_frac.specs.Rational.{ℚ, ◌+ℚ◌, ◌*ℚ◌, ◌-ℚ◌, neg_ℚ, zero_ℚ, one_ℚ, inverse, *ℚ-inverse}
use Rattle.sm_frac.proofs.RationalRing.{ring, one-*ℚ}
use Rattle.sm_certificate.specs.Totals.{total}
use Rattle.sm_lp.specs.Dictionary.{Dictionary, SolvesRow, Solves, pivot_entry, replaced, pivot}
use Rattle.sm_certificate.proofs.Totals.{total_same, total-scaled, total-sum, total_split, without, without_at, without_off}

pub replaced_at : (n : ℕ) (f : ℕ → ℕ) (k x i : ℕ) → i < n → i ≡ k → replaced n f k x i ≡ x
unfolding replaced
replaced_at n f k x i h e = grind (arith, nat_tests)

pub replaced_off : (n : ℕ) (f : ℕ → ℕ) (k x i : ℕ) → i < n → i ≢ k → replaced n f k x i ≡ f i
unfolding replaced
replaced_off n f k x i h e = grind (arith, nat_tests)

pub entry_pivot : (h w : ℕ) (t : ℕ → ℕ → ℚ) (r c i j : ℕ) → i < h → j < w → i ≡ r → j ≡ c → pivot_entry h w t r c i j ≡ inverse (t r c)
unfolding pivot_entry
entry_pivot h w t r c i j hi hj e f = grind (arith, nat_tests)

pub entry_row : (h w : ℕ) (t : ℕ → ℕ → ℚ) (r c i j : ℕ) → i < h → j < w → i ≡ r → j ≢ c → pivot_entry h w t r c i j ≡ neg_ℚ (t r j *ℚ inverse (t r c))
unfolding pivot_entry
entry_row h w t r c i j hi hj e f = grind (arith, nat_tests)

pub entry_column : (h w : ℕ) (t : ℕ → ℕ → ℚ) (r c i j : ℕ) → i < h → j < w → i ≢ r → j ≡ c → pivot_entry h w t r c i j ≡ t i c *ℚ inverse (t r c)
unfolding pivot_entry
entry_column h w t r c i j hi hj e f = grind (arith, nat_tests)

pub entry_other : (h w : ℕ) (t : ℕ → ℕ → ℚ) (r c i j : ℕ) → i < h → j < w → i ≢ r → j ≢ c → pivot_entry h w t r c i j ≡ t i j -ℚ t i c *ℚ (t r j *ℚ inverse (t r c))
unfolding pivot_entry
entry_other h w t r c i j hi hj e f = grind (arith, nat_tests)

-- the terms of a row, and their sum without the column c
abbrev term : Dictionary → (ℕ → ℚ) → ℕ → ℕ → ℚ
term d v i j = d.entry i j *ℚ v (d.nonbasic j)

abbrev off : Dictionary → (ℕ → ℚ) → ℕ → ℕ → ℚ
off d v c i = total d.width (without c (term d v i))

-- the value that the row r gives to the entering number
abbrev entering : Dictionary → (ℕ → ℚ) → ℕ → ℕ → ℚ
entering d v r c = inverse (d.entry r c) *ℚ (v (d.basic r) -ℚ off d v c r)

-- the algebra of a pivot, over plain numbers
turned_zero : (q : ℚ) → zero_ℚ ≡ neg_ℚ q *ℚ zero_ℚ
turned_zero q = simp ring

turned_term : (t q w : ℚ) → neg_ℚ (t *ℚ q) *ℚ w ≡ neg_ℚ q *ℚ (t *ℚ w)
turned_term t q w = simp ring

turned_sum : (q s b : ℚ) → neg_ℚ q *ℚ s +ℚ q *ℚ b ≡ q *ℚ (b -ℚ s)
turned_sum q s b = simp ring

other_zero : (a : ℚ) → zero_ℚ ≡ zero_ℚ +ℚ a *ℚ zero_ℚ
other_zero a = simp ring

other_term : (t a b q w : ℚ) → (t -ℚ a *ℚ (b *ℚ q)) *ℚ w ≡ t *ℚ w +ℚ neg_ℚ (a *ℚ q) *ℚ (b *ℚ w)
other_term t a b q w = simp ring

other_sum : (s a q z b : ℚ) → (s +ℚ neg_ℚ (a *ℚ q) *ℚ z) +ℚ (a *ℚ q) *ℚ b ≡ s +ℚ a *ℚ (q *ℚ (b -ℚ z))
other_sum s a q z b = simp ring

new_pivot_row : (d : Dictionary) (r c : ℕ) (v : ℕ → ℚ) → r < d.height → c < d.width → total d.width (term (pivot d r c) v r) ≡ entering d v r c
new_pivot_row d r c v hr h =
    let q = inverse (d.entry r c) in
    let each = total_same d.width (without c (term (pivot d r c) v r)) (λ j. neg_ℚ q *ℚ without c (term d v r) j) (λ j l.
    ⊎_elim
    (λ (e : j ≡ c). without_at c (term (pivot d r c) v r) j e ∙ turned_zero q ∙ ap (λ (x : ℚ). neg_ℚ q *ℚ x) (sym (without_at c (term d v r) j e)))
    (λ (e : j ≢ c). without_off c (term (pivot d r c) v r) j e ∙ ap (λ (x : ℚ). x *ℚ v (replaced d.width d.nonbasic c (d.basic r) j)) (entry_row d.height d.width d.entry r c r j hr l refl e) ∙ ap (λ (k : ℕ). neg_ℚ (d.entry r j *ℚ q) *ℚ v k) (replaced_off d.width d.nonbasic c (d.basic r) j l e) ∙ turned_term (d.entry r j) q (v (d.nonbasic j)) ∙ ap (λ (x : ℚ). neg_ℚ q *ℚ x) (sym (without_off c (term d v r) j e)))
    (cases_eq j c)) in
    let last : term (pivot d r c) v r c ≡ q *ℚ v (d.basic r) = ap (λ (x : ℚ). x *ℚ v (replaced d.width d.nonbasic c (d.basic r) c)) (entry_pivot d.height d.width d.entry r c r c hr h refl refl) ∙ ap (λ (k : ℕ). q *ℚ v k) (replaced_at d.width d.nonbasic c (d.basic r) c h refl) in
    total_split d.width c (term (pivot d r c) v r) h ∙ ap (λ (x : ℚ). x +ℚ term (pivot d r c) v r c) (each ∙ total-scaled d.width (neg_ℚ q) (without c (term d v r))) ∙ ap (λ (x : ℚ). neg_ℚ q *ℚ off d v c r +ℚ x) last ∙ turned_sum q (off d v c r) (v (d.basic r))

new_other_row : (d : Dictionary) (r c i : ℕ) (v : ℕ → ℚ) → i < d.height → c < d.width → i ≢ r → total d.width (term (pivot d r c) v i) ≡ off d v c i +ℚ d.entry i c *ℚ entering d v r c
new_other_row d r c i v hi h ne =
    let q = inverse (d.entry r c) in
    let a = d.entry i c in
    let k = neg_ℚ (a *ℚ q) in
    let each = total_same d.width (without c (term (pivot d r c) v i)) (λ j. without c (term d v i) j +ℚ k *ℚ without c (term d v r) j) (λ j l.
    ⊎_elim
    (λ (e : j ≡ c). without_at c (term (pivot d r c) v i) j e ∙ other_zero k ∙ ap (λ (x : ℚ). x +ℚ k *ℚ zero_ℚ) (sym (without_at c (term d v i) j e)) ∙ ap (λ (x : ℚ). without c (term d v i) j +ℚ k *ℚ x) (sym (without_at c (term d v r) j e)))
    (λ (e : j ≢ c). without_off c (term (pivot d r c) v i) j e ∙ ap (λ (x : ℚ). x *ℚ v (replaced d.width d.nonbasic c (d.basic r) j)) (entry_other d.height d.width d.entry r c i j hi l ne e) ∙ ap (λ (x : ℕ). (d.entry i j -ℚ a *ℚ (d.entry r j *ℚ q)) *ℚ v x) (replaced_off d.width d.nonbasic c (d.basic r) j l e) ∙ other_term (d.entry i j) a (d.entry r j) q (v (d.nonbasic j)) ∙ ap (λ (x : ℚ). x +ℚ k *ℚ (d.entry r j *ℚ v (d.nonbasic j))) (sym (without_off c (term d v i) j e)) ∙ ap (λ (x : ℚ). without c (term d v i) j +ℚ k *ℚ x) (sym (without_off c (term d v r) j e)))
    (cases_eq j c)) in
    let last : term (pivot d r c) v i c ≡ (a *ℚ q) *ℚ v (d.basic r) = ap (λ (x : ℚ). x *ℚ v (replaced d.width d.nonbasic c (d.basic r) c)) (entry_column d.height d.width d.entry r c i c hi h ne refl) ∙ ap (λ (x : ℕ). (a *ℚ q) *ℚ v x) (replaced_at d.width d.nonbasic c (d.basic r) c h refl) in
    total_split d.width c (term (pivot d r c) v i) h
    ∙ ap (λ (x : ℚ). x +ℚ term (pivot d r c) v i c) (each ∙ total-sum d.width (without c (term d v i)) (λ j. k *ℚ without c (term d v r) j) ∙ ap (λ (x : ℚ). off d v c i +ℚ x) (total-scaled d.width k (without c (term d v r))))
    ∙ ap (λ (x : ℚ). off d v c i +ℚ k *ℚ off d v c r +ℚ x) last
    ∙ other_sum (off d v c i) a q (off d v c r) (v (d.basic r))

-- the row r, solved for the entering number, and back
solved_for : (p q b s x : ℚ) → p *ℚ q ≡ one_ℚ → b ≡ s +ℚ p *ℚ x → q *ℚ (b -ℚ s) ≡ x
solved_for p q b s x h e = ap (λ (y : ℚ). q *ℚ (y -ℚ s)) e ∙ taken q p s x ∙ ap (λ (y : ℚ). y *ℚ x) h ∙ one-*ℚ x
  where
    taken : (q p s x : ℚ) → q *ℚ (s +ℚ p *ℚ x -ℚ s) ≡ (p *ℚ q) *ℚ x
    taken q p s x = simp ring

solved_back : (p q b s x : ℚ) → p *ℚ q ≡ one_ℚ → x ≡ q *ℚ (b -ℚ s) → b ≡ s +ℚ p *ℚ x
solved_back p q b s x h e = sym (ap (λ (y : ℚ). s +ℚ p *ℚ y) e ∙ taken p q b s ∙ ap (λ (y : ℚ). s +ℚ y *ℚ (b -ℚ s)) h ∙ whole b s)
  where
    taken : (p q b s : ℚ) → s +ℚ p *ℚ (q *ℚ (b -ℚ s)) ≡ s +ℚ (p *ℚ q) *ℚ (b -ℚ s)
    taken p q b s = simp ring

    whole : (b s : ℚ) → s +ℚ one_ℚ *ℚ (b -ℚ s) ≡ b
    whole b s = simp ring

-- Every solution before a pivot is one after it, and the other way.
pub solves_pivot : (d : Dictionary) (r c : ℕ) (v : ℕ → ℚ) → r < d.height → c < d.width → (d.entry r c ≡ zero_ℚ → ⊥) → Solves d v → Solves (pivot d r c) v
solves_pivot d r c v hr hc ne s i hi =
    let unit = *ℚ-inverse (d.entry r c) ne in
    let is : entering d v r c ≡ v (d.nonbasic c) = solved_for (d.entry r c) (inverse (d.entry r c)) (v (d.basic r)) (off d v c r) (v (d.nonbasic c)) unit (s r hr ∙ total_split d.width c (term d v r) hc) in
    ⊎_elim
    (λ (e : i ≡ r). subst (λ (k : ℕ). SolvesRow (pivot d r c) k v) (sym e) (ap v (replaced_at d.height d.basic r (d.nonbasic c) r hr refl) ∙ sym (new_pivot_row d r c v hr hc ∙ is)))
    (λ (e : i ≢ r). ap v (replaced_off d.height d.basic r (d.nonbasic c) i hi e) ∙ s i hi ∙ total_split d.width c (term d v i) hc ∙ ap (λ (x : ℚ). off d v c i +ℚ d.entry i c *ℚ x) (sym is) ∙ sym (new_other_row d r c i v hi hc e))
    (cases_eq i r)

pub solves_before : (d : Dictionary) (r c : ℕ) (v : ℕ → ℚ) → r < d.height → c < d.width → (d.entry r c ≡ zero_ℚ → ⊥) → Solves (pivot d r c) v → Solves d v
solves_before d r c v hr hc ne s i hi =
    let unit = *ℚ-inverse (d.entry r c) ne in
    let is : v (d.nonbasic c) ≡ entering d v r c = sym (ap v (replaced_at d.height d.basic r (d.nonbasic c) r hr refl)) ∙ s r hr ∙ new_pivot_row d r c v hr hc in
    ⊎_elim
    (λ (e : i ≡ r). subst (λ (k : ℕ). SolvesRow d k v) (sym e) (solved_back (d.entry r c) (inverse (d.entry r c)) (v (d.basic r)) (off d v c r) (v (d.nonbasic c)) unit is ∙ sym (total_split d.width c (term d v r) hc)))
    (λ (e : i ≢ r). sym (ap v (replaced_off d.height d.basic r (d.nonbasic c) i hi e)) ∙ s i hi ∙ new_other_row d r c i v hi hc e ∙ ap (λ (x : ℚ). off d v c i +ℚ d.entry i c *ℚ x) (sym is) ∙ sym (total_split d.width c (term d v i) hc))
    (cases_eq i r)

pub entry_under : (h w : ℕ) (t : ℕ → ℕ → ℚ) (r c i j : ℕ) → h ≤ i → pivot_entry h w t r c i j ≡ zero_ℚ
unfolding pivot_entry
entry_under h w t r c i j hi = grind (arith, nat_tests)

pub entry_right : (h w : ℕ) (t : ℕ → ℕ → ℚ) (r c i j : ℕ) → w ≤ j → pivot_entry h w t r c i j ≡ zero_ℚ
unfolding pivot_entry
entry_right h w t r c i j hj = grind (arith, nat_tests)

pub replaced_past : (n : ℕ) (f : ℕ → ℕ) (k x i : ℕ) → n ≤ i → replaced n f k x i ≡ 0
unfolding replaced
replaced_past n f k x i h = grind (arith, nat_tests)

-- What the operations on fractions compute.
use Rattle.std.proofs.Common.{◌≡◌, ℕ, ℤ, pos, unsigned_abs, sym, ap, arith, refl, subst, ◌∙◌}
use Rattle.std.specs.Prelude.{◌*ℤ◌, ◌+ℤ◌, neg_ℤ, ◌<ℤ◌, ◌≤ℤ◌, ◌*◌, ◌<◌, ◌^◌, suc, true, false, negsuc, ◌≢◌, ◌↔◌, IsTrue}
use Rattle.std.proofs.Common.{inl, inr}
use Rattle.std.specs.Prelude.{Option, Some, None, IfSome}
use Rattle.std.proofs.Math.IntN.{*ℤ_comm}
use Rattle.std.specs.Int.{IsGcd, ◌∣◌}
use Rattle.std.proofs.lemmas.Int.{ints, unsigned_abs-mul}
use Rattle.std.proofs.lemmas.Nat.Gcd.{IsGcd-swap, dvd_refl}
use Rattle.std.proofs.Math.Nat.{dvd-mul_left, dvd-mul_right, mul-pos, mul_comm}
use borrow.Author.Differences.{same_in, product_is, neg_is}
use Rattle.sm_frac.proofs.Divides.{divides_other, apart_products, apart_divisor, lowest_same}
use Rattle.sm_frac.proofs.IntRing.{products, +ℤ-*ℤ, pos_abs, cancel_above, above-product}
use Rattle.sm_frac.specs.Lowest.{IsLowest, LowestTerms, IsBeyond}
use Rattle.sm_frac.specs.Frac.{value_of, ProductPasses, SumPasses, signed_like}
use Rattle.sm_frac.specs.declared.fraction.Frac.{Frac}
use Rattle.std.proofs.lemmas.Bool.{cases_order}
use Rattle.std.proofs.Math.Logic.{⊎_elim}
use Rattle.sm_frac.specs.Rational.{ℚ, fraction, fraction_same, fraction-*ℚ, ◌*ℚ◌, fraction-+ℚ, ◌+ℚ◌, ◌-ℚ◌, neg_ℚ, neg_ℚ-fraction, inverse, *ℚ-inverse, zero_ℚ, one_ℚ, is_nonnegative, is_nonnegative-fraction, nonnegative-zero, +ℚ-neg_ℚ}
use Rattle.sm_frac.proofs.RationalRing.{ring, neg_ℚ-zero}
use Rattle.sm_frac.proofs.RoundingLemmas.{turned_product}

-- t/b is n/e in lowest terms: t divides n, and b divides e
pub term_divides : (n e t b : ℤ) → LowestTerms n e t b → (unsigned_abs t ∣ unsigned_abs n) × (unsigned_abs b ∣ unsigned_abs e)
term_divides n e t b h =
    let s : unsigned_abs t * unsigned_abs e ≡ unsigned_abs n * unsigned_abs b = sym (unsigned_abs-mul t e) ∙ ap unsigned_abs h.same ∙ unsigned_abs-mul n b in (
      divides_other (unsigned_abs t) (unsigned_abs b) (unsigned_abs n) h.lowest.apart (subst (λ (x : ℕ). unsigned_abs t ∣ x) (s ∙ mul_comm (unsigned_abs n) (unsigned_abs b)) (dvd-mul_right (unsigned_abs t) (unsigned_abs e))),
      divides_other (unsigned_abs b) (unsigned_abs t) (unsigned_abs e) (IsGcd-swap _ _ _ h.lowest.apart) (subst (λ (x : ℕ). unsigned_abs b ∣ x) (sym s) (dvd-mul_left (unsigned_abs b) (unsigned_abs n))),
    )

apart_both : (a b c d : ℕ) → IsGcd a b 1 → c ∣ a → d ∣ b → IsGcd c d 1
apart_both a b c d h p q = IsGcd-swap _ _ _ (apart_divisor b c d (IsGcd-swap _ _ _ (apart_divisor a b c h p)) q)

pub product_lowest : (n d m e t b u v : ℤ) → IsLowest n d → IsLowest m e → LowestTerms n e t b → LowestTerms m d u v → IsLowest (t *ℤ u) (v *ℤ b)
product_lowest n d m e t b u v lf lg p q =
    let i = term_divides n e t b p in let j = term_divides m d u v q in
    let all = apart_products (unsigned_abs t) (unsigned_abs u) (unsigned_abs v) (unsigned_abs b) (apart_both _ _ _ _ lf.apart i.0 j.1) p.lowest.apart q.lowest.apart (apart_both _ _ _ _ lg.apart j.0 i.1) in
    record { apart = subst (λ (x : ℕ). IsGcd x (unsigned_abs (v *ℤ b)) 1) (sym (unsigned_abs-mul t u)) (subst (λ (x : ℕ). IsGcd (unsigned_abs t * unsigned_abs u) x 1) (sym (unsigned_abs-mul v b)) all) }

four_way : (t u d e n b m v : ℤ) → t *ℤ e ≡ n *ℤ b → u *ℤ d ≡ m *ℤ v → (t *ℤ u) *ℤ (d *ℤ e) ≡ (n *ℤ m) *ℤ (v *ℤ b)
four_way t u d e n b m v h k =
    let one : (t *ℤ u) *ℤ (d *ℤ e) ≡ (t *ℤ e) *ℤ (u *ℤ d) = simp products in
    let two : (n *ℤ b) *ℤ (m *ℤ v) ≡ (n *ℤ m) *ℤ (v *ℤ b) = simp products in
    one ∙ ap (λ (x : ℤ). x *ℤ (u *ℤ d)) h ∙ ap (λ (x : ℤ). n *ℤ b *ℤ x) k ∙ two

pub abs_above : (d : ℤ) → pos 0 <ℤ d → 0 < unsigned_abs d
abs_above d h = omega (arith, ints)

pub product_exact : (n d m e t b u v : ℤ) → pos 0 <ℤ d → pos 0 <ℤ e → LowestTerms n e t b → LowestTerms m d u v → fraction (t *ℤ u) (unsigned_abs (v *ℤ b)) ≡ fraction n (unsigned_abs d) *ℚ fraction m (unsigned_abs e)
product_exact n d m e t b u v hd he p q =
    let above = above-product v b q.above p.above in
    let cross = four_way t u d e n b m v p.same q.same in
    let size : pos (unsigned_abs d * unsigned_abs e) ≡ d *ℤ e = ap pos (sym (unsigned_abs-mul d e)) ∙ pos_abs (d *ℤ e) (above-product d e hd he) in
    fraction_same (t *ℤ u) (n *ℤ m) (unsigned_abs (v *ℤ b)) (unsigned_abs d * unsigned_abs e) (abs_above (v *ℤ b) above) (mul-pos (abs_above d hd) (abs_above e he))
    (ap (λ (x : ℤ). t *ℤ u *ℤ x) size ∙ cross ∙ ap (λ (x : ℤ). n *ℤ m *ℤ x) (sym (pos_abs (v *ℤ b) above)))
    ∙ sym (fraction-*ℚ n m (unsigned_abs d) (unsigned_abs e) (abs_above d hd) (abs_above e he))

pub terms_same : (n d m e p q : ℤ) → pos 0 <ℤ d → LowestTerms n d m e → LowestTerms n d p q → (m ≡ p) × (e ≡ q)
terms_same n d m e p q hd h k =
    let one : (m *ℤ q) *ℤ d ≡ (m *ℤ d) *ℤ q = simp products in
    let two : (n *ℤ e) *ℤ q ≡ (n *ℤ q) *ℤ e = simp products in
    let three : (p *ℤ d) *ℤ e ≡ (p *ℤ e) *ℤ d = simp products in
    let cross : m *ℤ q ≡ p *ℤ e = cancel_above (m *ℤ q) (p *ℤ e) d hd (one ∙ ap (λ (x : ℤ). x *ℤ q) h.same ∙ two ∙ ap (λ (x : ℤ). x *ℤ e) (sym k.same) ∙ three) in
    let size : unsigned_abs m * unsigned_abs q ≡ unsigned_abs p * unsigned_abs e = sym (unsigned_abs-mul m q) ∙ ap unsigned_abs cross ∙ unsigned_abs-mul p e in
    let parts = lowest_same (unsigned_abs m) (unsigned_abs e) (unsigned_abs p) (unsigned_abs q) (abs_above e h.above) (abs_above q k.above) h.lowest.apart k.lowest.apart size in
    let bottom : e ≡ q = sym (pos_abs e h.above) ∙ ap pos parts.1 ∙ pos_abs q k.above in
    (cancel_above m p q k.above (cross ∙ ap (λ (x : ℤ). p *ℤ x) bottom), bottom)

pub within : (z y : ℤ) → z ≡ y → (IsBeyond y → true ≡ false) → unsigned_abs z < 2 ^ 127
within z y e h = ⊎_elim (λ (same : unsigned_abs z ≡ 2 ^ 127). absurd (no (h (subst (λ (x : ℤ). IsBeyond x) e (omega arith))))) (λ o. ⊎_elim (λ (low : unsigned_abs z < 2 ^ 127). low) (λ (high : 2 ^ 127 < unsigned_abs z). absurd (no (h (subst (λ (x : ℤ). IsBeyond x) e (omega arith))))) o) (cases_order (unsigned_abs z) (2 ^ 127))
  where
    no : true ≡ false → ⊥
    no p = cc

-- what `product` has when both products are in the range
pub product_positive : (b v D : ℤ) → D ≡ v *ℤ b → pos 0 <ℤ b → pos 0 <ℤ v → pos 0 <ℤ D
product_positive b v D e h k = subst (λ (x : ℤ). pos 0 <ℤ x) (sym e) (above-product v b k h)

pub product_is_lowest : (n d m e t b u v N D : ℤ) → IsLowest n d → IsLowest m e → LowestTerms n e t b → LowestTerms m d u v → N ≡ t *ℤ u → D ≡ v *ℤ b → IsLowest N D
product_is_lowest n d m e t b u v N D lf lg p q en ed = subst (λ (x : ℤ). IsLowest x D) (sym en) (subst (λ (x : ℤ). IsLowest (t *ℤ u) x) (sym ed) (product_lowest n d m e t b u v lf lg p q))

pub product_passes_not : (n d m e t b u v : ℤ) → pos 0 <ℤ d → pos 0 <ℤ e → LowestTerms n e t b → LowestTerms m d u v → (IsBeyond (t *ℤ u) → true ≡ false) → (IsBeyond (v *ℤ b) → true ≡ false) → ProductPasses n d m e → true ≡ false
product_passes_not n d m e t b u v hd he p q f g r =
    let i = terms_same n e r.top r.bottom t b he r.terms p in
    let j = terms_same m d r.other_top r.other_bottom u v hd r.other_terms q in
    ⊎_elim (λ x. f (subst (λ (z : ℤ). IsBeyond (t *ℤ z)) j.0 (subst (λ (z : ℤ). IsBeyond (z *ℤ r.other_top)) i.0 x)))
    (λ x. g (subst (λ (z : ℤ). IsBeyond (v *ℤ z)) i.1 (subst (λ (z : ℤ). IsBeyond (z *ℤ r.bottom)) j.1 x))) r.beyond

pub product_value : (f g r : Frac) (t b u v : ℤ) → LowestTerms f.n g.d t b → LowestTerms g.n f.d u v → r.n ≡ t *ℤ u → r.d ≡ v *ℤ b → value_of r ≡ value_of f *ℚ value_of g
unfolding value_of
product_value f g r t b u v p q en ed =
    ap (λ (x : ℤ). fraction x (unsigned_abs r.d)) en ∙ ap (λ (x : ℤ). fraction (t *ℤ u) (unsigned_abs x)) ed ∙ product_exact f.n f.d g.n g.d t b u v f.positive g.positive p q

sum_cross : (n d m e l r : ℤ) → l *ℤ e ≡ d *ℤ r → (n *ℤ r +ℤ m *ℤ l) *ℤ (d *ℤ e) ≡ (n *ℤ e +ℤ m *ℤ d) *ℤ (d *ℤ r)
sum_cross n d m e l r h =
    let one : (n *ℤ r) *ℤ (d *ℤ e) ≡ (n *ℤ e) *ℤ (d *ℤ r) = simp products in
    let two : (m *ℤ l) *ℤ (d *ℤ e) ≡ (m *ℤ d) *ℤ (l *ℤ e) = simp products in
    +ℤ-*ℤ (n *ℤ r) (m *ℤ l) (d *ℤ e) ∙ ap (λ (x : ℤ). x +ℤ m *ℤ l *ℤ (d *ℤ e)) one ∙ ap (λ (x : ℤ). n *ℤ e *ℤ (d *ℤ r) +ℤ x) (two ∙ ap (λ (x : ℤ). m *ℤ d *ℤ x) h) ∙ sym (+ℤ-*ℤ (n *ℤ e) (m *ℤ d) (d *ℤ r))

pub sum_exact : (n d m e l r N D : ℤ) → pos 0 <ℤ d → pos 0 <ℤ e → LowestTerms d e l r → N ≡ n *ℤ r +ℤ m *ℤ l → D ≡ d *ℤ r → fraction N (unsigned_abs D) ≡ fraction n (unsigned_abs d) +ℚ fraction m (unsigned_abs e)
sum_exact n d m e l r N D hd he p en ed =
    let above : pos 0 <ℤ D = subst (λ (x : ℤ). pos 0 <ℤ x) (sym ed) (above-product d r hd p.above) in
    let size : pos (unsigned_abs d * unsigned_abs e) ≡ d *ℤ e = ap pos (sym (unsigned_abs-mul d e)) ∙ pos_abs (d *ℤ e) (above-product d e hd he) in
    let sum : n *ℤ pos (unsigned_abs e) +ℤ m *ℤ pos (unsigned_abs d) ≡ n *ℤ e +ℤ m *ℤ d = ap (λ (x : ℤ). n *ℤ x +ℤ m *ℤ pos (unsigned_abs d)) (pos_abs e he) ∙ ap (λ (x : ℤ). n *ℤ e +ℤ m *ℤ x) (pos_abs d hd) in
    fraction_same N (n *ℤ pos (unsigned_abs e) +ℤ m *ℤ pos (unsigned_abs d)) (unsigned_abs D) (unsigned_abs d * unsigned_abs e) (abs_above D above) (mul-pos (abs_above d hd) (abs_above e he))
    (ap (λ (x : ℤ). N *ℤ x) size ∙ ap (λ (x : ℤ). x *ℤ (d *ℤ e)) en ∙ sum_cross n d m e l r p.same ∙ ap (λ (x : ℤ). x *ℤ (d *ℤ r)) (sym sum) ∙ ap (λ (x : ℤ). (n *ℤ pos (unsigned_abs e) +ℤ m *ℤ pos (unsigned_abs d)) *ℤ x) (sym (pos_abs D above ∙ ed)))
    ∙ sym (fraction-+ℚ n m (unsigned_abs d) (unsigned_abs e) (abs_above d hd) (abs_above e he))

-- a fraction in lowest terms is the same number
pub terms_value : (N D t b : ℤ) → pos 0 <ℤ D → LowestTerms N D t b → fraction t (unsigned_abs b) ≡ fraction N (unsigned_abs D)
terms_value N D t b h p = fraction_same t N (unsigned_abs b) (unsigned_abs D) (abs_above b p.above) (abs_above D h) (ap (λ (x : ℤ). t *ℤ x) (pos_abs D h) ∙ p.same ∙ ap (λ (x : ℤ). N *ℤ x) (sym (pos_abs b p.above)))

pub sum_value : (f g r : Frac) (l q N D t b : ℤ) → LowestTerms f.d g.d l q → N ≡ f.n *ℤ q +ℤ g.n *ℤ l → D ≡ f.d *ℤ q → LowestTerms N D t b → r.n ≡ t → r.d ≡ b → value_of r ≡ value_of f +ℚ value_of g
unfolding value_of
sum_value f g r l q N D t b p en ed terms et eb =
    let above : pos 0 <ℤ D = subst (λ (x : ℤ). pos 0 <ℤ x) (sym ed) (above-product f.d q f.positive p.above) in
    ap (λ (x : ℤ). fraction x (unsigned_abs r.d)) et ∙ ap (λ (x : ℤ). fraction t (unsigned_abs x)) eb ∙ terms_value N D t b above terms ∙ sum_exact f.n f.d g.n g.d l q N D f.positive g.positive p en ed

pub sum_above : (d r D : ℤ) → D ≡ d *ℤ r → pos 0 <ℤ d → pos 0 <ℤ r → pos 0 <ℤ D
sum_above d r D ed h k = subst (λ (x : ℤ). pos 0 <ℤ x) (sym ed) (above-product d r h k)

pub sum_passes_not : (n d m e l r : ℤ) → pos 0 <ℤ e → LowestTerms d e l r → (IsBeyond (n *ℤ r) → true ≡ false) → (IsBeyond (m *ℤ l) → true ≡ false) → (IsBeyond (n *ℤ r +ℤ m *ℤ l) → true ≡ false) → (IsBeyond (d *ℤ r) → true ≡ false) → SumPasses n d m e → true ≡ false
sum_passes_not n d m e l r he p f g h k s =
    let i = terms_same d e s.left s.right l r he s.terms p in
    ⊎_elim (λ x. f (subst (λ (z : ℤ). IsBeyond (n *ℤ z)) i.1 x))
    (λ o. ⊎_elim (λ x. g (subst (λ (z : ℤ). IsBeyond (m *ℤ z)) i.0 x))
    (λ o. ⊎_elim (λ x. h (subst (λ (z : ℤ). IsBeyond (n *ℤ r +ℤ m *ℤ z)) i.0 (subst (λ (z : ℤ). IsBeyond (n *ℤ z +ℤ m *ℤ s.left)) i.1 x)))
    (λ x. k (subst (λ (z : ℤ). IsBeyond (d *ℤ z)) i.1 x)) o) o) s.beyond

-- ---- two fractions of one denominator

times_one : (n : ℤ) → n *ℤ pos 1 ≡ n
times_one n = omega (arith, ints)

alike_terms : (d e : ℤ) → pos 0 <ℤ d → d ≡ e → LowestTerms d e (pos 1) (pos 1)
alike_terms d e h same = record {
  same = ap (λ (x : ℤ). pos 1 *ℤ x) (sym same) ∙ *ℤ_comm (pos 1) d;
  above = omega (arith, ints);
  lowest = record { apart = (dvd_refl 1, dvd_refl 1, λ k p q. p) };
}

pub alike_passes : (n d m e : ℤ) → pos 0 <ℤ d → d ≡ e → IsBeyond (n +ℤ m) → SumPasses n d m e
alike_passes n d m e h same beyond = record {
  left = pos 1;
  right = pos 1;
  terms = alike_terms d e h same;
  beyond = inr (inr (inl (subst IsBeyond (ap (λ (x : ℤ). x +ℤ m) (sym (times_one n)) ∙ ap (λ (x : ℤ). n *ℤ pos 1 +ℤ x) (sym (times_one m))) beyond)));
}

pub alike_passes_not : (f g : Frac) → f.d ≡ g.d → (IsBeyond (f.n +ℤ g.n) → true ≡ false) → SumPasses f.n f.d g.n g.d → true ≡ false
alike_passes_not f g same stays = sum_passes_not f.n f.d g.n g.d (pos 1) (pos 1) g.positive (alike_terms f.d g.d f.positive same)
    (λ b. absurd (in_range f.n f.bounded (subst IsBeyond (times_one f.n) b)))
    (λ b. absurd (in_range g.n g.bounded (subst IsBeyond (times_one g.n) b)))
    (λ b. stays (subst IsBeyond (ap (λ (x : ℤ). x +ℤ g.n *ℤ pos 1) (times_one f.n) ∙ ap (λ (x : ℤ). f.n +ℤ x) (times_one g.n)) b))
    (λ b. absurd (in_range f.d f.small (subst IsBeyond (times_one f.d) b)))
  where
    in_range : (z : ℤ) → unsigned_abs z < 2 ^ 127 → IsBeyond z → ⊥
    in_range z low high = absurd (omega arith)

pub alike_value : (f g r : Frac) (N t b : ℤ) → f.d ≡ g.d → N ≡ f.n +ℤ g.n → LowestTerms N f.d t b → r.n ≡ t → r.d ≡ b → value_of r ≡ value_of f +ℚ value_of g
alike_value f g r N t b same en terms et eb = sum_value f g r (pos 1) (pos 1) N f.d t b (alike_terms f.d g.d f.positive same) (en ∙ ap (λ (x : ℤ). x +ℤ g.n) (sym (times_one f.n)) ∙ ap (λ (x : ℤ). f.n *ℤ pos 1 +ℤ x) (sym (times_one g.n))) (sym (times_one f.d)) terms et eb

-- ---- the number turned, and upside down
abs_turned : (n : ℤ) → unsigned_abs (neg_ℤ n) ≡ unsigned_abs n
abs_turned n = omega (arith, ints)

pub lowest_turned : (n d m e : ℤ) → m ≡ neg_ℤ n → e ≡ d → IsLowest n d → IsLowest m e
lowest_turned n d m e em ee l = subst (λ (x : ℤ). IsLowest x e) (sym em) (subst (λ (x : ℤ). IsLowest (neg_ℤ n) x) (sym ee) (record { apart = subst (λ (x : ℕ). IsGcd x (unsigned_abs d) 1) (sym (abs_turned n)) l.apart }))

value_turned : (f g : Frac) → g.n ≡ neg_ℤ f.n → g.d ≡ f.d → value_of g ≡ neg_ℚ (value_of f)
unfolding value_of
value_turned f g en ed = ap (λ (x : ℤ). fraction x (unsigned_abs g.d)) en ∙ ap (λ (x : ℤ). fraction (neg_ℤ f.n) (unsigned_abs x)) ed ∙ sym (neg_ℚ-fraction f.n (unsigned_abs f.d) (abs_above f.d f.positive))

abs_signed : (n d : ℤ) → unsigned_abs (signed_like n d) ≡ unsigned_abs d
abs_signed (pos n) d = refl
abs_signed (negsuc n) d = abs_turned d

pub lowest_swapped : (n d m e : ℤ) → m ≡ d → e ≡ n → IsLowest n d → IsLowest m e
lowest_swapped n d m e em ee l = subst (λ (x : ℤ). IsLowest x e) (sym em) (subst (λ (x : ℤ). IsLowest d x) (sym ee) (record { apart = IsGcd-swap _ _ _ l.apart }))

pub lowest_swapped_turned : (n d m e : ℤ) → m ≡ neg_ℤ d → e ≡ neg_ℤ n → IsLowest n d → IsLowest m e
lowest_swapped_turned n d m e em ee l = lowest_turned d e m e em refl (lowest_swapped e d d e refl refl (lowest_turned n d e d ee refl l))

pub signed_above : (n d : ℤ) → pos 0 <ℤ n → (signed_like n d ≡ d) × (pos (unsigned_abs n) ≡ n)
signed_above (pos n) d h = (refl, refl)
signed_above (negsuc n) d h = absurd (omega (arith, ints))

pub signed_below : (n d : ℤ) → n ≢ pos 0 → n ≤ℤ pos 0 → (signed_like n d ≡ neg_ℤ d) × (pos (unsigned_abs n) ≡ neg_ℤ n)
signed_below (pos n) d ne h = absurd (omega (arith, ints))
signed_below (negsuc n) d ne h = (refl, refl)

upended_product : (n d : ℤ) → n *ℤ signed_like n d ≡ pos (unsigned_abs n) *ℤ d
upended_product (pos n) d = refl
upended_product (negsuc n) d =
    let l = product_is (negsuc n) (neg_ℤ d) in let r = product_is (pos (suc n)) d in
    same_in (negsuc n *ℤ neg_ℤ d) (pos (suc n) *ℤ d) (rw (l.0, l.1, r.0, r.1, (neg_is d).0, (neg_is d).1) (omega arith))

abs_some : (n : ℤ) → n ≢ pos 0 → 0 < unsigned_abs n
abs_some n h = omega (arith, ints)

zero_fraction : (n : ℤ) (d : ℕ) → 0 < d → fraction n d ≡ zero_ℚ → n ≡ pos 0
zero_fraction n d h e =
    let up = (is_nonnegative-fraction n d h).0 (subst (λ (x : ℚ). IsTrue (is_nonnegative x)) (sym e) nonnegative-zero) in
    let same : fraction (neg_ℤ n) d ≡ zero_ℚ = sym (neg_ℚ-fraction n d h) ∙ ap neg_ℚ e ∙ neg_ℚ-zero in
    let down = (is_nonnegative-fraction (neg_ℤ n) d h).0 (subst (λ (x : ℚ). IsTrue (is_nonnegative x)) (sym same) nonnegative-zero) in
    omega (arith, ints)

inverse_is : (x y : ℚ) → (x ≡ zero_ℚ → ⊥) → x *ℚ y ≡ one_ℚ → y ≡ inverse x
inverse_is x y ne e = first ∙ ap (λ (z : ℚ). z *ℚ y) (sym (*ℚ-inverse x ne)) ∙ second ∙ ap (λ (z : ℚ). inverse x *ℚ z) e ∙ third
  where
    first : y ≡ one_ℚ *ℚ y
    first = simp ring

    second : x *ℚ inverse x *ℚ y ≡ inverse x *ℚ (x *ℚ y)
    second = simp ring

    third : inverse x *ℚ one_ℚ ≡ inverse x
    third = simp ring

value_upended : (f g : Frac) → f.n ≢ pos 0 → g.n ≡ signed_like f.n f.d → g.d ≡ pos (unsigned_abs f.n) → value_of g ≡ inverse (value_of f)
unfolding value_of
value_upended f g ne en ed =
    let some = abs_some f.n ne in
    let under = abs_above f.d f.positive in
    let one : fraction f.n (unsigned_abs f.d) *ℚ fraction (signed_like f.n f.d) (unsigned_abs f.n) ≡ one_ℚ =
    fraction-*ℚ f.n (signed_like f.n f.d) (unsigned_abs f.d) (unsigned_abs f.n) under some
    ∙ fraction_same (f.n *ℤ signed_like f.n f.d) (pos 1) (unsigned_abs f.d * unsigned_abs f.n) 1 (mul-pos under some) (omega arith) (whole f.n f.d (upended_product f.n f.d) (pos_abs f.d f.positive)) in
    ap (λ (x : ℤ). fraction x (unsigned_abs g.d)) en ∙ ap (λ (x : ℤ). fraction (signed_like f.n f.d) (unsigned_abs x)) ed
    ∙ inverse_is (fraction f.n (unsigned_abs f.d)) (fraction (signed_like f.n f.d) (unsigned_abs f.n)) (λ z. ne (zero_fraction f.n (unsigned_abs f.d) under z)) one
  where
    whole : (n d : ℤ) → n *ℤ signed_like n d ≡ pos (unsigned_abs n) *ℤ d → pos (unsigned_abs d) ≡ d → n *ℤ signed_like n d *ℤ pos 1 ≡ pos 1 *ℤ pos (unsigned_abs d * unsigned_abs n)
    whole n d e p = ap (λ (x : ℤ). x *ℤ pos 1) (e ∙ ap (λ (x : ℤ). pos (unsigned_abs n) *ℤ x) (sym p)) ∙ omega (arith, ints)

-- a difference is the sum with the negated number
pub difference_value : (f g h : Frac) (o : Option Frac) → (h.n ≡ neg_ℤ g.n) × (h.d ≡ g.d) → IfSome o (λ r. value_of r ≡ value_of f +ℚ value_of h) → IfSome o (λ r. value_of r ≡ value_of f -ℚ value_of g)
difference_value f g h None parts is = tt
difference_value f g h (Some r) parts is = is ∙ ap (λ (x : ℚ). value_of f +ℚ x) (value_turned g h parts.0 parts.1)

-- a quotient is the product with the reciprocal
pub quotient_value : (f g h : Frac) (o : Option Frac) → g.n ≢ pos 0 → (h.n ≡ signed_like g.n g.d) × (h.d ≡ pos (unsigned_abs g.n)) → IfSome o (λ r. value_of r ≡ value_of f *ℚ value_of h) → IfSome o (λ r. value_of r ≡ value_of f *ℚ inverse (value_of g))
quotient_value f g h None some parts is = tt
quotient_value f g h (Some r) some parts is = is ∙ ap (λ (x : ℚ). value_of f *ℚ x) (value_upended g h some parts.0 parts.1)

-- the other way of `fraction_same`
pub fraction_cross : (m n : ℤ) (d e : ℕ) → 0 < d → 0 < e → fraction m d ≡ fraction n e → m *ℤ pos e ≡ n *ℤ pos d
fraction_cross m n d e hd he h =
    let none : fraction (m *ℤ pos e +ℤ neg_ℤ n *ℤ pos d) (d * e) ≡ zero_ℚ =
    sym (fraction-+ℚ m (neg_ℤ n) d e hd he) ∙ ap (λ (x : ℚ). fraction m d +ℚ x) (sym (neg_ℚ-fraction n e he)) ∙ ap (λ (x : ℚ). x +ℚ neg_ℚ (fraction n e)) h ∙ +ℚ-neg_ℚ (fraction n e) in
    let zero_sum = zero_fraction (m *ℤ pos e +ℤ neg_ℤ n *ℤ pos d) (d * e) (mul-pos hd he) none in
    let turn = turned_product n (pos d) in
    apart (m *ℤ pos e) (n *ℤ pos d) (neg_ℤ n *ℤ pos d) turn zero_sum
  where
    apart : (a b c : ℤ) → c ≡ neg_ℤ b → a +ℤ c ≡ pos 0 → a ≡ b
    apart a b c e h = omega (arith, ints)

-- Two fractions that are one number are one fraction.
pub frac_same : (f g : Frac) → value_of f ≡ value_of g → (f.n ≡ g.n) × (f.d ≡ g.d)
unfolding value_of
frac_same f g h =
    let hf = abs_above f.d f.positive in
    let hg = abs_above g.d g.positive in
    let cross = fraction_cross f.n g.n (unsigned_abs f.d) (unsigned_abs g.d) hf hg h in
    let size : unsigned_abs f.n * unsigned_abs g.d ≡ unsigned_abs g.n * unsigned_abs f.d = sym (unsigned_abs-mul f.n (pos (unsigned_abs g.d))) ∙ ap unsigned_abs cross ∙ unsigned_abs-mul g.n (pos (unsigned_abs f.d)) in
    let parts = lowest_same (unsigned_abs f.n) (unsigned_abs f.d) (unsigned_abs g.n) (unsigned_abs g.d) hf hg f.lowest.apart g.lowest.apart size in
    let bottom : f.d ≡ g.d = sym (pos_abs f.d f.positive) ∙ ap pos parts.1 ∙ pos_abs g.d g.positive in
    let same : f.n *ℤ g.d ≡ g.n *ℤ g.d = ap (λ (x : ℤ). f.n *ℤ x) (sym (pos_abs g.d g.positive)) ∙ cross ∙ ap (λ (x : ℤ). g.n *ℤ x) (pos_abs f.d f.positive ∙ bottom) in
    (cancel_above f.n g.n g.d g.positive same, bottom)

-- What the code's tests of the numerator say of the number.
pub sign_of : (f : Frac) → IsTrue (is_nonnegative (value_of f)) ↔ (pos 0 ≤ℤ f.n)
unfolding value_of
sign_of f = is_nonnegative-fraction f.n (unsigned_abs f.d) (abs_above f.d f.positive)

pub zero_of : (f : Frac) → value_of f ≡ zero_ℚ → f.n ≡ pos 0
unfolding value_of
zero_of f h = zero_fraction f.n (unsigned_abs f.d) (abs_above f.d f.positive) h

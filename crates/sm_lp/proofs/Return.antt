-- No basis returns on a path of the rule of the least number.
use Rattle.std.proofs.Common.{◌≡◌, ℕ, suc, zero, ◌<◌, ◌≤◌, sym, ap, ◌∙◌, refl, arith, ◌≢◌, subst, inl, inr, max, ◌-◌}
use Rattle.std.specs.Prelude.{◌⊎◌}
use Rattle.std.proofs.lemmas.Bool.{cases_eq, cases_order}
use Rattle.std.proofs.Math.Logic.{⊎_elim}
use Rattle.sm_frac.specs.Rational.{ℚ, zero_ℚ, neg_ℚ}
use Rattle.sm_frac.proofs.RationalRing.{neg_ℚ-zero}
use Rattle.sm_lp.specs.Dictionary.{Dictionary, Solves, IsProper, pivot}
use Rattle.sm_lp.proofs.PivotLemmas.{solves_pivot, solves_before, replaced_at, replaced_off}
use Rattle.sm_lp.specs.Moves.{IsGood, MovesByRow, MovesByColumn, IsMove}
use Rattle.sm_certificate.proofs.Signs.{not_zero}
use Rattle.sm_lp.proofs.Clash.{Occurs, Related, EntersByGoal, EntersByRow, LeavesByConstant, LeavesByColumn, clash}

abbrev pub IsBasic : Dictionary → ℕ → Type 0
IsBasic d y = (i : ℕ) × (i < d.height) × (d.basic i ≡ y)

abbrev pub IsNonbasic : Dictionary → ℕ → Type 0
IsNonbasic d y = (j : ℕ) × (j < d.width) × (d.nonbasic j ≡ y)

pub entry_not_zero : (d : Dictionary) (f g r c : ℕ) → IsMove d f g r c → d.entry r c ≡ zero_ℚ → ⊥
entry_not_zero d f g r c m e = ⊎_elim
    (λ (a : MovesByRow d f g r c). not_zero (neg_ℚ (d.entry r c)) a.positive (ap neg_ℚ e ∙ neg_ℚ-zero))
    (λ (b : MovesByColumn d f g r c). not_zero (d.entry r c) b.negative e)
    m.rule

-- ---- one pivot
stays_basic : (d : Dictionary) (r c y : ℕ) → IsBasic d y → y ≢ d.basic r → IsBasic (pivot d r c) y
stays_basic d r c y b ne = (b.0, b.1, replaced_off d.height d.basic r (d.nonbasic c) b.0 b.1 (λ at. ne (sym b.2 ∙ ap d.basic at)) ∙ b.2)

stays_nonbasic : (d : Dictionary) (r c y : ℕ) → IsNonbasic d y → y ≢ d.nonbasic c → IsNonbasic (pivot d r c) y
stays_nonbasic d r c y b ne = (b.0, b.1, replaced_off d.width d.nonbasic c (d.basic r) b.0 b.1 (λ at. ne (sym b.2 ∙ ap d.nonbasic at)) ∙ b.2)

enters : (d : Dictionary) (r c : ℕ) → r < d.height → IsBasic (pivot d r c) (d.nonbasic c)
enters d r c h = (r, h, replaced_at d.height d.basic r (d.nonbasic c) r h refl)

leaves : (d : Dictionary) (r c : ℕ) → c < d.width → IsNonbasic (pivot d r c) (d.basic r)
leaves d r c h = (c, h, replaced_at d.width d.nonbasic c (d.basic r) c h refl)

pub occurs_after : (d : Dictionary) (r c y : ℕ) → r < d.height → c < d.width → Occurs d y → Occurs (pivot d r c) y
occurs_after d r c y hr hc o = ⊎_elim
    (λ (b : IsBasic d y). ⊎_elim
    (λ (e : y ≡ d.basic r). inr (subst (λ (k : ℕ). IsNonbasic (pivot d r c) k) (sym e) (leaves d r c hc)))
    (λ (ne : y ≢ d.basic r). inl (stays_basic d r c y b ne)) (cases_eq y (d.basic r)))
    (λ (b : IsNonbasic d y). ⊎_elim
    (λ (e : y ≡ d.nonbasic c). inl (subst (λ (k : ℕ). IsBasic (pivot d r c) k) (sym e) (enters d r c hr)))
    (λ (ne : y ≢ d.nonbasic c). inr (stays_nonbasic d r c y b ne)) (cases_eq y (d.nonbasic c)))
    o

-- the numbers of a pivot are those of the dictionary
basic_before : (d : Dictionary) (r c i : ℕ) → r < d.height → c < d.width → i < d.height → ((i ≢ r) × ((pivot d r c).basic i ≡ d.basic i)) ⊎ ((i ≡ r) × ((pivot d r c).basic i ≡ d.nonbasic c))
basic_before d r c i hr hc hi = ⊎_elim (λ (e : i ≡ r). inr (e, replaced_at d.height d.basic r (d.nonbasic c) i hi e)) (λ (ne : i ≢ r). inl (ne, replaced_off d.height d.basic r (d.nonbasic c) i hi ne)) (cases_eq i r)

nonbasic_before : (d : Dictionary) (r c j : ℕ) → j < d.width → ((j ≢ c) × ((pivot d r c).nonbasic j ≡ d.nonbasic j)) ⊎ ((j ≡ c) × ((pivot d r c).nonbasic j ≡ d.basic r))
nonbasic_before d r c j hj = ⊎_elim (λ (e : j ≡ c). inr (e, replaced_at d.width d.nonbasic c (d.basic r) j hj e)) (λ (ne : j ≢ c). inl (ne, replaced_off d.width d.nonbasic c (d.basic r) j hj ne)) (cases_eq j c)

occurs_before : (d : Dictionary) (r c y : ℕ) → r < d.height → c < d.width → Occurs (pivot d r c) y → Occurs d y
occurs_before d r c y hr hc o = ⊎_elim
    (λ (b : IsBasic (pivot d r c) y). ⊎_elim (λ p. inl (b.0, b.1, sym p.1 ∙ b.2)) (λ p. inr (c, hc, sym p.1 ∙ b.2)) (basic_before d r c b.0 hr hc b.1))
    (λ (b : IsNonbasic (pivot d r c) y). ⊎_elim (λ p. inr (b.0, b.1, sym p.1 ∙ b.2)) (λ p. inl (r, hr, sym p.1 ∙ b.2)) (nonbasic_before d r c b.0 b.1))
    o

proper_after : (d : Dictionary) (r c : ℕ) → r < d.height → c < d.width → IsProper d → IsProper (pivot d r c)
proper_after d r c hr hc p = record {
  basic_apart = λ i k hi hk e. ⊎_elim
      (λ a. ⊎_elim (λ b. p.basic_apart i k hi hk (sym a.1 ∙ e ∙ b.1)) (λ b. absurd (p.apart i c hi hc (sym a.1 ∙ e ∙ b.1))) (basic_before d r c k hr hc hk))
      (λ a. ⊎_elim (λ b. absurd (p.apart k c hk hc (sym b.1 ∙ sym e ∙ a.1))) (λ b. a.0 ∙ sym b.0) (basic_before d r c k hr hc hk))
      (basic_before d r c i hr hc hi);
  nonbasic_apart = λ i k hi hk e. ⊎_elim
      (λ a. ⊎_elim (λ b. p.nonbasic_apart i k hi hk (sym a.1 ∙ e ∙ b.1)) (λ b. absurd (p.apart r i hr hi (sym b.1 ∙ sym e ∙ a.1))) (nonbasic_before d r c k hk))
      (λ a. ⊎_elim (λ b. absurd (p.apart r k hr hk (sym a.1 ∙ e ∙ b.1))) (λ b. a.0 ∙ sym b.0) (nonbasic_before d r c k hk))
      (nonbasic_before d r c i hi);
  apart = λ i j hi hj e. ⊎_elim
      (λ a. ⊎_elim (λ b. p.apart i j hi hj (sym a.1 ∙ e ∙ b.1)) (λ b. a.0 (p.basic_apart i r hi hr (sym a.1 ∙ e ∙ b.1))) (nonbasic_before d r c j hj))
      (λ a. ⊎_elim (λ b. b.0 (p.nonbasic_apart j c hj hc (sym b.1 ∙ sym e ∙ a.1))) (λ b. p.apart r c hr hc (sym b.1 ∙ sym e ∙ a.1)) (nonbasic_before d r c j hj))
      (basic_before d r c i hr hc hi);
}

pub good_after : (d : Dictionary) (f g n r c : ℕ) → IsMove d f g r c → IsGood d f g n → IsGood (pivot d r c) f g n
good_after d f g n r c m p = record {
  proper = proper_after d r c m.row m.column p.proper;
  f_inside = p.f_inside;
  g_inside = p.g_inside;
  nonbasic_small = λ j hj ne. ⊎_elim (λ b. subst (λ (k : ℕ). k < n) (sym b.1) (p.nonbasic_small j hj ne)) (λ b. subst (λ (k : ℕ). k < n) (sym b.1) (p.basic_small r m.row m.not_goal)) (nonbasic_before d r c j hj);
  basic_small = λ i hi ne. ⊎_elim (λ b. subst (λ (k : ℕ). k < n) (sym b.1) (p.basic_small i hi ne)) (λ b. subst (λ (k : ℕ). k < n) (sym b.1) (p.nonbasic_small c m.column m.not_constant)) (basic_before d r c i m.row m.column hi);
  f_great = subst (λ (k : ℕ). n ≤ k) (sym (replaced_off d.width d.nonbasic c (d.basic r) f p.f_inside (λ e. m.not_constant (sym e)))) p.f_great;
  g_great = subst (λ (k : ℕ). n ≤ k) (sym (replaced_off d.height d.basic r (d.nonbasic c) g p.g_inside (λ e. m.not_goal (sym e)))) p.g_great;
}

-- ---- a run of the rule
module _ (D : ℕ → Dictionary) (r c : ℕ → ℕ) (f g n T : ℕ) (start : IsGood (D 0) f g n) (next : (q : ℕ) → q < T → D (suc q) ≡ pivot (D q) (r q) (c q)) (move : (q : ℕ) → q < T → IsMove (D q) f g (r q) (c q)) where
  leaving : ℕ → ℕ
  leaving q = (D q).basic (r q)

  entering : ℕ → ℕ
  entering q = (D q).nonbasic (c q)

  pub good : (q : ℕ) → q ≤ T → IsGood (D q) f g n
  good zero h = start
  good (suc q) h = subst (λ (d : Dictionary). IsGood d f g n) (sym (next q (omega arith))) (good_after (D q) f g n (r q) (c q) (move q (omega arith)) (good q (omega arith)))

  same_f : (q : ℕ) → q ≤ T → (D q).nonbasic f ≡ (D 0).nonbasic f
  same_f zero h = refl
  same_f (suc q) h = ap (λ (d : Dictionary). d.nonbasic f) (next q (omega arith)) ∙ replaced_off (D q).width (D q).nonbasic (c q) ((D q).basic (r q)) f (good q (omega arith)).f_inside (λ e. (move q (omega arith)).not_constant (sym e)) ∙ same_f q (omega arith)

  pub same_g : (q : ℕ) → q ≤ T → (D q).basic g ≡ (D 0).basic g
  same_g zero h = refl
  same_g (suc q) h = ap (λ (d : Dictionary). d.basic g) (next q (omega arith)) ∙ replaced_off (D q).height (D q).basic (r q) ((D q).nonbasic (c q)) g (good q (omega arith)).g_inside (λ e. (move q (omega arith)).not_goal (sym e)) ∙ same_g q (omega arith)

  forth : (q : ℕ) → q ≤ T → (v : ℕ → ℚ) → Solves (D 0) v → Solves (D q) v
  forth zero h v s = s
  forth (suc q) h v s = let m = move q (omega arith) in subst (λ (d : Dictionary). Solves d v) (sym (next q (omega arith))) (solves_pivot (D q) (r q) (c q) v m.row m.column (entry_not_zero (D q) f g (r q) (c q) m) (forth q (omega arith) v s))

  back : (q : ℕ) → q ≤ T → (v : ℕ → ℚ) → Solves (D q) v → Solves (D 0) v
  back zero h v s = s
  back (suc q) h v s = let m = move q (omega arith) in back q (omega arith) v (solves_before (D q) (r q) (c q) v m.row m.column (entry_not_zero (D q) f g (r q) (c q) m) (subst (λ (d : Dictionary). Solves d v) (next q (omega arith)) s))

  occurs : (q y : ℕ) → q ≤ T → Occurs (D 0) y → Occurs (D q) y
  occurs zero y h o = o
  occurs (suc q) y h o = let m = move q (omega arith) in subst (λ (d : Dictionary). Occurs d y) (sym (next q (omega arith))) (occurs_after (D q) (r q) (c q) y m.row m.column (occurs q y (omega arith) o))

  occurred : (q y : ℕ) → q ≤ T → Occurs (D q) y → Occurs (D 0) y
  occurred zero y h o = o
  occurred (suc q) y h o = let m = move q (omega arith) in occurred q y (omega arith) (occurs_before (D q) (r q) (c q) y m.row m.column (subst (λ (d : Dictionary). Occurs d y) (next q (omega arith)) o))

  not_both : (q y : ℕ) → q ≤ T → IsBasic (D q) y → IsNonbasic (D q) y → ⊥
  not_both q y h a b = (good q h).proper.apart a.0 b.0 a.1 b.1 (a.2 ∙ sym b.2)

  -- a number that doesn't leave stays basic, and one that doesn't enter stays nonbasic
  keep_basic : (y a b : ℕ) → a ≤ b → b ≤ T → ((q : ℕ) → a ≤ q → q < b → leaving q ≡ y → ⊥) → IsBasic (D a) y → IsBasic (D b) y
  unfolding leaving
  keep_basic y a zero h k never i = subst (λ (q : ℕ). IsBasic (D q) y) (let e : a ≡ 0 = omega arith in e) i
  keep_basic y a (suc b) h k never i = ⊎_elim
      (λ (e : a ≡ suc b). subst (λ (q : ℕ). IsBasic (D q) y) e i)
      (λ (ne : a ≢ suc b). subst (λ (d : Dictionary). IsBasic d y) (sym (next b (omega arith))) (stays_basic (D b) (r b) (c b) y (keep_basic y a b (omega arith) (omega arith) (λ q p l. never q p (omega arith)) i) (λ e. never b (omega arith) (omega arith) (sym e))))
      (cases_eq a (suc b))

  keep_nonbasic : (y a b : ℕ) → a ≤ b → b ≤ T → ((q : ℕ) → a ≤ q → q < b → entering q ≡ y → ⊥) → IsNonbasic (D a) y → IsNonbasic (D b) y
  unfolding entering
  keep_nonbasic y a zero h k never i = subst (λ (q : ℕ). IsNonbasic (D q) y) (let e : a ≡ 0 = omega arith in e) i
  keep_nonbasic y a (suc b) h k never i = ⊎_elim
      (λ (e : a ≡ suc b). subst (λ (q : ℕ). IsNonbasic (D q) y) e i)
      (λ (ne : a ≢ suc b). subst (λ (d : Dictionary). IsNonbasic d y) (sym (next b (omega arith))) (stays_nonbasic (D b) (r b) (c b) y (keep_nonbasic y a b (omega arith) (omega arith) (λ q p l. never q p (omega arith)) i) (λ e. never b (omega arith) (omega arith) (sym e))))
      (cases_eq a (suc b))

  after_entering : (q : ℕ) → q < T → IsBasic (D (suc q)) (entering q)
  unfolding entering
  after_entering q h = subst (λ (d : Dictionary). IsBasic d ((D q).nonbasic (c q))) (sym (next q h)) (enters (D q) (r q) (c q) (move q h).row)

  after_leaving : (q : ℕ) → q < T → IsNonbasic (D (suc q)) (leaving q)
  unfolding leaving
  after_leaving q h = subst (λ (d : Dictionary). IsNonbasic d ((D q).basic (r q))) (sym (next q h)) (leaves (D q) (r q) (c q) (move q h).column)

  -- the last place below b where a number is y, or none
  seek : (h : ℕ → ℕ) (y b : ℕ) → ((q : ℕ) × (q < b) × (h q ≡ y)) ⊎ ((q : ℕ) → q < b → h q ≡ y → ⊥)
  seek h y zero = inr (λ q l e. omega arith)
  seek h y (suc b) = ⊎_elim
      (λ (e : h b ≡ y). inl (b, omega arith, e))
      (λ (ne : h b ≢ y). ⊎_elim
      (λ (a : (q : ℕ) × (q < b) × (h q ≡ y)). inl (a.0, omega arith, a.2))
      (λ (none : (q : ℕ) → q < b → h q ≡ y → ⊥). inr (λ q l e. ⊎_elim (λ (at : q ≡ b). ne (sym (ap h at) ∙ e)) (λ (off : q ≢ b). none q (omega arith) e) (cases_eq q b)))
      (seek h y b))
      (cases_eq (h b) y)

  -- the greatest of the values of h below suc b
  greatest : (h : ℕ → ℕ) (b : ℕ) → (q : ℕ) × (q < suc b) × ((k : ℕ) → k < suc b → h k ≤ h q)
  greatest h zero = (0, omega arith, λ k l. let e : h k ≡ h 0 = ap h (omega arith) in omega arith)
  greatest h (suc b) =
      let m = greatest h b in
      ⊎_elim
      (λ (up : h m.0 < h (suc b)). (suc b, omega arith, λ k l. ⊎_elim (λ (at : k ≡ suc b). let e = ap h at in omega arith) (λ (off : k ≢ suc b). let below = m.2 k (omega arith) in omega arith) (cases_eq k (suc b))))
      (λ (low : h m.0 < h (suc b) → ⊥). (m.0, omega arith, λ k l. ⊎_elim (λ (at : k ≡ suc b). let e = ap h at in omega arith) (λ (off : k ≢ suc b). m.2 k (omega arith)) (cases_eq k (suc b))))
      (split (h m.0) (h (suc b)))
    where
      split : (a b : ℕ) → (a < b) ⊎ (a < b → ⊥)
      split a b = ⊎_elim (λ (e : a ≡ b). inr (λ l. omega arith)) (λ o. ⊎_elim (λ (l : a < b). inl l) (λ (l : b < a). inr (λ k. omega arith)) o) (cases_order a b)

  -- the number y that moves at no place has one status throughout
  module _ (y : ℕ) (stays_in : (q : ℕ) → q < T → leaving q ≡ y → ⊥) (stays_out : (q : ℕ) → q < T → entering q ≡ y → ⊥) where
    nonbasic_at : (a : ℕ) → a ≤ T → IsNonbasic (D 0) y → IsNonbasic (D a) y
    nonbasic_at a h i = keep_nonbasic y 0 a (omega arith) h (λ q p l. stays_out q (omega arith)) i

    nonbasic_first : (a : ℕ) → a ≤ T → IsNonbasic (D a) y → IsNonbasic (D 0) y
    nonbasic_first a h i = ⊎_elim
        (λ (b : IsBasic (D 0) y). absurd (not_both a y h (keep_basic y 0 a (omega arith) h (λ q p l. stays_in q (omega arith)) b) i))
        (λ (b : IsNonbasic (D 0) y). b)
        (occurred a y h (inr i))

  related : (p q x : ℕ) → p ≤ T → q ≤ T → x < n → ((k : ℕ) → k < T → leaving k ≤ x) → ((k : ℕ) → k < T → entering k ≤ x) → Related (D p) (D q) f g x
  related p q x hp hq small l e = record {
    proper = (good p hp).proper;
    other_proper = (good q hq).proper;
    forth = λ v s. forth q hq v (back p hp v s);
    back = λ v s. forth p hp v (back q hq v s);
    f_inside = (good p hp).f_inside;
    f_other = (good q hq).f_inside;
    g_inside = (good p hp).g_inside;
    g_other = (good q hq).g_inside;
    same_f = same_f p hp ∙ sym (same_f q hq);
    same_g = same_g p hp ∙ sym (same_g q hq);
    stays = λ j hj ne more. moved_over p q hp hq j hj ne more;
    stayed = λ j hj ne more. moved_over q p hq hp j hj ne more;
    occurs_basic = λ i hi. occurs q ((D p).basic i) hq (occurred p ((D p).basic i) hp (inl (i, hi, refl)));
    occurs_nonbasic = λ j hj. occurs q ((D p).nonbasic j) hq (occurred p ((D p).nonbasic j) hp (inr (j, hj, refl)));
    other_basic = λ i hi. occurs p ((D q).basic i) hp (occurred q ((D q).basic i) hq (inl (i, hi, refl)));
    other_nonbasic = λ j hj. occurs p ((D q).nonbasic j) hp (occurred q ((D q).nonbasic j) hq (inr (j, hj, refl)));
  }
    where
      moved_over : (p q : ℕ) → p ≤ T → q ≤ T → (j : ℕ) → j < (D p).width → j ≢ f → x < (D p).nonbasic j → (k : ℕ) × (k < (D q).width) × (k ≢ f) × ((D q).nonbasic k ≡ (D p).nonbasic j)
      moved_over p q hp hq j hj ne more =
          let y = (D p).nonbasic j in
          let in_l : (k : ℕ) → k < T → leaving k ≡ y → ⊥ = λ k h at. let below = l k h in omega arith in
          let out_l : (k : ℕ) → k < T → entering k ≡ y → ⊥ = λ k h at. let below = e k h in omega arith in
          let there = nonbasic_at y in_l out_l q hq (nonbasic_first y in_l out_l p hp (j, hj, refl)) in
          (there.0, there.1, (λ (at : there.0 ≡ f). let big = (good q hq).f_great in let less = (good p hp).nonbasic_small j hj ne in let is = ap (D q).nonbasic at in let that = there.2 in omega arith), there.2)

  -- a number that enters where no greater number moves
  enters_case : (p x : ℕ) → p < T → entering p ≡ x → leaving p ≤ x → EntersByGoal (D p) f g x ⊎ EntersByRow (D p) f x
  unfolding leaving entering
  enters_case p x h e l =
      let m = move p h in let a = good p (omega arith) in
      let small : x < n = subst (λ (k : ℕ). k < n) e (a.nonbasic_small (c p) m.column m.not_constant) in
      ⊎_elim
      (λ (b : MovesByRow (D p) f g (r p) (c p)). inr (record {
        column = c p;
        inside = m.column;
        free = m.not_constant;
        is = e;
        row = r p;
        row_inside = m.row;
        lesser = (let ne : leaving p ≢ x = λ at. a.proper.apart (r p) (c p) m.row m.column (at ∙ sym e) in omega arith);
        constant = b.constant;
        positive = b.positive;
        others = λ j hj ne less. b.others j hj ne (omega arith);
      }))
      (λ (b : MovesByColumn (D p) f g (r p) (c p)). inl (record {
        column = c p;
        inside = m.column;
        free = m.not_constant;
        is = e;
        negative = b.coefficient;
        goal = λ j hj ne less. b.goal j hj ne (omega arith);
        constants = λ i hi less. b.constants i hi (not_goal p i x (omega arith) small hi less) (omega arith);
      }))
      m.rule
    where
      not_goal : (p i x : ℕ) → p ≤ T → x < n → i < (D p).height → (D p).basic i < x → i ≢ g
      not_goal p i x h small hi less at = let big = (good p h).g_great in let is = ap (D p).basic at in omega arith

  leaves_case : (p x : ℕ) → p < T → leaving p ≡ x → entering p ≤ x → LeavesByConstant (D p) f g x ⊎ LeavesByColumn (D p) f g x
  unfolding leaving entering
  leaves_case p x h e l =
      let m = move p h in let a = good p (omega arith) in
      let small : x < n = subst (λ (k : ℕ). k < n) e (a.basic_small (r p) m.row m.not_goal) in
      ⊎_elim
      (λ (b : MovesByRow (D p) f g (r p) (c p)). inl (record {
        row = r p;
        inside = m.row;
        is = e;
        negative = b.constant;
        goal = λ j hj ne less. b.goal j hj ne (omega arith);
        constants = λ i hi less. b.constants i hi (not_goal p i x (omega arith) small hi less) (omega arith);
      }))
      (λ (b : MovesByColumn (D p) f g (r p) (c p)). inr (record {
        row = r p;
        inside = m.row;
        is = e;
        column = c p;
        column_inside = m.column;
        free = m.not_constant;
        lesser = (let ne : entering p ≢ x = λ at. a.proper.apart (r p) (c p) m.row m.column (e ∙ sym at) in omega arith);
        goal = b.coefficient;
        negative = b.negative;
        others = λ i hi less. b.others i hi (not_goal p i x (omega arith) small hi less) (omega arith);
      }))
      m.rule
    where
      not_goal : (p i x : ℕ) → p ≤ T → x < n → i < (D p).height → (D p).basic i < x → i ≢ g
      not_goal p i x h small hi less at = let big = (good p h).g_great in let is = ap (D p).basic at in omega arith

  entering_place : (q x : ℕ) → q < T → entering q ≡ x → IsNonbasic (D q) x
  unfolding entering
  entering_place q x h e = (c q, (move q h).column, e)

  leaving_place : (q x : ℕ) → q < T → leaving q ≡ x → IsBasic (D q) x
  unfolding leaving
  leaving_place q x h e = (r q, (move q h).row, e)

  entering_small : (q : ℕ) → q < T → entering q < n
  unfolding entering
  entering_small q h = (good q (omega arith)).nonbasic_small (c q) (move q h).column (move q h).not_constant

  -- the greatest number that moves both enters and leaves, if the basis returns
  both_moves : 0 < T → ((y : ℕ) → IsBasic (D 0) y → IsBasic (D T) y) → ((y : ℕ) → IsBasic (D T) y → IsBasic (D 0) y) → (x : ℕ) × (((p : ℕ) × (p < T) × (entering p ≡ x)) × ((p : ℕ) × (p < T) × (leaving p ≡ x))) × (((k : ℕ) → k < T → leaving k ≤ x) × ((k : ℕ) → k < T → entering k ≤ x))
  both_moves some there back_again =
      let h = λ (q : ℕ). max (leaving q) (entering q) in
      let m = greatest h (T - 1) in
      let x = h m.0 in
      let low : (k : ℕ) → k < T → leaving k ≤ x = λ k l. let b = m.2 k (omega arith) in omega arith in
      let low_e : (k : ℕ) → k < T → entering k ≤ x = λ k l. let b = m.2 k (omega arith) in omega arith in
      let inside : m.0 < T = (let b = m.1 in omega arith) in
      let enters_x : (p : ℕ) × (p < T) × (entering p ≡ x) = ⊎_elim (λ a. a) (λ none. absurd (some_leaves x m.0 inside (which m.0) none)) (seek entering x T) in
      let leaves_x : (p : ℕ) × (p < T) × (leaving p ≡ x) = ⊎_elim (λ a. a) (λ none. absurd (only_enters x none enters_x)) (seek leaving x T) in
      (x, (enters_x, leaves_x), (low, low_e))
    where
      which : (q : ℕ) → (max (leaving q) (entering q) ≡ leaving q) ⊎ (max (leaving q) (entering q) ≡ entering q)
      which q = ⊎_elim (λ (e : leaving q ≡ entering q). inl (omega arith)) (λ o. ⊎_elim (λ (l : leaving q < entering q). inr (omega arith)) (λ (l : entering q < leaving q). inl (omega arith)) o) (cases_order (leaving q) (entering q))

      only_enters : (x : ℕ) → ((q : ℕ) → q < T → leaving q ≡ x → ⊥) → (p : ℕ) × (p < T) × (entering p ≡ x) → ⊥
      only_enters x none a =
          let now = subst (λ (y : ℕ). IsBasic (D (suc a.0)) y) a.2 (after_entering a.0 a.1) in
          let last = keep_basic x (suc a.0) T a.1 (omega arith) (λ q l k. none q k) now in
          let first = back_again x last in
          let then_basic = keep_basic x 0 a.0 (omega arith) (let b = a.1 in omega arith) (λ q l k. none q (let b = a.1 in omega arith)) first in
          not_both a.0 x (let b = a.1 in omega arith) then_basic (entering_place a.0 x a.1 a.2)

      only_leaves : (x : ℕ) → ((q : ℕ) → q < T → entering q ≡ x → ⊥) → (p : ℕ) → p < T → leaving p ≡ x → ⊥
      only_leaves x none p h e =
          let now = subst (λ (y : ℕ). IsNonbasic (D (suc p)) y) e (after_leaving p h) in
          let last = keep_nonbasic x (suc p) T h (omega arith) (λ q l k. none q k) now in
          let here = leaving_place p x h e in
          ⊎_elim
          (λ (b : IsBasic (D 0) x). not_both T x (omega arith) (there x b) last)
          (λ (b : IsNonbasic (D 0) x). not_both p x (omega arith) here (keep_nonbasic x 0 p (omega arith) (omega arith) (λ q l k. none q (omega arith)) b))
          (occurred p x (omega arith) (inl here))

      some_leaves : (x : ℕ) → (q : ℕ) → q < T → (x ≡ leaving q) ⊎ (x ≡ entering q) → ((q : ℕ) → q < T → entering q ≡ x → ⊥) → ⊥
      some_leaves x q h w none = ⊎_elim (λ e. only_leaves x none q h (sym e)) (λ e. none q h (sym e)) w

  -- No basis returns.
  pub no_return : 0 < T → ((y : ℕ) → IsBasic (D 0) y → IsBasic (D T) y) → ((y : ℕ) → IsBasic (D T) y → IsBasic (D 0) y) → ⊥
  no_return some there back_again =
      let b = both_moves some there back_again in
      let x = b.0 in
      let p = b.1.0 in let q = b.1.1 in
      let small : x < n = subst (λ (k : ℕ). k < n) p.2 (entering_small p.0 p.1) in
      clash (D p.0) (D q.0) f g x (related p.0 q.0 x (let h = p.1 in omega arith) (let h = q.1 in omega arith) small b.2.0 b.2.1)
      (enters_case p.0 x p.1 p.2 (b.2.0 p.0 p.1))
      (leaves_case q.0 x q.1 q.2 (b.2.1 q.0 q.1))

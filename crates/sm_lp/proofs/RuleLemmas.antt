-- The rule's function makes the moves of `IsMove`.
use Rattle.std.proofs.Common.{◌≡◌, ℕ, suc, zero, ◌<◌, ◌≤◌, sym, ap, ◌∙◌, refl, arith, ◌≢◌, subst, inl, inr, ◌^◌}
use Rattle.std.specs.Prelude.{◌⊎◌, Bool, true, false, not, ◌&&◌, ◌||◌, ◌==◌, if◌then◌else◌, nat_lt, Option, Some, None}
use Rattle.std.proofs.lemmas.Bool.{cases_eq, cases_order}
use Rattle.std.proofs.lemmas.Bool.Decides.{nat_tests}
use Rattle.std.proofs.Math.Logic.{⊎_elim}
use Rattle.sm_frac.specs.Rational.{ℚ, neg_ℚ, is_nonnegative}
use Rattle.sm_lp.specs.Dictionary.{Dictionary, pivot}
use Rattle.sm_lp.specs.Rule.{least, place, row_of, column_of, is_basic, is_nonbasic, needs_move, can_enter, can_leave, after_row, after_column, next}
use Rattle.sm_certificate.proofs.Signs.{AtLeast, Below, AtMost}
use Rattle.sm_lp.specs.Moves.{IsGood, IsMove}
use Rattle.sm_lp.proofs.Return.{IsBasic, no_return, good_after}
use Rattle.sm_lp.proofs.Bound.{run_bounded}
use Rattle.sm_lp.proofs.Count.{HasRun, steps_left, steps_fall}

pub yes_or_no : (b : Bool) → (b ≡ true) ⊎ (b ≡ false)
yes_or_no true = inl refl
yes_or_no false = inr refl

pub record IsLeast (p : ℕ → Bool) (n m : ℕ) : Type 0 where
  pub within : m ≤ n
  pub holds : m < n → p m ≡ true
  pub below : (y : ℕ) → y < m → p y ≡ false

step_found : (m n : ℕ) (b : Bool) → m < n → (if nat_lt m n then m else (if b then n else suc n)) ≡ m
step_found m n b h = grind (arith, nat_tests)

step_here : (m n : ℕ) (b : Bool) → m ≡ n → b ≡ true → (if nat_lt m n then m else (if b then n else suc n)) ≡ n
step_here m n b h e = grind (arith, nat_tests)

step_none : (m n : ℕ) (b : Bool) → m ≡ n → b ≡ false → (if nat_lt m n then m else (if b then n else suc n)) ≡ suc n
step_none m n b h e = grind (arith, nat_tests)

pub is_least : (p : ℕ → Bool) (n : ℕ) → IsLeast p n (least p n)
unfolding least
is_least p zero = record { within = omega arith; holds = λ h. absurd (omega arith); below = λ y h. absurd (omega arith) }
is_least p (suc n) =
    let i = is_least p n in
    ⊎_elim
    (λ (e : least p n ≡ n). ⊎_elim
    (λ (t : p n ≡ true). subst (IsLeast p (suc n)) (sym (step_here (least p n) n (p n) e t)) (record { within = omega arith; holds = λ _. t; below = λ y h. i.below y (omega arith) }))
    (λ (t : p n ≡ false). subst (IsLeast p (suc n)) (sym (step_none (least p n) n (p n) e t)) (record { within = omega arith; holds = λ h. absurd (omega arith); below = λ y h. ⊎_elim (λ (at : y ≡ n). ap p at ∙ t) (λ (off : y ≢ n). i.below y (omega arith)) (cases_eq y n) }))
    (yes_or_no (p n)))
    (λ o. let low : least p n < n = ⊎_elim (λ (l : least p n < n). l) (λ (l : n < least p n). absurd (let w = i.within in omega arith)) o in
    subst (IsLeast p (suc n)) (sym (step_found (least p n) n (p n) low)) (record { within = omega arith; holds = λ _. i.holds low; below = i.below }))
    (cases_order (least p n) n)

-- ---- tests
both : (a b : Bool) → (a && b) ≡ true → (a ≡ true) × (b ≡ true)
both true true e = (refl, refl)
both true false e = absurd (cc)
both false b e = absurd (cc)

either : (a b : Bool) → (a || b) ≡ true → (a ≡ true) ⊎ (b ≡ true)
either true b e = inl refl
either false b e = inr e

neither : (a b : Bool) → (a || b) ≡ false → (a ≡ false) × (b ≡ false)
neither true b e = absurd (cc)
neither false b e = (refl, e)

not_both : (a b : Bool) → (a && b) ≡ false → a ≡ true → b ≡ false
not_both true b e h = e
not_both false b e h = absurd (cc)

was_false : (a : Bool) → not a ≡ true → a ≡ false
was_false true e = absurd (cc)
was_false false e = refl

was_true : (a : Bool) → not a ≡ false → a ≡ true
was_true true e = refl
was_true false e = absurd (cc)

pub below_of : (x : ℚ) → is_nonnegative x ≡ false → Below x
below_of x e = record { is = λ a. let h = a.is in absurd (cc) }

at_least_of : (x : ℚ) → is_nonnegative x ≡ true → AtLeast x
at_least_of x e = record { is = e }

pub less_of : (a b : ℕ) → nat_lt a b ≡ true → a < b
less_of a b e = grind (arith, nat_tests)

pub of_less : (a b : ℕ) → a < b → nat_lt a b ≡ true
of_less a b e = grind (arith, nat_tests)

same_of : (a b : ℕ) → (a == b) ≡ true → a ≡ b
same_of a b e = grind (arith, nat_tests)

of_same : (a b : ℕ) → a ≡ b → (a == b) ≡ true
of_same a b e = grind (arith, nat_tests)

-- ---- places
pub place_is : (h : ℕ → ℕ) (y n : ℕ) → place h y n < n → h (place h y n) ≡ y
unfolding place
place_is h y n l = same_of (h (least (λ i. h i == y) n)) y ((is_least (λ i. h i == y) n).holds l)

pub place_found : (h : ℕ → ℕ) (y n i : ℕ) → i < n → h i ≡ y → place h y n < n
unfolding place
place_found h y n i l e =
    let m = is_least (λ k. h k == y) n in
    let w = m.within in
    ⊎_elim
    (λ (at : place h y n ≡ n). absurd (let off = m.below i (omega arith) in let on = of_same (h i) y e in cc))
    (λ (ne : place h y n ≢ n). omega arith)
    (cases_eq (place h y n) n)

-- ---- a number that needs no move
row_fine : (d : Dictionary) (f g n y i : ℕ) → IsGood d f g n → needs_move d f g y ≡ false → i < d.height → d.basic i ≡ y → AtLeast (d.entry i f)
unfolding needs_move
row_fine d f g n y i p h l e =
    let found = place_found d.basic y d.height i l e in
    let at : row_of d y ≡ i = p.proper.basic_apart (row_of d y) i found l (place_is d.basic y d.height found ∙ sym e) in
    let part = neither (is_basic d y && not (is_nonnegative (d.entry (row_of d y) f))) (is_nonbasic d y && not (is_nonnegative (d.entry g (column_of d y)))) h in
    let test = was_true (is_nonnegative (d.entry (row_of d y) f)) (not_both (is_basic d y) (not (is_nonnegative (d.entry (row_of d y) f))) part.0 (of_less (row_of d y) d.height found)) in
    subst (λ (k : ℕ). AtLeast (d.entry k f)) at (at_least_of (d.entry (row_of d y) f) test)

column_fine : (d : Dictionary) (f g n y j : ℕ) → IsGood d f g n → needs_move d f g y ≡ false → j < d.width → d.nonbasic j ≡ y → AtLeast (d.entry g j)
unfolding needs_move
column_fine d f g n y j p h l e =
    let found = place_found d.nonbasic y d.width j l e in
    let at : column_of d y ≡ j = p.proper.nonbasic_apart (column_of d y) j found l (place_is d.nonbasic y d.width found ∙ sym e) in
    let part = neither (is_basic d y && not (is_nonnegative (d.entry (row_of d y) f))) (is_nonbasic d y && not (is_nonnegative (d.entry g (column_of d y)))) h in
    let test = was_true (is_nonnegative (d.entry g (column_of d y))) (not_both (is_nonbasic d y) (not (is_nonnegative (d.entry g (column_of d y)))) part.1 (of_less (column_of d y) d.width found)) in
    subst (λ (k : ℕ). AtLeast (d.entry g k)) at (at_least_of (d.entry g (column_of d y)) test)

no_entry : (d : Dictionary) (f g n r y j : ℕ) → IsGood d f g n → can_enter d r y ≡ false → j < d.width → d.nonbasic j ≡ y → AtMost (d.entry r j)
unfolding can_enter
no_entry d f g n r y j p h l e =
    let found = place_found d.nonbasic y d.width j l e in
    let at : column_of d y ≡ j = p.proper.nonbasic_apart (column_of d y) j found l (place_is d.nonbasic y d.width found ∙ sym e) in
    let test = was_true (is_nonnegative (neg_ℚ (d.entry r (column_of d y)))) (not_both (is_nonbasic d y) (not (is_nonnegative (neg_ℚ (d.entry r (column_of d y))))) h (of_less (column_of d y) d.width found)) in
    subst (λ (k : ℕ). AtMost (d.entry r k)) at (at_least_of (neg_ℚ (d.entry r (column_of d y))) test)

no_leave : (d : Dictionary) (f g n c y i : ℕ) → IsGood d f g n → can_leave d c y ≡ false → i < d.height → d.basic i ≡ y → AtLeast (d.entry i c)
unfolding can_leave
no_leave d f g n c y i p h l e =
    let found = place_found d.basic y d.height i l e in
    let at : row_of d y ≡ i = p.proper.basic_apart (row_of d y) i found l (place_is d.basic y d.height found ∙ sym e) in
    let test = was_true (is_nonnegative (d.entry (row_of d y) c)) (not_both (is_basic d y) (not (is_nonnegative (d.entry (row_of d y) c))) h (of_less (row_of d y) d.height found)) in
    subst (λ (k : ℕ). AtLeast (d.entry k c)) at (at_least_of (d.entry (row_of d y) c) test)

-- ---- the two kinds of move
row_move : (d : Dictionary) (f g n k : ℕ) → IsGood d f g n → k < n → ((y : ℕ) → y < k → needs_move d f g y ≡ false) → needs_move d f g k ≡ true → is_basic d k ≡ true → least (can_enter d (row_of d k)) n < n → IsMove d f g (row_of d k) (column_of d (least (can_enter d (row_of d k)) n))
unfolding needs_move can_enter
row_move d f g n k p small fine needs basic some =
    let r = row_of d k in
    let hr = less_of r d.height basic in
    let er = place_is d.basic k d.height hr in
    let e = least (can_enter d r) n in
    let m = is_least (can_enter d r) n in
    let enter = both (is_nonbasic d e) (not (is_nonnegative (neg_ℚ (d.entry r (column_of d e))))) (m.holds some) in
    let c = column_of d e in
    let hc = less_of c d.width enter.0 in
    let ec = place_is d.nonbasic e d.width hc in
    record {
      row = hr;
      not_goal = λ at. let big = p.g_great in let same = ap d.basic at in omega arith;
      column = hc;
      not_constant = λ at. let big = p.f_great in let same = ap d.nonbasic at in omega arith;
      rule = inl (record {
        constant = ⊎_elim
            (λ part. below_of (d.entry r f) (was_false (is_nonnegative (d.entry r f)) (both (is_basic d k) (not (is_nonnegative (d.entry r f))) part).1))
            (λ part. absurd (let l = less_of (column_of d k) d.width (both (is_nonbasic d k) (not (is_nonnegative (d.entry g (column_of d k)))) part).0 in p.proper.apart r (column_of d k) hr l (er ∙ sym (place_is d.nonbasic k d.width l))))
            (either (is_basic d k && not (is_nonnegative (d.entry r f))) (is_nonbasic d k && not (is_nonnegative (d.entry g (column_of d k)))) needs);
        positive = below_of (neg_ℚ (d.entry r c)) (was_false (is_nonnegative (neg_ℚ (d.entry r c))) enter.1);
        others = λ j hj ne less. no_entry d f g n r (d.nonbasic j) j p (m.below (d.nonbasic j) (omega arith)) hj refl;
        goal = λ j hj ne less. column_fine d f g n (d.nonbasic j) j p (fine (d.nonbasic j) (omega arith)) hj refl;
        constants = λ i hi ne less. row_fine d f g n (d.basic i) i p (fine (d.basic i) (omega arith)) hi refl;
      });
    }

column_move : (d : Dictionary) (f g n k : ℕ) → IsGood d f g n → k < n → ((y : ℕ) → y < k → needs_move d f g y ≡ false) → needs_move d f g k ≡ true → is_basic d k ≡ false → least (can_leave d (column_of d k)) n < n → IsMove d f g (row_of d (least (can_leave d (column_of d k)) n)) (column_of d k)
unfolding needs_move can_leave
column_move d f g n k p small fine needs basic some =
    let c = column_of d k in
    let part = ⊎_elim
    (λ (q : (is_basic d k && not (is_nonnegative (d.entry (row_of d k) f))) ≡ true). absurd (let h = (both (is_basic d k) (not (is_nonnegative (d.entry (row_of d k) f))) q).0 in cc))
    (λ (q : (is_nonbasic d k && not (is_nonnegative (d.entry g c))) ≡ true). both (is_nonbasic d k) (not (is_nonnegative (d.entry g c))) q)
    (either (is_basic d k && not (is_nonnegative (d.entry (row_of d k) f))) (is_nonbasic d k && not (is_nonnegative (d.entry g c))) needs) in
    let hc = less_of c d.width part.0 in
    let ec = place_is d.nonbasic k d.width hc in
    let l = least (can_leave d c) n in
    let m = is_least (can_leave d c) n in
    let leave = both (is_basic d l) (not (is_nonnegative (d.entry (row_of d l) c))) (m.holds some) in
    let r = row_of d l in
    let hr = less_of r d.height leave.0 in
    let er = place_is d.basic l d.height hr in
    record {
      row = hr;
      not_goal = λ at. let big = p.g_great in let same = ap d.basic at in omega arith;
      column = hc;
      not_constant = λ at. let big = p.f_great in let same = ap d.nonbasic at in omega arith;
      rule = inr (record {
        coefficient = below_of (d.entry g c) (was_false (is_nonnegative (d.entry g c)) part.1);
        negative = below_of (d.entry r c) (was_false (is_nonnegative (d.entry r c)) leave.1);
        others = λ i hi ne less. no_leave d f g n c (d.basic i) i p (m.below (d.basic i) (omega arith)) hi refl;
        goal = λ j hj ne less. column_fine d f g n (d.nonbasic j) j p (fine (d.nonbasic j) (omega arith)) hj refl;
        constants = λ i hi ne less. row_fine d f g n (d.basic i) i p (fine (d.basic i) (omega arith)) hi refl;
      });
    }

some_if_true : (b : Bool) (x e : Dictionary) → ◌≡◌ {A = Option Dictionary} (if b then Some x else None) (Some e) → (b ≡ true) × (x ≡ e)
some_if_true true x e h = (refl, cc)
some_if_true false x e h = absurd (cc)

if_case : (b c : Bool) (x y : Option Dictionary) (e : Dictionary) → ◌≡◌ {A = Option Dictionary} (if b then (if c then x else y) else None) (Some e) → (b ≡ true) × (((c ≡ true) × (x ≡ Some e)) ⊎ ((c ≡ false) × (y ≡ Some e)))
if_case true true x y e h = (refl, inl (refl, h))
if_case true false x y e h = (refl, inr (refl, h))
if_case false c x y e h = absurd (cc)

-- what `next` gives is a move of the rule
pub next_moves : (f g n : ℕ) (d e : Dictionary) → IsGood d f g n → next f g n d ≡ Some e → (r : ℕ) × (c : ℕ) × IsMove d f g r c × (pivot d r c ≡ e)
unfolding next after_row after_column
next_moves f g n d e p h =
    let k = least (needs_move d f g) n in
    let m = is_least (needs_move d f g) n in
    let a = if_case (nat_lt k n) (is_basic d k) (after_row d n (row_of d k)) (after_column d n (column_of d k)) e h in
    let small = less_of k n a.0 in
    ⊎_elim
    (λ (q : (is_basic d k ≡ true) × (after_row d n (row_of d k) ≡ Some e)).
    let b = some_if_true (nat_lt (least (can_enter d (row_of d k)) n) n) (pivot d (row_of d k) (column_of d (least (can_enter d (row_of d k)) n))) e q.1 in
    (row_of d k, column_of d (least (can_enter d (row_of d k)) n), row_move d f g n k p small m.below (m.holds small) q.0 (less_of _ n b.0), b.1))
    (λ (q : (is_basic d k ≡ false) × (after_column d n (column_of d k) ≡ Some e)).
    let b = some_if_true (nat_lt (least (can_leave d (column_of d k)) n) n) (pivot d (row_of d (least (can_leave d (column_of d k)) n)) (column_of d k)) e q.1 in
    (row_of d (least (can_leave d (column_of d k)) n), column_of d k, column_move d f g n k p small m.below (m.holds small) q.0 (less_of _ n b.0), b.1))
    a.1

-- ---- a chain of steps as a run
record Run (f g n k : ℕ) (d : Dictionary) : Type 0 where
  pub D : ℕ → Dictionary
  pub r : ℕ → ℕ
  pub c : ℕ → ℕ
  pub first : D 0 ≡ d
  pub next_is : (q : ℕ) → q < k → D (suc q) ≡ pivot (D q) (r q) (c q)
  pub move : (q : ℕ) → q < k → IsMove (D q) f g (r q) (c q)

abbrev cons : {A : Type 0} → A → (ℕ → A) → ℕ → A
cons a f zero = a
cons a f (suc q) = f q

longer : (f g n k : ℕ) (d t : Dictionary) (r c : ℕ) → IsMove d f g r c → pivot d r c ≡ t → Run f g n k t → Run f g n (suc k) d
longer f g n k d t r c m e run = record { D = cons d run.D; r = cons r run.r; c = cons c run.c; first = refl; next_is = nexts; move = moves }
  where
    nexts : (q : ℕ) → q < suc k → cons d run.D (suc q) ≡ pivot (cons d run.D q) (cons r run.r q) (cons c run.c q)
    nexts zero h = run.first ∙ sym e
    nexts (suc q) h = run.next_is q (omega arith)

    moves : (q : ℕ) → q < suc k → IsMove (cons d run.D q) f g (cons r run.r q) (cons c run.c q)
    moves zero h = m
    moves (suc q) h = run.move q (omega arith)

run_of : (f g n k : ℕ) (d : Dictionary) → IsGood d f g n → HasRun (next f g n) k d → Run f g n k d
run_of f g n zero d p h = record { D = λ _. d; r = λ _. 0; c = λ _. 0; first = refl; next_is = λ q l. absurd (omega arith); move = λ q l. absurd (omega arith) }
run_of f g n (suc k) d p h =
    let m = next_moves f g n d h.0 p h.1 in
    longer f g n k d h.0 m.0 m.1 m.2 m.3 (run_of f g n k h.0 (subst (λ (e : Dictionary). IsGood e f g n) m.3 (good_after d f g n m.0 m.1 m.2 p)) h.2)

-- No run of the rule makes 2 ^ n moves.
pub no_long_run : (f g n : ℕ) (d : Dictionary) → IsGood d f g n → HasRun (next f g n) (2 ^ n) d → ⊥
no_long_run f g n d p h =
    let run = run_of f g n (2 ^ n) d p h in
    let low = run_bounded run.D run.r run.c f g n (2 ^ n) (subst (λ (e : Dictionary). IsGood e f g n) (sym run.first) p) run.next_is run.move in
    omega arith

-- The measure of the loop: a move makes it less.
pub move_falls : (f g n : ℕ) (d e : Dictionary) → IsGood d f g n → next f g n d ≡ Some e → steps_left (next f g n) (2 ^ n) e < steps_left (next f g n) (2 ^ n) d
move_falls f g n d e p h = steps_fall (next f g n) (2 ^ n) d e (no_long_run f g n d p) h

-- ---- a chain of steps from one dictionary to another
pub Leads : (f g n k : ℕ) (d e : Dictionary) → Type 0
Leads f g n zero d e = e ≡ d
Leads f g n (suc k) d e = (t : Dictionary) × (next f g n d ≡ Some t) × Leads f g n k t e

pub leads_none : (f g n : ℕ) (d e : Dictionary) → e ≡ d → Leads f g n 0 d e
unfolding Leads
leads_none f g n d e h = h

pub leads_more : (f g n k : ℕ) (d t e : Dictionary) → Leads f g n k d t → next f g n t ≡ Some e → Leads f g n (suc k) d e
unfolding Leads
leads_more f g n zero d t e h is = (e, ap (next f g n) (sym h) ∙ is, refl)
leads_more f g n (suc k) d t e h is = (h.0, h.1, leads_more f g n k h.0 t e h.2 is)

run_to : (f g n k : ℕ) (d e : Dictionary) → IsGood d f g n → Leads f g n k d e → (run : Run f g n k d) × (run.D k ≡ e)
unfolding Leads longer
run_to f g n zero d e p h = (record { D = λ _. d; r = λ _. 0; c = λ _. 0; first = refl; next_is = λ q l. absurd (omega arith); move = λ q l. absurd (omega arith) }, sym h)
run_to f g n (suc k) d e p h =
    let m = next_moves f g n d h.0 p h.1 in
    let rest = run_to f g n k h.0 e (subst (λ (x : Dictionary). IsGood x f g n) m.3 (good_after d f g n m.0 m.1 m.2 p)) h.2 in
    (longer f g n k d h.0 m.0 m.1 m.2 m.3 rest.0, rest.1)

pub leads_few : (f g n k : ℕ) (d e : Dictionary) → IsGood d f g n → Leads f g n k d e → k < 2 ^ n
leads_few f g n k d e p h =
    let run = run_to f g n k d e p h in
    run_bounded run.0.D run.0.r run.0.c f g n k (subst (λ (x : Dictionary). IsGood x f g n) (sym run.0.first) p) run.0.next_is run.0.move

pub leads_elsewhere : (f g n k : ℕ) (d e : Dictionary) → IsGood d f g n → Leads f g n k d e → 0 < k → ((y : ℕ) → IsBasic d y → IsBasic e y) → ((y : ℕ) → IsBasic e y → IsBasic d y) → ⊥
leads_elsewhere f g n k d e p h some there back =
    let run = run_to f g n k d e p h in
    let r = run.0 in
    no_return r.D r.r r.c f g n k (subst (λ (x : Dictionary). IsGood x f g n) (sym r.first) p) r.next_is r.move some
    (λ y b. subst (λ (x : Dictionary). IsBasic x y) (sym run.1) (there y (subst (λ (x : Dictionary). IsBasic x y) r.first b)))
    (λ y b. subst (λ (x : Dictionary). IsBasic x y) (sym r.first) (back y (subst (λ (x : Dictionary). IsBasic x y) run.1 b)))

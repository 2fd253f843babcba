-- The rule's function makes each move of the rule, and ends where no number needs one or none can enter.
use Rattle.std.proofs.Common.{◌≡◌, ℕ, ◌<◌, ◌≤◌, sym, ap, ◌∙◌, refl, arith, ◌≢◌}
use Rattle.std.specs.Prelude.{Bool, true, false, not, ◌&&◌, ◌||◌, if◌then◌else◌, nat_lt, Option, Some, None}
use Rattle.std.proofs.lemmas.Bool.{cases_order}
use Rattle.std.proofs.Math.Logic.{⊎_elim}
use Rattle.sm_frac.specs.Rational.{ℚ, neg_ℚ, is_nonnegative}
use Rattle.sm_lp.specs.Dictionary.{Dictionary, pivot}
use Rattle.sm_lp.specs.Rule.{least, row_of, column_of, is_basic, is_nonbasic, needs_move, can_enter, can_leave, after_row, after_column, next}
use Rattle.sm_certificate.specs.Signs.{AtLeast, Below, AtMost, Above}
use Rattle.sm_lp.specs.Moves.{IsGood, IsMove, IsOptimal, IsInfeasible, MovesByRow, MovesByColumn}
use Rattle.sm_lp.proofs.RuleLemmas.{is_least, less_of, of_less, place_is, place_found}
use Rattle.sm_certificate.proofs.Signs.{by_test}

if_true : {A : Type 0} (b : Bool) (x y : A) → b ≡ true → (if b then x else y) ≡ x
if_true true x y e = refl
if_true false x y e = absurd (cc)

if_false : {A : Type 0} (b : Bool) (x y : A) → b ≡ false → (if b then x else y) ≡ y
if_false true x y e = absurd (cc)
if_false false x y e = refl

pub least_is : (p : ℕ → Bool) (n k : ℕ) → k < n → p k ≡ true → ((y : ℕ) → y < k → p y ≡ false) → least p n ≡ k
least_is p n k hk on off =
    let m = is_least p n in
    ⊎_elim (λ (e : least p n ≡ k). e)
    (λ o. ⊎_elim
    (λ (low : least p n < k). absurd (let a = off (least p n) low in let b = m.holds (omega arith) in cc))
    (λ (high : k < least p n). absurd (let a = m.below k high in cc)) o)
    (cases_order (least p n) k)

pub least_none : (p : ℕ → Bool) (n : ℕ) → ((y : ℕ) → y < n → p y ≡ false) → least p n ≡ n
least_none p n off =
    let m = is_least p n in
    let within = m.within in
    ⊎_elim (λ (e : least p n ≡ n). e)
    (λ o. ⊎_elim
    (λ (low : least p n < n). absurd (let a = off (least p n) low in let b = m.holds low in cc))
    (λ (high : n < least p n). absurd (omega arith)) o)
    (cases_order (least p n) n)

pub not_less : (a b : ℕ) → b ≤ a → nat_lt a b ≡ false
not_less a b h = by_test (nat_lt a b) (λ t. let l = less_of a b t in absurd (omega arith))

-- ---- tests
below_test : (x : ℚ) → Below x → is_nonnegative x ≡ false
below_test x h = by_test (is_nonnegative x) (λ t. h.is (record { is = t }))

and_true : (a b : Bool) → a ≡ true → b ≡ false → (a && not b) ≡ true
and_true a b ea eb = cc_and a b ea eb
  where
    cc_and : (a b : Bool) → a ≡ true → b ≡ false → (a && not b) ≡ true
    cc_and true true ea eb = absurd (cc)
    cc_and true false ea eb = refl
    cc_and false b ea eb = absurd (cc)

and_false : (a b : Bool) → (a ≡ true → b ≡ true) → (a && not b) ≡ false
and_false true true h = refl
and_false true false h = absurd (let e = h refl in cc)
and_false false b h = refl

or_left : (a b : Bool) → a ≡ true → (a || b) ≡ true
or_left true b e = refl
or_left false b e = absurd (cc)

or_right : (a b : Bool) → b ≡ true → (a || b) ≡ true
or_right true b e = refl
or_right false b e = e

or_false : (a b : Bool) → a ≡ false → b ≡ false → (a || b) ≡ false
or_false true b ea eb = absurd (cc)
or_false false b ea eb = eb

module _ (d : Dictionary) (f g n : ℕ) (p : IsGood d f g n) where
  pub row_of_is : (i : ℕ) → i < d.height → row_of d (d.basic i) ≡ i
  row_of_is i hi =
      let found = place_found d.basic (d.basic i) d.height i hi refl in
      p.proper.basic_apart (row_of d (d.basic i)) i found hi (place_is d.basic (d.basic i) d.height found)

  pub column_of_is : (j : ℕ) → j < d.width → column_of d (d.nonbasic j) ≡ j
  column_of_is j hj =
      let found = place_found d.nonbasic (d.nonbasic j) d.width j hj refl in
      p.proper.nonbasic_apart (column_of d (d.nonbasic j)) j found hj (place_is d.nonbasic (d.nonbasic j) d.width found)

  pub basic_is : (i : ℕ) → i < d.height → is_basic d (d.basic i) ≡ true
  basic_is i hi = of_less (row_of d (d.basic i)) d.height (place_found d.basic (d.basic i) d.height i hi refl)

  pub nonbasic_is : (j : ℕ) → j < d.width → is_nonbasic d (d.nonbasic j) ≡ true
  nonbasic_is j hj = of_less (column_of d (d.nonbasic j)) d.width (place_found d.nonbasic (d.nonbasic j) d.width j hj refl)

  pub not_basic : (j : ℕ) → j < d.width → is_basic d (d.nonbasic j) ≡ false
  not_basic j hj = by_test (is_basic d (d.nonbasic j)) (λ t.
      let found = less_of (row_of d (d.nonbasic j)) d.height t in
      p.proper.apart (row_of d (d.nonbasic j)) j found hj (place_is d.basic (d.nonbasic j) d.height found))

  row_small : (i y : ℕ) → y < n → d.basic i ≡ y → i ≢ g
  row_small i y l e at = let big = p.g_great in let same = ap d.basic at in absurd (omega arith)

  column_small : (j y : ℕ) → y < n → d.nonbasic j ≡ y → j ≢ f
  column_small j y l e at = let big = p.f_great in let same = ap d.nonbasic at in absurd (omega arith)

  -- a number needs no move where its constant and its coefficient aren't negative
  needs_none : (y : ℕ) → ((i : ℕ) → i < d.height → d.basic i ≡ y → AtLeast (d.entry i f)) → ((j : ℕ) → j < d.width → d.nonbasic j ≡ y → AtLeast (d.entry g j)) → needs_move d f g y ≡ false
  unfolding needs_move
  needs_none y rows columns =
      or_false (is_basic d y && not (is_nonnegative (d.entry (row_of d y) f))) (is_nonbasic d y && not (is_nonnegative (d.entry g (column_of d y))))
      (and_false (is_basic d y) (is_nonnegative (d.entry (row_of d y) f)) (λ t. let found = less_of (row_of d y) d.height t in (rows (row_of d y) found (place_is d.basic y d.height found)).is))
      (and_false (is_nonbasic d y) (is_nonnegative (d.entry g (column_of d y))) (λ t. let found = less_of (column_of d y) d.width t in (columns (column_of d y) found (place_is d.nonbasic y d.width found)).is))

  needs_below : (k y : ℕ) → k ≤ n → y < k → ((j : ℕ) → j < d.width → j ≢ f → d.nonbasic j < k → AtLeast (d.entry g j)) → ((i : ℕ) → i < d.height → i ≢ g → d.basic i < k → AtLeast (d.entry i f)) → needs_move d f g y ≡ false
  needs_below k y hk l goal constants = needs_none y
      (λ i hi e. constants i hi (row_small i y (omega arith) e) (omega arith))
      (λ j hj e. goal j hj (column_small j y (omega arith) e) (omega arith))

  needs_row : (r : ℕ) → r < d.height → Below (d.entry r f) → needs_move d f g (d.basic r) ≡ true
  unfolding needs_move
  needs_row r hr below =
      or_left (is_basic d (d.basic r) && not (is_nonnegative (d.entry (row_of d (d.basic r)) f))) (is_nonbasic d (d.basic r) && not (is_nonnegative (d.entry g (column_of d (d.basic r)))))
      (and_true (is_basic d (d.basic r)) (is_nonnegative (d.entry (row_of d (d.basic r)) f)) (basic_is r hr) (ap (λ (i : ℕ). is_nonnegative (d.entry i f)) (row_of_is r hr) ∙ below_test (d.entry r f) below))

  needs_column : (c : ℕ) → c < d.width → Below (d.entry g c) → needs_move d f g (d.nonbasic c) ≡ true
  unfolding needs_move
  needs_column c hc below =
      or_right (is_basic d (d.nonbasic c) && not (is_nonnegative (d.entry (row_of d (d.nonbasic c)) f))) (is_nonbasic d (d.nonbasic c) && not (is_nonnegative (d.entry g (column_of d (d.nonbasic c)))))
      (and_true (is_nonbasic d (d.nonbasic c)) (is_nonnegative (d.entry g (column_of d (d.nonbasic c)))) (nonbasic_is c hc) (ap (λ (j : ℕ). is_nonnegative (d.entry g j)) (column_of_is c hc) ∙ below_test (d.entry g c) below))

  enter_true : (r c : ℕ) → c < d.width → Above (d.entry r c) → can_enter d r (d.nonbasic c) ≡ true
  unfolding can_enter
  enter_true r c hc above = and_true (is_nonbasic d (d.nonbasic c)) (is_nonnegative (neg_ℚ (d.entry r (column_of d (d.nonbasic c))))) (nonbasic_is c hc) (ap (λ (j : ℕ). is_nonnegative (neg_ℚ (d.entry r j))) (column_of_is c hc) ∙ below_test (neg_ℚ (d.entry r c)) above)

  enter_false : (r y : ℕ) → y < n → ((j : ℕ) → j < d.width → j ≢ f → d.nonbasic j ≡ y → AtMost (d.entry r j)) → can_enter d r y ≡ false
  unfolding can_enter
  enter_false r y l most = and_false (is_nonbasic d y) (is_nonnegative (neg_ℚ (d.entry r (column_of d y)))) (λ t.
      let found = less_of (column_of d y) d.width t in
      let e = place_is d.nonbasic y d.width found in
      (most (column_of d y) found (column_small (column_of d y) y l e) e).is)

  leave_true : (r c : ℕ) → r < d.height → Below (d.entry r c) → can_leave d c (d.basic r) ≡ true
  unfolding can_leave
  leave_true r c hr below = and_true (is_basic d (d.basic r)) (is_nonnegative (d.entry (row_of d (d.basic r)) c)) (basic_is r hr) (ap (λ (i : ℕ). is_nonnegative (d.entry i c)) (row_of_is r hr) ∙ below_test (d.entry r c) below)

  leave_false : (c y : ℕ) → y < n → ((i : ℕ) → i < d.height → i ≢ g → d.basic i ≡ y → AtLeast (d.entry i c)) → can_leave d c y ≡ false
  unfolding can_leave
  leave_false c y l low = and_false (is_basic d y) (is_nonnegative (d.entry (row_of d y) c)) (λ t.
      let found = less_of (row_of d y) d.height t in
      let e = place_is d.basic y d.height found in
      (low (row_of d y) found (row_small (row_of d y) y l e) e).is)

  -- ---- the next dictionary
  abbrev body : ℕ → Option Dictionary
  body k = if nat_lt k n then (if is_basic d k then after_row d n (row_of d k) else after_column d n (column_of d k)) else None

  next_row : (k : ℕ) → least (needs_move d f g) n ≡ k → k < n → is_basic d k ≡ true → next f g n d ≡ after_row d n (row_of d k)
  unfolding next
  next_row k e l b = ap body e ∙ if_true (nat_lt k n) (if is_basic d k then after_row d n (row_of d k) else after_column d n (column_of d k)) None (of_less k n l) ∙ if_true (is_basic d k) (after_row d n (row_of d k)) (after_column d n (column_of d k)) b

  next_column : (k : ℕ) → least (needs_move d f g) n ≡ k → k < n → is_basic d k ≡ false → next f g n d ≡ after_column d n (column_of d k)
  unfolding next
  next_column k e l b = ap body e ∙ if_true (nat_lt k n) (if is_basic d k then after_row d n (row_of d k) else after_column d n (column_of d k)) None (of_less k n l) ∙ if_false (is_basic d k) (after_row d n (row_of d k)) (after_column d n (column_of d k)) b

  next_none : least (needs_move d f g) n ≡ n → next f g n d ≡ None
  unfolding next
  next_none e = ap body e ∙ if_false (nat_lt n n) (if is_basic d n then after_row d n (row_of d n) else after_column d n (column_of d n)) None (not_less n n (omega arith))

  after_row_is : (r e : ℕ) → least (can_enter d r) n ≡ e → e < n → after_row d n r ≡ Some (pivot d r (column_of d e))
  unfolding after_row
  after_row_is r e at l = ap (λ (k : ℕ). if nat_lt k n then Some (pivot d r (column_of d k)) else None) at ∙ if_true (nat_lt e n) (Some (pivot d r (column_of d e))) None (of_less e n l)

  after_row_none : (r : ℕ) → least (can_enter d r) n ≡ n → after_row d n r ≡ None
  unfolding after_row
  after_row_none r at = ap (λ (k : ℕ). if nat_lt k n then Some (pivot d r (column_of d k)) else None) at ∙ if_false (nat_lt n n) (Some (pivot d r (column_of d n))) None (not_less n n (omega arith))

  after_column_is : (c e : ℕ) → least (can_leave d c) n ≡ e → e < n → after_column d n c ≡ Some (pivot d (row_of d e) c)
  unfolding after_column
  after_column_is c e at l = ap (λ (k : ℕ). if nat_lt k n then Some (pivot d (row_of d k) c) else None) at ∙ if_true (nat_lt e n) (Some (pivot d (row_of d e) c)) None (of_less e n l)

  pub move_next : (r c : ℕ) → IsMove d f g r c → next f g n d ≡ Some (pivot d r c)
  move_next r c m = ⊎_elim
      (λ (a : MovesByRow d f g r c).
      let small = p.basic_small r m.row m.not_goal in
      let small_c = p.nonbasic_small c m.column m.not_constant in
      let first = least_is (needs_move d f g) n (d.basic r) small (needs_row r m.row a.constant) (λ y l. needs_below (d.basic r) y (omega arith) l a.goal a.constants) in
      let second = least_is (can_enter d r) n (d.nonbasic c) small_c (enter_true r c m.column a.positive) (λ y l. enter_false r y (omega arith) (λ j hj ne e. a.others j hj ne (omega arith))) in
      next_row (d.basic r) first small (basic_is r m.row)
      ∙ ap (λ (i : ℕ). after_row d n i) (row_of_is r m.row)
      ∙ after_row_is r (d.nonbasic c) second small_c
      ∙ ap (λ (j : ℕ). Some (pivot d r j)) (column_of_is c m.column))
      (λ (a : MovesByColumn d f g r c).
      let small = p.nonbasic_small c m.column m.not_constant in
      let small_r = p.basic_small r m.row m.not_goal in
      let first = least_is (needs_move d f g) n (d.nonbasic c) small (needs_column c m.column a.coefficient) (λ y l. needs_below (d.nonbasic c) y (omega arith) l a.goal a.constants) in
      let second = least_is (can_leave d c) n (d.basic r) small_r (leave_true r c m.row a.negative) (λ y l. leave_false c y (omega arith) (λ i hi ne e. a.others i hi ne (omega arith))) in
      next_column (d.nonbasic c) first small (not_basic c m.column)
      ∙ ap (λ (j : ℕ). after_column d n j) (column_of_is c m.column)
      ∙ after_column_is c (d.basic r) second small_r
      ∙ ap (λ (i : ℕ). Some (pivot d i c)) (row_of_is r m.row))
      m.rule

  pub optimal_next : IsOptimal d f g → next f g n d ≡ None
  optimal_next o = next_none (least_none (needs_move d f g) n (λ y l. needs_below n y (omega arith) l (λ j hj ne less. o.goal j hj ne) (λ i hi ne less. o.constants i hi ne)))

  pub infeasible_next : (r : ℕ) → IsInfeasible d f g r → next f g n d ≡ None
  infeasible_next r o =
      let small = p.basic_small r o.row o.not_goal in
      let first = least_is (needs_move d f g) n (d.basic r) small (needs_row r o.row o.constant) (λ y l. needs_below (d.basic r) y (omega arith) l o.goal o.constants) in
      next_row (d.basic r) first small (basic_is r o.row)
      ∙ ap (λ (i : ℕ). after_row d n i) (row_of_is r o.row)
      ∙ after_row_none r (least_none (can_enter d r) n (λ y l. enter_false r y l (λ j hj ne e. o.none j hj ne)))

  -- ---- the rule gives one move
  row_number : (r c : ℕ) → IsMove d f g r c → MovesByRow d f g r c → least (needs_move d f g) n ≡ d.basic r
  row_number r c m a = let small = p.basic_small r m.row m.not_goal in least_is (needs_move d f g) n (d.basic r) small (needs_row r m.row a.constant) (λ y l. needs_below (d.basic r) y (omega arith) l a.goal a.constants)

  column_number : (r c : ℕ) → IsMove d f g r c → MovesByColumn d f g r c → least (needs_move d f g) n ≡ d.nonbasic c
  column_number r c m a = let small = p.nonbasic_small c m.column m.not_constant in least_is (needs_move d f g) n (d.nonbasic c) small (needs_column c m.column a.coefficient) (λ y l. needs_below (d.nonbasic c) y (omega arith) l a.goal a.constants)

  row_enters : (r c : ℕ) → IsMove d f g r c → MovesByRow d f g r c → least (can_enter d r) n ≡ d.nonbasic c
  row_enters r c m a = let small = p.nonbasic_small c m.column m.not_constant in least_is (can_enter d r) n (d.nonbasic c) small (enter_true r c m.column a.positive) (λ y l. enter_false r y (omega arith) (λ j hj ne e. a.others j hj ne (omega arith)))

  column_leaves : (r c : ℕ) → IsMove d f g r c → MovesByColumn d f g r c → least (can_leave d c) n ≡ d.basic r
  column_leaves r c m a = let small = p.basic_small r m.row m.not_goal in least_is (can_leave d c) n (d.basic r) small (leave_true r c m.row a.negative) (λ y l. leave_false c y (omega arith) (λ i hi ne e. a.others i hi ne (omega arith)))

  pub one_move : (r c s e : ℕ) → IsMove d f g r c → IsMove d f g s e → (r ≡ s) × (c ≡ e)
  one_move r c s e m k = ⊎_elim
      (λ (a : MovesByRow d f g r c). ⊎_elim
      (λ (b : MovesByRow d f g s e).
      let rows = p.proper.basic_apart r s m.row k.row (sym (row_number r c m a) ∙ row_number s e k b) in
      (rows, p.proper.nonbasic_apart c e m.column k.column (sym (row_enters r c m a) ∙ ap (λ (i : ℕ). least (can_enter d i) n) rows ∙ row_enters s e k b)))
      (λ (b : MovesByColumn d f g s e). absurd (p.proper.apart r e m.row k.column (sym (row_number r c m a) ∙ column_number s e k b))) k.rule)
      (λ (a : MovesByColumn d f g r c). ⊎_elim
      (λ (b : MovesByRow d f g s e). absurd (p.proper.apart s c k.row m.column (sym (row_number s e k b) ∙ column_number r c m a)))
      (λ (b : MovesByColumn d f g s e).
      let columns = p.proper.nonbasic_apart c e m.column k.column (sym (column_number r c m a) ∙ column_number s e k b) in
      (p.proper.basic_apart r s m.row k.row (sym (column_leaves r c m a) ∙ ap (λ (j : ℕ). least (can_leave d j) n) columns ∙ column_leaves s e k b), columns)) k.rule)
      m.rule

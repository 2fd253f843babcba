-- A column form of a literal is 1 where the literal is true, else 0.
use Rattle.std.proofs.Common.{rules, ◌≡◌, ◌≢◌, ◌∙◌, refl, sym, ap, arith, ℕ, suc, ◌<◌, ◌≤◌, ◌+◌, Bool, true, false, cond, not, Option, Some, None, List, [], ◌∷◌, length, get_or, inl, inr, ◌⊎◌}
use Rattle.std.specs.Prelude.{ℤ, pos, negsuc, ◌+ℤ◌, ◌*ℤ◌, ◌<ℤ◌, ◌≤ℤ◌, int_le, nat_lt, nat_le, AllPairs, filter, ◌&&◌, unsigned_abs, IfSome}
use Rattle.std.specs.Ordering.{int_eq}
use Rattle.std.proofs.lemmas.Int.{ints}
use Rattle.std.proofs.lemmas.Bool.{and_parts}
use Rattle.std.proofs.Math.IntN.{*ℤ-zero}
use Rattle.sm_kinds.specs.declared.var.Var.{Var as Variable}
use Rattle.sm_kinds.specs.declared.var.VarKind.{VarKind}
use Rattle.sm_kinds.specs.declared.var.VarKind.TheVariants.{Set, Int, Real}
use Rattle.sm_kinds.specs.declared.literal.Literal.{Literal}
use Rattle.sm_kinds.specs.declared.literal.Test.{Test}
use Rattle.sm_kinds.specs.declared.literal.Test.TheVariants.{AtMost, AtLeast, Equal, Unequal}
use Rattle.sm_kinds.specs.Literals.{passes, passes_test, is_true}
use Rattle.sm_kinds.specs.Vars.{IsOneOf, IsBetween as LiesBetween, LiesIn, IsDomain, IsDiscrete, var_at, no_var, first_of, last_of}
use Rattle.sm_kinds.specs.Points.{Point}
use Rattle.sm_kinds.proofs.Multiples.{times_le, times_eq, times_cancel}
use Rattle.sm_flat.specs.Models.{FlatModel}
use Rattle.sm_flat.specs.Limits.{IsFlat}
use Rattle.sm_flat.specs.Solutions.{Fits}
use Rattle.sm_store.proofs.Orders.{rising_pairs}
use Rattle.sm_store.proofs.Exactness.{test_scaled}
use Rattle.sm_step.specs.declared.row.Col.TheVariants.{Is}
use Rattle.sm_rows.specs.declared.form.ColumnForm.{ColumnForm}
use Rattle.sm_rows.specs.Rows.{column_at, row_sum}
use Rattle.sm_rows.specs.Links.{is_listed_kind, some_links, is_linked}
use Rattle.sm_rows.specs.Terms.{weight}
use Rattle.sm_rows.specs.Forms.{form_at, form_weight, is_binary, binary_form, indicators, same_each, equality, sum_form, less_form, linked_form, form_of}
use Rattle.sm_rows.proofs.Sums.{zero_left}
use Rattle.sm_rows.proofs.Between.{one_of_at, low_le, le_high}

-- ---- a whole value between the ends of its declared domain

pub record WholeBetween (n d low high : ℤ) : Type 0 where
  pub value : ℤ
  pub is : n ≡ value *ℤ d
  pub least : low ≤ℤ value
  pub most : value ≤ℤ high

range_whole : (vs : List ℤ) (n d z : ℤ) → pos 0 <ℤ d → length vs ≡ 2 → LiesBetween n d vs → n ≡ z *ℤ d → WholeBetween n d (first_of vs) (last_of vs)
range_whole [] n d z p two h is = absurd h
range_whole (v ∷ []) n d z p two h is = absurd h
range_whole (low ∷ high ∷ []) n d z p two h is =
    let first = times_le low z d (omega (arith, ints)) in
    let second = times_le z high d (omega (arith, ints)) in
    let one : (low *ℤ d) ≤ℤ (z *ℤ d) = rw (← is) h.0 in
    let more : (z *ℤ d) ≤ℤ (high *ℤ d) = rw (← is) h.1 in
    record { value = z; is = is; least = grind (arith, ints, first, one); most = grind (arith, ints, second, more) }
range_whole (low ∷ high ∷ v ∷ vs) n d z p two h is = absurd (omega (arith, two))

pub whole_between : (kind : VarKind) (vs : List ℤ) (n d : ℤ) → pos 0 <ℤ d → IsDomain kind vs → kind ≢ Real → LiesIn kind vs n d → WholeBetween n d (first_of vs) (last_of vs)
whole_between Set vs n d p domain discrete h =
    let at = one_of_at n d vs h in
    let pairs = rising_pairs vs domain.rising in
    record { value = get_or vs at.place (pos 0); is = at.is; least = low_le vs pairs at.place at.within; most = le_high vs pairs at.place at.within }
whole_between Int vs n d p domain discrete h = range_whole vs n d h.1.0 p domain.two h.0 h.1.1
whole_between Real vs n d p domain discrete h = absurd (discrete refl)

-- the literal is true where it is true of the whole value
true_of_value : (a : Point) (l : Literal) (z : ℤ) → pos 0 <ℤ a.denominator → a.numerator l.var ≡ z *ℤ a.denominator → is_true a l ≡ passes l z
true_of_value a l z p is = rw is (test_scaled l.test l.bound z a.denominator p)

-- ---- variables declared within 0 to 1

at_zero : (a : Point) (v : ℕ) (t u : Bool) → a.numerator v ≡ pos 0 → form_at a (binary_form v t u) ≡ cond t a.denominator (pos 0)
at_zero a v false false e = rw (zero_left a.denominator) (omega (arith, ints))
at_zero a v false true e = rw (zero_left a.denominator, e) (omega (arith, ints))
at_zero a v true false e = rw e (omega (arith, ints))
at_zero a v true true e = omega (arith, ints)

at_one : (a : Point) (v : ℕ) (t u : Bool) → a.numerator v ≡ a.denominator → form_at a (binary_form v t u) ≡ cond u a.denominator (pos 0)
at_one a v false false e = rw (zero_left a.denominator) (omega (arith, ints))
at_one a v false true e = rw (zero_left a.denominator, e) (omega (arith, ints))
at_one a v true false e = rw e (omega (arith, ints))
at_one a v true true e = omega (arith, ints)

binary_law : (a : Point) (l : Literal) (z : ℤ) → pos 0 <ℤ a.denominator → a.numerator l.var ≡ z *ℤ a.denominator → pos 0 ≤ℤ z → z ≤ℤ pos 1 → form_at a (binary_form l.var (passes l (pos 0)) (passes l (pos 1))) ≡ cond (is_true a l) a.denominator (pos 0)
binary_law a l z p is low high = by_value (cases z low high)
  where
    cases : (z : ℤ) → pos 0 ≤ℤ z → z ≤ℤ pos 1 → (z ≡ pos 0) ⊎ (z ≡ pos 1)
    cases z low high = grind (arith, ints)

    by_value : (z ≡ pos 0) ⊎ (z ≡ pos 1) → form_at a (binary_form l.var (passes l (pos 0)) (passes l (pos 1))) ≡ cond (is_true a l) a.denominator (pos 0)
    by_value (inl e) =
        let here : a.numerator l.var ≡ pos 0 *ℤ a.denominator = rw (← e) is in
        rw (true_of_value a l (pos 0) p here) (at_zero a l.var (passes l (pos 0)) (passes l (pos 1)) (here ∙ zero_left a.denominator))
    by_value (inr e) =
        let here : a.numerator l.var ≡ pos 1 *ℤ a.denominator = rw (← e) is in
        rw (true_of_value a l (pos 1) p here) (at_one a l.var (passes l (pos 0)) (passes l (pos 1)) (omega (arith, ints, here)))

-- ---- sums of indicators

-- each is above the one before it, and the first above this number
abbrev pub Rises : ℤ → List ℤ → Type 0
Rises low [] = Unit {0}
Rises low (w ∷ ws) = (low <ℤ w) × Rises w ws

pub pairs_tail : (w : ℤ) (ws : List ℤ) → AllPairs (λ (x y : ℤ). x <ℤ y) (w ∷ ws) → AllPairs (λ (x y : ℤ). x <ℤ y) ws
pairs_tail w ws pairs i j d less lt = pairs (suc i) (suc j) d (omega arith) (omega arith)

pub rises_of : (w : ℤ) (ws : List ℤ) → AllPairs (λ (x y : ℤ). x <ℤ y) (w ∷ ws) → Rises w ws
rises_of w [] pairs = tt
rises_of w (x ∷ xs) pairs = (pairs 0 1 (pos 0) (omega arith) (omega arith), rises_of x xs (pairs_tail w (x ∷ xs) pairs))

indicator_off : (a : Point) (v : ℕ) (u w : ℤ) → pos 0 <ℤ a.denominator → a.numerator v ≡ u *ℤ a.denominator → u <ℤ w → column_at a (Is v w) ≡ pos 0
indicator_off a v u w p is less =
    let same = times_eq u w a.denominator (omega (arith, ints)) in
    let other : int_eq u w ≡ false = grind (arith, ints) in
    rw (is, same, other) refl

indicator_before : (a : Point) (v : ℕ) (u w : ℤ) → pos 0 <ℤ a.denominator → a.numerator v ≡ u *ℤ a.denominator → w <ℤ u → column_at a (Is v w) ≡ pos 0
indicator_before a v u w p is less =
    let same = times_eq u w a.denominator (omega (arith, ints)) in
    let other : int_eq u w ≡ false = grind (arith, ints) in
    rw (is, same, other) refl

indicator_on : (a : Point) (v : ℕ) (u : ℤ) → a.numerator v ≡ u *ℤ a.denominator → column_at a (Is v u) ≡ a.denominator
indicator_on a v u is =
    let n = u *ℤ a.denominator in
    let test : int_eq (u *ℤ a.denominator) (u *ℤ a.denominator) ≡ true = self (u *ℤ a.denominator) in
    rw (is, test) refl
  where
    self : (x : ℤ) → int_eq x x ≡ true
    self x = grind (arith, ints)

module _ (a : Point) (v : ℕ) (f : ℤ → ℤ) (test : ℤ → Bool) where
  kept_sum : List ℤ → ℤ
  kept_sum ws = row_sum a (indicators v f (filter test ws))

  -- a value whose indicator is 0 adds nothing
  skipped : (w : ℤ) (ws : List ℤ) → column_at a (Is v w) ≡ pos 0 → row_sum a (indicators v f (filter test (w ∷ ws))) ≡ row_sum a (indicators v f (filter test ws))
  skipped w ws off = by_test (test w)
    where
      by_test : (b : Bool) → row_sum a (indicators v f (cond b (w ∷ filter test ws) (filter test ws))) ≡ row_sum a (indicators v f (filter test ws))
      by_test true = rw (off, *ℤ-zero (f w)) (omega (arith, ints))
      by_test false = refl

  -- the value of the assignment adds its coefficient, if it is kept
  added : (w : ℤ) (ws : List ℤ) → column_at a (Is v w) ≡ a.denominator → row_sum a (indicators v f (filter test ws)) ≡ pos 0 → row_sum a (indicators v f (filter test (w ∷ ws))) ≡ cond (test w) (f w *ℤ a.denominator) (pos 0)
  added w ws on none = by_test (test w)
    where
      by_test : (b : Bool) → row_sum a (indicators v f (cond b (w ∷ filter test ws) (filter test ws))) ≡ cond b (f w *ℤ a.denominator) (pos 0)
      by_test true = rw on (omega (arith, ints, none))
      by_test false = none

  missing : (u low : ℤ) (ws : List ℤ) → pos 0 <ℤ a.denominator → a.numerator v ≡ u *ℤ a.denominator → u ≤ℤ low → Rises low ws → row_sum a (indicators v f (filter test ws)) ≡ pos 0
  missing u low [] p is le rises = refl
  missing u low (w ∷ ws) p is le rises =
      skipped w ws (indicator_off a v u w p is (omega (arith, ints, rises.0, le))) ∙ missing u w ws p is (omega (arith, ints, rises.0, le)) rises.1

  above : (u low : ℤ) (ws : List ℤ) → pos 0 <ℤ a.denominator → Rises low ws → IsOneOf (u *ℤ a.denominator) a.denominator ws → low <ℤ u
  above u low [] p rises h = absurd h
  above u low (w ∷ ws) p rises (inl here) =
      let same : u ≡ w = times_cancel u w a.denominator (omega (arith, ints)) here in omega (arith, ints, rises.0, same)
  above u low (w ∷ ws) p rises (inr there) = let more = above u w ws p rises.1 there in omega (arith, ints, rises.0, more)

  -- The indicators of the kept values, each with its coefficient, are the coefficient of the assignment's value, if that is kept.
  pub indicators_sum : (u : ℤ) (ws : List ℤ) → pos 0 <ℤ a.denominator → a.numerator v ≡ u *ℤ a.denominator → IsOneOf (u *ℤ a.denominator) a.denominator ws → AllPairs (λ (x y : ℤ). x <ℤ y) ws → row_sum a (indicators v f (filter test ws)) ≡ cond (test u) (f u *ℤ a.denominator) (pos 0)
  indicators_sum u [] p is h pairs = absurd h
  indicators_sum u (w ∷ ws) p is (inl here) pairs =
      let same : u ≡ w = times_cancel u w a.denominator (omega (arith, ints)) here in
      let on : column_at a (Is v w) ≡ a.denominator = rw (← same) (indicator_on a v u is) in
      let rises = rises_of w ws pairs in
      rw same (added w ws on (missing u w ws p is (omega (arith, ints, same)) rises))
  indicators_sum u (w ∷ ws) p is (inr there) pairs =
      let less = above u w ws p (rises_of w ws pairs) there in
      skipped w ws (indicator_before a v u w p is less) ∙ indicators_sum u ws p is there (pairs_tail w ws pairs)

-- ---- linked variables

sum_law : (a : Point) (l : Literal) (u : ℤ) (ws : List ℤ) → pos 0 <ℤ a.denominator → a.numerator l.var ≡ u *ℤ a.denominator → IsOneOf (u *ℤ a.denominator) a.denominator ws → AllPairs (λ (x y : ℤ). x <ℤ y) ws → form_at a (sum_form l ws) ≡ cond (is_true a l) a.denominator (pos 0)
sum_law a l u ws p is h pairs =
    let sum = indicators_sum a l.var (same_each (pos 1)) (passes l) u ws p is h pairs in
    rw (true_of_value a l u p is, zero_left a.denominator, sum) (by_test (passes l u))
  where
    by_test : (b : Bool) → pos 0 +ℤ cond b (pos 1 *ℤ a.denominator) (pos 0) ≡ cond b a.denominator (pos 0)
    by_test true = omega (arith, ints)
    by_test false = refl

less_law : (a : Point) (l : Literal) (u : ℤ) (ws : List ℤ) → l.test ≡ Unequal → pos 0 <ℤ a.denominator → a.numerator l.var ≡ u *ℤ a.denominator → IsOneOf (u *ℤ a.denominator) a.denominator ws → AllPairs (λ (x y : ℤ). x <ℤ y) ws → form_at a (less_form l ws) ≡ cond (is_true a l) a.denominator (pos 0)
less_law a l u ws other p is h pairs =
    let sum = indicators_sum a l.var (same_each (negsuc 0)) (passes (equality l)) u ws p is h pairs in
    let truth : is_true a l ≡ not (int_eq u l.bound) = true_of_value a l u p is ∙ ap (λ (t : Test). passes_test t l.bound u) other in
    rw (truth, sum) (by_test (int_eq u l.bound))
  where
    by_test : (b : Bool) → (pos 1 *ℤ a.denominator) +ℤ cond b (negsuc 0 *ℤ a.denominator) (pos 0) ≡ cond (not b) a.denominator (pos 0)
    by_test true = omega (arith, ints)
    by_test false = omega (arith, ints)

linked_law : (t : Test) (a : Point) (l : Literal) (u : ℤ) (ws : List ℤ) → l.test ≡ t → pos 0 <ℤ a.denominator → a.numerator l.var ≡ u *ℤ a.denominator → IsOneOf (u *ℤ a.denominator) a.denominator ws → AllPairs (λ (x y : ℤ). x <ℤ y) ws → form_at a (linked_form t l ws) ≡ cond (is_true a l) a.denominator (pos 0)
linked_law AtMost a l u ws e p is h pairs = sum_law a l u ws p is h pairs
linked_law AtLeast a l u ws e p is h pairs = sum_law a l u ws p is h pairs
linked_law Equal a l u ws e p is h pairs = sum_law a l u ws p is h pairs
linked_law Unequal a l u ws e p is h pairs = less_law a l u ws e p is h pairs

pub listed_kind : (k : VarKind) → is_listed_kind k ≡ true → k ≡ Set
listed_kind Set e = refl
listed_kind Int e = absurd (cc)
listed_kind Real e = absurd (cc)

-- what is known of a linked variable
pub record Linked (m : FlatModel) (v : ℕ) : Type 0 where
  pub known : v < length m.vars
  pub kind : (var_at m.vars v).kind ≡ Set
  pub few : length (var_at m.vars v).values ≤ 64

pub linked_parts : (m : FlatModel) (v : ℕ) → is_linked m v ≡ true → Linked m v
linked_parts m v e =
    let one = and_parts (nat_lt v (length m.vars)) (is_listed_kind (var_at m.vars v).kind && (nat_le (length (var_at m.vars v).values) 64 && some_links v m.constraints)) e in
    let two = and_parts (is_listed_kind (var_at m.vars v).kind) (nat_le (length (var_at m.vars v).values) 64 && some_links v m.constraints) one.1 in
    let three = and_parts (nat_le (length (var_at m.vars v).values) 64) (some_links v m.constraints) two.1 in
    let less = one.0 in let few = three.0 in
    record { known = grind arith; kind = listed_kind (var_at m.vars v).kind two.0; few = grind arith }

-- the value of a linked variable is one of its declared ones, which rise
pub record LinkedValue (m : FlatModel) (a : Point) (v : ℕ) : Type 0 where
  pub value : ℤ
  pub is : a.numerator v ≡ value *ℤ a.denominator
  pub one : IsOneOf (value *ℤ a.denominator) a.denominator (var_at m.vars v).values
  pub pairs : AllPairs (λ (x y : ℤ). x <ℤ y) (var_at m.vars v).values

listed_value : (kind : VarKind) (vs : List ℤ) (n d : ℤ) → kind ≡ Set → LiesIn kind vs n d → IsOneOf n d vs
listed_value Set vs n d e h = h
listed_value Int vs n d e h = absurd (cc)
listed_value Real vs n d e h = absurd (cc)

listed_pairs : (kind : VarKind) (vs : List ℤ) → kind ≡ Set → IsDomain kind vs → AllPairs (λ (x y : ℤ). x <ℤ y) vs
listed_pairs Set vs e h = rising_pairs vs h.rising
listed_pairs Int vs e h = absurd (cc)
listed_pairs Real vs e h = absurd (cc)

pub linked_value : (m : FlatModel) (a : Point) (v : ℕ) → IsFlat m → Fits m a → Linked m v → LinkedValue m a v
linked_value m a v flat fits linked =
    let x = var_at m.vars v in
    let lies = listed_value x.kind x.values (a.numerator v) a.denominator linked.kind (fits.lies v linked.known) in
    let at = one_of_at (a.numerator v) a.denominator x.values lies in
    record {
      value = get_or x.values at.place (pos 0);
      is = at.is;
      one = rw at.is at lies;
      pairs = listed_pairs x.kind x.values linked.kind (flat.vars.each v no_var linked.known);
    }

-- ---- literals

binary_parts : (vars : List Variable) (i : ℕ) → is_binary vars i ≡ true → (i < length vars) × (pos 0 ≤ℤ first_of (var_at vars i).values) × (last_of (var_at vars i).values ≤ℤ pos 1)
binary_parts vars i e =
    let one = and_parts (nat_lt i (length vars)) (int_le (pos 0) (first_of (var_at vars i).values) && int_le (last_of (var_at vars i).values) (pos 1)) e in
    let two = and_parts (int_le (pos 0) (first_of (var_at vars i).values)) (int_le (last_of (var_at vars i).values) (pos 1)) one.1 in
    let less = one.0 in let low = two.0 in let high = two.1 in
    (grind arith, grind (arith, ints), grind (arith, ints))

pub binary_is : (m : FlatModel) (l : Literal) (f : ColumnForm) → is_binary m.vars l.var ≡ true → f ≡ binary_form l.var (passes l (pos 0)) (passes l (pos 1)) → form_of m l ≡ Some f
binary_is m l f e same = rw (e, same) refl

pub linked_is : (m : FlatModel) (l : Literal) (f : ColumnForm) → is_binary m.vars l.var ≡ false → is_linked m l.var ≡ true → f ≡ linked_form l.test l (var_at m.vars l.var).values → form_of m l ≡ Some f
linked_is m l f e linked same = rw (e, linked, same) refl

-- what a form of a literal is: that of a variable within 0 to 1, or that of a linked one
pub data IsFormOf (m : FlatModel) (l : Literal) (f : ColumnForm) : Type 0 where
  binary : is_binary m.vars l.var ≡ true → f ≡ binary_form l.var (passes l (pos 0)) (passes l (pos 1)) → IsFormOf m l f
  linked : is_linked m l.var ≡ true → f ≡ linked_form l.test l (var_at m.vars l.var).values → IsFormOf m l f

some_is : (f g : ColumnForm) → Some f ≡ Some g → g ≡ f
some_is f g e = cc

form_cases : (m : FlatModel) (l : Literal) (f : ColumnForm) → form_of m l ≡ Some f → IsFormOf m l f
form_cases m l f e = by_test (is_binary m.vars l.var) (is_linked m l.var) refl refl e
  where
    by_test : (b c : Bool) → is_binary m.vars l.var ≡ b → is_linked m l.var ≡ c → cond b (Some (binary_form l.var (passes l (pos 0)) (passes l (pos 1)))) (cond c (Some (linked_form l.test l (var_at m.vars l.var).values)) None) ≡ Some f → IsFormOf m l f
    by_test true c x y e = binary x (some_is _ f e)
    by_test false true x y e = linked y (some_is _ f e)
    by_test false false x y e = absurd (cc)

-- The form of a literal is 1 where the literal is true, else 0, at each assignment that fits.
pub form_law : (m : FlatModel) (l : Literal) (f : ColumnForm) → IsFlat m → form_of m l ≡ Some f → (a : Point) → Fits m a → IsDiscrete m.vars l.var → form_at a f ≡ cond (is_true a l) a.denominator (pos 0)
form_law m l f flat e a fits discrete = by_case (form_cases m l f e)
  where
    by_case : IsFormOf m l f → form_at a f ≡ cond (is_true a l) a.denominator (pos 0)
    by_case (binary x same) =
        let v = var_at m.vars l.var in
        let parts = binary_parts m.vars l.var x in
        let at = whole_between v.kind v.values (a.numerator l.var) a.denominator fits.positive (flat.vars.each l.var no_var parts.0) discrete.kind (fits.lies l.var parts.0) in
        let low = parts.1 in let high = parts.2 in
        rw same (binary_law a l at.value fits.positive at.is (omega (arith, ints, low, at.least)) (omega (arith, ints, high, at.most)))
    by_case (linked y same) =
        let at = linked_value m a l.var flat fits (linked_parts m l.var y) in
        rw same (linked_law l.test a l at.value (var_at m.vars l.var).values refl fits.positive at.is at.one at.pairs)

indicators_weight : (v : ℕ) (k : ℤ) (test : ℤ → Bool) (ws : List ℤ) → unsigned_abs k ≤ 1 → weight (indicators v (same_each k) (filter test ws)) ≤ length ws
indicators_weight v k test [] small = omega arith
indicators_weight v k test (w ∷ ws) small = by_test (test w) (indicators_weight v k test ws small)
  where
    by_test : (b : Bool) → weight (indicators v (same_each k) (filter test ws)) ≤ length ws → weight (indicators v (same_each k) (cond b (w ∷ filter test ws) (filter test ws))) ≤ suc (length ws)
    by_test true rest = omega (arith, rest)
    by_test false rest = omega (arith, rest)

linked_small : (t : Test) (l : Literal) (ws : List ℤ) → form_weight (linked_form t l ws) ≤ length ws + 1
linked_small AtMost l ws = omega (arith, indicators_weight l.var (pos 1) (passes l) ws (omega arith))
linked_small AtLeast l ws = omega (arith, indicators_weight l.var (pos 1) (passes l) ws (omega arith))
linked_small Equal l ws = omega (arith, indicators_weight l.var (pos 1) (passes l) ws (omega arith))
linked_small Unequal l ws = omega (arith, indicators_weight l.var (negsuc 0) (passes (equality l)) ws (omega arith))

binary_small : (v : ℕ) (t u : Bool) → form_weight (binary_form v t u) ≤ 2
binary_small v false false = omega arith
binary_small v false true = omega arith
binary_small v true false = omega arith
binary_small v true true = omega arith

pub form_small : (m : FlatModel) (l : Literal) (f : ColumnForm) → form_of m l ≡ Some f → form_weight f ≤ 65
form_small m l f e = by_case (form_cases m l f e)
  where
    by_case : IsFormOf m l f → form_weight f ≤ 65
    by_case (binary x same) = rw same (omega (arith, binary_small l.var (passes l (pos 0)) (passes l (pos 1))))
    by_case (linked y same) =
        let few = (linked_parts m l.var y).few in
        rw same (omega (arith, few, linked_small l.test l (var_at m.vars l.var).values))

-- the same of what may be a form
pub if_small : (m : FlatModel) (l : Literal) (o : Option ColumnForm) → o ≡ form_of m l → IfSome o (λ (f : ColumnForm). form_weight f ≤ 65)
if_small m l None e = search rules
if_small m l (Some f) e = form_small m l f (sym e)

pub if_law : (m : FlatModel) (l : Literal) (o : Option ColumnForm) → IsFlat m → o ≡ form_of m l → IfSome o (λ (f : ColumnForm). (a : Point) → Fits m a → IsDiscrete m.vars l.var → form_at a f ≡ cond (is_true a l) a.denominator (pos 0))
if_law m l None flat e = search rules
if_law m l (Some f) flat e = form_law m l f flat (sym e)

-- the declared values of a linked variable rise
pub linked_pairs : (m : FlatModel) (v : ℕ) → IsFlat m → Linked m v → AllPairs (λ (x y : ℤ). x <ℤ y) (var_at m.vars v).values
linked_pairs m v flat known = listed_pairs (var_at m.vars v).kind (var_at m.vars v).values known.kind (flat.vars.each v no_var known.known)

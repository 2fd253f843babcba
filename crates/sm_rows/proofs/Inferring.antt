-- What a rule concludes of a store is so of each of its assignments that satisfies the constraint: each literal is true, and where
-- it closes there is none.
use Rattle.std.proofs.Common.{◌≡◌, ℕ, ◌≤◌, ◌^◌, ◌<◌, ◌⊎◌, zero, suc, Bool, true, false, cond, List, [], ◌∷◌, length, get_or, refl, arith, sym, subst, ◌∙◌, inl, inr, get_or-set_same, get_or-set_other}
use Rattle.std.specs.Prelude.{ℤ, pos, ◌*ℤ◌, ◌<ℤ◌, ◌≢◌, unsigned_abs, ◌||◌, ◌&&◌, All, Option, Some, None, slice_get, MatchOption}
use Rattle.std.proofs.lemmas.Int.{ints}
use Rattle.std.proofs.lemmas.Bool.{cases_eq, cases_lt}
use Rattle.std.proofs.lemmas.List.{length-set, set_past}
use Rattle.std.proofs.lemmas.List.Elements.{All-nil, All-cons, All-head, All-tail, All-weaker}
use Rattle.sm_flat.specs.Limits.{IsFlat}
use Rattle.sm_kinds.specs.declared.literal.Literal.{Literal}
use Rattle.sm_kinds.specs.declared.linear.LinRow.{LinRow}
use Rattle.sm_kinds.specs.declared.logic.Clause.{Clause}
use Rattle.sm_kinds.specs.declared.var.VarKind.{VarKind}
use Rattle.sm_kinds.specs.declared.var.VarKind.TheVariants.{Set, Int, Real}
use Rattle.sm_kinds.specs.Literals.{passes, is_true, complement, IsLiteral}
use Rattle.sm_kinds.specs.Vars.{IsOneOf, IsBetween, LiesIn}
use Rattle.sm_kinds.specs.Points.{Point}
use Rattle.sm_kinds.specs.Linear.{SatLinear}
use Rattle.sm_kinds.specs.Logic.{IsClause, has_true, satisfies_each}
use Rattle.sm_kinds.specs.When.{IsWhen, SatWhen, all_true}
use Rattle.sm_kinds.specs.Limits.{greatest_number, greatest_clause_bound}
use Rattle.sm_flat.specs.declared.form.Constraint.{Constraint}
use Rattle.sm_flat.specs.declared.form.Form.{Form}
use Rattle.sm_flat.specs.declared.form.Form.TheVariants as form
use Rattle.sm_flat.specs.Forms.{Sat, IsForm, IsConstraint}
use Rattle.sm_flat.specs.Models.{FlatModel}
use Rattle.sm_store.specs.Stores.{Extent, no_extent, extent_at, In, IsStoreOf, kept, narrow, narrowed, is_empty, agreed, TightensEach, narrow_all}
use Rattle.sm_store.proofs.Narrowing.{passes_or}
use Rattle.sm_store.proofs.Exactness.{test_scaled, kept_true, In-true}
use Rattle.sm_store.proofs.Ranges.{times_back}
use Rattle.sm_step.specs.declared.rule.Rule.{Rule}
use Rattle.sm_step.specs.declared.rule.Rule.TheVariants as rule
use Rattle.sm_step.specs.declared.line.Outcome.TheVariants.{Close, Literals}
use Rattle.sm_rows.specs.Halves.{Bounded, half_of, HalfHolds, FallsShort, IsTooLittle}
use Rattle.sm_rows.specs.Inferences.{CutsOnly, IsTrueIn, IsFalseIn, SumCuts, AllFalse, IsLastOf, AllTrue, WhenCuts, Closes, Infers, Concludes, IsInference, constraint_of}
use Rattle.sm_rows.specs.Whole.{AreOrdered, IsWholeVar, AreNear}
use Rattle.sm_rows.proofs.Greatest.{none_short, none_little, HasHalf, half_in}

-- ---- a value is whole

-- the fraction is a whole number that lies in the domain
pub record IsWholeIn (kind : VarKind) (vs : List ℤ) (n d : ℤ) : Type 0 where
  pub number : ℤ
  pub is : n ≡ number *ℤ d
  pub lies : LiesIn kind vs number (pos 1)

one_whole : (n d : ℤ) (vs : List ℤ) → IsOneOf n d vs → IsWholeIn Set vs n d
one_whole n d [] h = absurd h
one_whole n d (v ∷ vs) (inl here) = record { number = v; is = here; lies = inl (omega (arith, ints)) }
one_whole n d (v ∷ vs) (inr there) = let w = one_whole n d vs there in record { number = w.number; is = w.is; lies = inr w.lies }

between_whole : (n d z : ℤ) (vs : List ℤ) → pos 0 <ℤ d → n ≡ z *ℤ d → IsBetween n d vs → IsBetween z (pos 1) vs
between_whole n d z [] p is h = absurd h
between_whole n d z (v ∷ []) p is h = absurd h
between_whole n d z (low ∷ high ∷ vs) p is h =
    let least = times_back low z d p (rw is at h.0) in
    let most = times_back z high d p (rw is at h.1) in
    (omega (arith, ints, least), omega (arith, ints, most))

pub whole_in : (kind : VarKind) (vs : List ℤ) (n d : ℤ) → pos 0 <ℤ d → kind ≢ Real → LiesIn kind vs n d → IsWholeIn kind vs n d
whole_in Set vs n d p discrete h = one_whole n d vs h
whole_in Int vs n d p discrete h = record {
  number = h.1.0;
  is = h.1.1;
  lies = (between_whole n d h.1.0 vs p h.1.1 h.0, (h.1.0, omega (arith, ints)));
}
whole_in Real vs n d p discrete h = absurd (discrete refl)

pub lies_none : (kind : VarKind) (vs : List ℤ) (n d : ℤ) → is_empty vs ≡ true → LiesIn kind vs n d → ⊥
lies_none Set [] n d e h = absurd h
lies_none Int [] n d e h = absurd h.0
lies_none Real [] n d e h = absurd h
lies_none kind (v ∷ vs) n d e h = absurd (cc)

-- ---- what a store says of a literal is so of its assignments

false_from : (none p q : Bool) → cond none None (agreed p q) ≡ Some false → q ≡ true
false_from true p q e = absurd (cc)
false_from false true true e = refl
false_from false true false e = absurd (cc)
false_from false false true e = refl
false_from false false false e = absurd (cc)

true_from : (none p q : Bool) → cond none None (agreed p q) ≡ Some true → p ≡ true
true_from true p q e = absurd (cc)
true_from false true true e = refl
true_from false true false e = refl
true_from false false true e = absurd (cc)
true_from false false false e = absurd (cc)

not_true : (b : Bool) → (b ≡ true → ⊥) → b ≡ false
not_true true h = absurd (h refl)
not_true false h = refl

not_false : (b : Bool) → (b ≡ false → ⊥) → b ≡ true
not_false true h = refl
not_false false h = absurd (h refl)

module _ (a : Point) (store : List Extent) (above : pos 0 <ℤ a.denominator) (lies : In a store) where
  -- a literal that leaves nothing of its variable's domain is false
  none_true : (l : Literal) → l.var < length store → is_empty (narrowed l (extent_at store l.var)).values ≡ true → is_true a l ≡ false
  none_true l lt none =
      let e = extent_at store l.var in
      not_true (is_true a l) (λ holds. lies_none e.kind (kept e.kind l e.values) (a.numerator l.var) a.denominator none (kept_true e.kind l (a.numerator l.var) a.denominator e.values above holds (lies l.var lt)))

  pub false_of : (l : Literal) → l.var < length store → IsFalseIn store l → is_true a l ≡ false
  false_of l lt e = none_true l lt (false_from _ _ _ e)

  -- what a whole value of the literal's variable passes is true of it
  value_passes : (l : Literal) (x : ℤ) → a.numerator l.var ≡ x *ℤ a.denominator → is_true a l ≡ passes l x
  value_passes l x is = rw is (test_scaled l.test l.bound x a.denominator above)

  either_true : (l : Literal) → l.var < length store → (extent_at store l.var).kind ≢ Real → (is_true a l ≡ true) ⊎ (is_true a (complement l) ≡ true)
  either_true l lt discrete =
      let e = extent_at store l.var in
      let w = whole_in e.kind e.values (a.numerator l.var) a.denominator above discrete (lies l.var lt) in
      elim (passes_or l w.number) [
        | inl holds ↦ inl (value_passes l w.number w.is ∙ holds)
        | inr fails ↦ inr (value_passes (complement l) w.number w.is ∙ fails)
      ]

  pub true_of : (l : Literal) → l.var < length store → (extent_at store l.var).kind ≢ Real → IsTrueIn store l → is_true a l ≡ true
  true_of l lt discrete e =
      let other = none_true (complement l) lt (true_from _ _ _ e) in
      elim (either_true l lt discrete) [
        | inl holds ↦ holds
        | inr fails ↦ absurd (cc)
      ]

  -- a literal that cuts only values which the assignment hasn't is true
  pub cut_true : (P : ℤ → Type 0) (l : Literal) → l.var < length store → (extent_at store l.var).kind ≢ Real → CutsOnly P store l → ((x : ℤ) → a.numerator l.var ≡ x *ℤ a.denominator → P x → ⊥) → is_true a l ≡ true
  cut_true P l lt discrete cuts apart =
      let e = extent_at store l.var in
      let w = whole_in e.kind e.values (a.numerator l.var) a.denominator above discrete (lies l.var lt) in
      value_passes l w.number w.is ∙ not_false (passes l w.number) (λ fails. apart w.number w.is (cuts w.number w.lies fails))

  -- ---- narrowing by what is true keeps the assignment

  narrow_keeps : (l : Literal) → l.var < length store → is_true a l ≡ true → In a (narrow store l)
  narrow_keeps l lt holds = In-true a store l above lt lies holds

pub all_kept : (a : Point) (store : List Extent) (ls : List Literal) → pos 0 <ℤ a.denominator → In a store → TightensEach store ls → All (λ l. is_true a l ≡ true) ls → In a (narrow_all store ls)
all_kept a store [] above lies each holds = lies
all_kept a store (l ∷ ls) above lies each holds =
    all_kept a (narrow store l) ls above (narrow_keeps a store above lies l each.0.known (All-head (λ l. is_true a l ≡ true) l ls holds)) each.1 (All-tail (λ l. is_true a l ≡ true) l ls holds)

-- ---- sum

module _ (a : Point) (store : List Extent) (above : pos 0 <ℤ a.denominator) (ordered : AreOrdered store) (lies : In a store) where
  sum_true : (half : Bounded) (l : Literal) → l.var < length store → (extent_at store l.var).kind ≢ Real → All (λ t. t.0 < length store) half.terms → SumCuts store l half → HalfHolds half a → is_true a l ≡ true
  sum_true half l lt discrete known (i, t, within, is, of) holds =
      cut_true a store above lies (IsTooLittle store half t) l lt discrete of.1
      (λ x value little. none_little a store above ordered lies half i t x known within is (rw of.0 value) little holds)

  row_closes : (row : LinRow) (d : ℕ) → All (λ t. t.0 < length store) row.terms → MatchOption (half_of row d) ⊥ (FallsShort store) → SatLinear row a → ⊥
  row_closes row d known h sat =
      let half = half_in (length store) row d a (FallsShort store) known h in
      none_short a store above ordered lies half.half half.known half.has (half.holds sat)

  row_true : (row : LinRow) (d : ℕ) (l : Literal) → l.var < length store → (extent_at store l.var).kind ≢ Real → All (λ t. t.0 < length store) row.terms → MatchOption (half_of row d) ⊥ (SumCuts store l) → SatLinear row a → is_true a l ≡ true
  row_true row d l lt discrete known h sat =
      let half = half_in (length store) row d a (SumCuts store l) known h in
      sum_true half.half l lt discrete half.known half.has (half.holds sat)

  -- ---- clause

  all_false : (ls : List Literal) → All (λ l. l.var < length store) ls → AllFalse store ls → has_true a ls ≡ true → ⊥
  all_false [] known none h = absurd (cc)
  all_false (l ∷ ls) known none h =
      let here = false_of a store above lies l (All-head (λ l. l.var < length store) l ls known) (All-head (IsFalseIn store) l ls none) in
      all_false ls (All-tail (λ l. l.var < length store) l ls known) (All-tail (IsFalseIn store) l ls none) (rw here at h)

  last_true : (l : Literal) (ls : List Literal) → All (λ o. o.var < length store) ls → All (λ o. (o ≡ l) ⊎ IsFalseIn store o) ls → has_true a ls ≡ true → is_true a l ≡ true
  last_true l [] known others h = absurd (cc)
  last_true l (o ∷ ls) known others h =
      by_first (last_true l ls (All-tail (λ o. o.var < length store) o ls known) (All-tail (λ o. (o ≡ l) ⊎ IsFalseIn store o) o ls others)) (All-head (λ o. (o ≡ l) ⊎ IsFalseIn store o) o ls others) (is_true a o) refl h
    where
      by_first : (has_true a ls ≡ true → is_true a l ≡ true) → (o ≡ l) ⊎ IsFalseIn store o → (b : Bool) → is_true a o ≡ b → (b || has_true a ls) ≡ true → is_true a l ≡ true
      by_first rest (inl same) true e h = subst (λ (k : Literal). is_true a k ≡ true) same e
      by_first rest (inr none) true e h =
          let false_here = false_of a store above lies o (All-head (λ o. o.var < length store) o ls known) none in
          absurd (cc)
      by_first rest either false e h = rest h

  -- ---- when

  all_hold : (ls : List Literal) → All (λ l. l.var < length store) ls → All (λ l. (extent_at store l.var).kind ≢ Real) ls → AllTrue store ls → all_true a ls ≡ true
  all_hold [] known discrete each = refl
  all_hold (l ∷ ls) known discrete each =
      let here = true_of a store above lies l (All-head (λ l. l.var < length store) l ls known) (All-head (λ l. (extent_at store l.var).kind ≢ Real) l ls discrete) (All-head (IsTrueIn store) l ls each) in
      let rest = all_hold ls (All-tail (λ l. l.var < length store) l ls known) (All-tail (λ l. (extent_at store l.var).kind ≢ Real) l ls discrete) (All-tail (IsTrueIn store) l ls each) in
      rw (here, rest) refl

  -- where the literal is false, all conditions are true, each the one whose complement it is, or true in the store
  all_but : (l : Literal) (ls : List Literal) → All (λ o. o.var < length store) ls → All (λ o. (extent_at store o.var).kind ≢ Real) ls → All (λ o. (complement o ≡ l) ⊎ IsTrueIn store o) ls → (is_true a l ≡ true → ⊥) → all_true a ls ≡ true
  all_but l [] known discrete others fails = refl
  all_but l (o ∷ ls) known discrete others fails =
      let lt = All-head (λ o. o.var < length store) o ls known in
      let whole = All-head (λ o. (extent_at store o.var).kind ≢ Real) o ls discrete in
      let here : is_true a o ≡ true = by_first lt whole (All-head (λ o. (complement o ≡ l) ⊎ IsTrueIn store o) o ls others) in
      let rest = all_but l ls (All-tail (λ o. o.var < length store) o ls known) (All-tail (λ o. (extent_at store o.var).kind ≢ Real) o ls discrete) (All-tail (λ o. (complement o ≡ l) ⊎ IsTrueIn store o) o ls others) fails in
      rw (here, rest) refl
    where
      by_first : o.var < length store → (extent_at store o.var).kind ≢ Real → (complement o ≡ l) ⊎ IsTrueIn store o → is_true a o ≡ true
      by_first lt whole (inl same) = elim (either_true a store above lies o lt whole) [
        | inl holds ↦ holds
        | inr other ↦ absurd (fails (subst (λ (k : Literal). is_true a k ≡ true) same other))
      ]
      by_first lt whole (inr in_store) = true_of a store above lies o lt whole in_store

-- ---- the rules, of a constraint that fits the model

module _ (m : FlatModel) (store : List Extent) (of : IsStoreOf m store) (a : Point) (above : pos 0 <ℤ a.denominator) (lies : In a store) where
  ordered_at : AreOrdered store
  ordered_at i lt = (of.parts i lt).ordered

  known_term : (ts : List (ℕ × ℤ)) → All (λ t. t.0 < length m.vars) ts → All (λ t. t.0 < length store) ts
  known_term ts known = rw of.wide known

  known_literals : (limit : ℕ) (ls : List Literal) → All (IsLiteral m.vars limit) ls → All (λ l. l.var < length store) ls
  known_literals limit ls fit = All-weaker (IsLiteral m.vars limit) (λ l. l.var < length store) (λ l is. rw of.wide is.discrete.known) ls fit

  whole_literals : (limit : ℕ) (ls : List Literal) → All (IsLiteral m.vars limit) ls → All (λ l. (extent_at store l.var).kind ≢ Real) ls
  whole_literals limit ls fit = All-weaker (IsLiteral m.vars limit) (λ l. (extent_at store l.var).kind ≢ Real) (λ l is real. is.discrete.kind (sym (of.parts l.var (rw of.wide is.discrete.known)).kind ∙ real)) ls fit

  -- the clause of this number is satisfied, and the same is so of it as of the place
  clause_in : (clauses : List Clause) (c : ℕ) (P : Clause → Type 0) → All (IsClause m.vars) clauses → satisfies_each a clauses ≡ true → MatchOption (slice_get clauses c) ⊥ P → (k : Clause) × IsClause m.vars k × (has_true a k.literals ≡ true) × P k
  clause_in [] c P fit sat h = absurd h
  clause_in (k ∷ ks) zero P fit sat h = (k, All-head (IsClause m.vars) k ks fit, first_true (has_true a k.literals) (satisfies_each a ks) sat, h)
    where
      first_true : (p q : Bool) → (p && q) ≡ true → p ≡ true
      first_true true q e = refl
      first_true false q e = absurd (cc)
  clause_in (k ∷ ks) (suc c) P fit sat h = clause_in ks c P (All-tail (IsClause m.vars) k ks fit) (rest_true (has_true a k.literals) (satisfies_each a ks) sat) h
    where
      rest_true : (p q : Bool) → (p && q) ≡ true → q ≡ true
      rest_true true q e = e
      rest_true false q e = absurd (cc)

  when_closes : (ls : List Literal) (row : LinRow) (d : ℕ) → IsWhen m.vars ls row → MatchOption (half_of row d) ⊥ (λ h. AllTrue store ls × FallsShort store h) → SatWhen ls row a → ⊥
  when_closes ls row d fit h sat =
      let known = known_term row.terms fit.fits.sum.known in
      let half = half_in (length store) row d a (λ h. AllTrue store ls × FallsShort store h) known h in
      let due = all_hold a store above ordered_at lies ls (known_literals greatest_number ls fit.conditions) (whole_literals greatest_number ls fit.conditions) half.has.0 in
      none_short a store above ordered_at lies half.half half.known half.has.1 (half.holds (sat due))

  when_true : (ls : List Literal) (row : LinRow) (d : ℕ) (l : Literal) → l.var < length store → (extent_at store l.var).kind ≢ Real → IsWhen m.vars ls row → MatchOption (half_of row d) ⊥ (WhenCuts store ls l) → SatWhen ls row a → is_true a l ≡ true
  when_true ls row d l lt discrete fit h sat = by_case half.has
    where
      half : HasHalf (length store) row a (WhenCuts store ls l)
      half = half_in (length store) row d a (WhenCuts store ls l) (known_term row.terms fit.fits.sum.known) h

      by_case : WhenCuts store ls l half.half → is_true a l ≡ true
      by_case (inl (each, cuts)) =
          let due = all_hold a store above ordered_at lies ls (known_literals greatest_number ls fit.conditions) (whole_literals greatest_number ls fit.conditions) each in
          sum_true a store above ordered_at lies half.half l lt discrete half.known cuts (half.holds (sat due))
      by_case (inr (short, last)) = not_false (is_true a l) (λ fails.
          let due = all_but a store above ordered_at lies l ls (known_literals greatest_number ls fit.conditions) (whole_literals greatest_number ls fit.conditions) last.others (λ holds. absurd (cc)) in
          none_short a store above ordered_at lies half.half half.known short (half.holds (sat due)))

  -- what closes has no assignment
  pub closes_none : (r : Rule) (f : Form) → IsForm m.vars f → Closes store r f → Sat f a → ⊥
  closes_none (rule.Sum k d) (form.Linear row) fit h sat = row_closes a store above ordered_at lies row d (known_term row.terms fit.sum.known) h sat
  closes_none (rule.Clause k c) (form.Logic clauses) fit h sat =
      let found = clause_in clauses c (λ (k : Clause). AllFalse store k.literals) fit.each sat h in
      all_false a store above ordered_at lies found.0.literals (known_literals greatest_clause_bound found.0.literals found.1) found.3 found.2
  closes_none (rule.When k d) (form.When ls row) fit h sat = when_closes ls row d fit h sat
  closes_none r f fit h sat = absurd h

  -- what is inferred is true
  pub infers_true : (r : Rule) (l : Literal) (f : Form) → l.var < length store → (extent_at store l.var).kind ≢ Real → IsForm m.vars f → Infers store r l f → Sat f a → is_true a l ≡ true
  infers_true (rule.Sum k d) l (form.Linear row) lt discrete fit h sat = row_true a store above ordered_at lies row d l lt discrete (known_term row.terms fit.sum.known) h sat
  infers_true (rule.Clause k c) l (form.Logic clauses) lt discrete fit h sat =
      let found = clause_in clauses c (λ (k : Clause). IsLastOf store l k.literals) fit.each sat h in
      last_true a store above ordered_at lies l found.0.literals (known_literals greatest_clause_bound found.0.literals found.1) found.3.others found.2
  infers_true (rule.When k d) l (form.When ls row) lt discrete fit h sat = when_true ls row d l lt discrete fit h sat
  infers_true r l f lt discrete fit h sat = absurd h

-- ---- a literal that changes a store is of a variable with whole values

real_stays : (l : Literal) (e : Extent) → e.kind ≡ Real → (narrowed l e).values ≡ e.values
real_stays l e real = rw real refl

kind_narrow : (store : List Extent) (l : Literal) (i : ℕ) → (extent_at (narrow store l) i).kind ≡ (extent_at store i).kind
kind_narrow store l i = elim (cases_eq i l.var) [
  | inl same ↦ elim (cases_lt l.var (length store)) [
    | inl lt ↦ rw (same, get_or-set_same store l.var (narrowed l (extent_at store l.var)) no_extent lt) refl
    | inr past ↦ rw (set_past store l.var (narrowed l (extent_at store l.var)) past) refl
  ]
  | inr other ↦ rw (get_or-set_other store l.var i (narrowed l (extent_at store l.var)) no_extent other) refl
]

-- the variables of literals that change the store in their turn
pub whole_vars : (store : List Extent) (ls : List Literal) → TightensEach store ls → All (IsWholeVar store) ls
whole_vars store [] each = All-nil (IsWholeVar store)
whole_vars store (l ∷ ls) each =
    let here : IsWholeVar store l = record { known = each.0.known; discrete = λ real. each.0.changes (real_stays l (extent_at store l.var) real) } in
    let rest = whole_vars (narrow store l) ls each.1 in
    All-cons (IsWholeVar store) l ls here (All-weaker (IsWholeVar (narrow store l)) (IsWholeVar store) (λ k is. record { known = omega (arith, is.known, length-set store l.var (narrowed l (extent_at store l.var))); discrete = λ real. is.discrete (kind_narrow store l k.var ∙ real) }) ls rest)

-- and their bounds are small
pub near_each : (store : List Extent) (ls : List Literal) → TightensEach store ls → AreNear ls
near_each store [] each = All-nil (λ (l : Literal). unsigned_abs l.bound ≤ 2 ^ 32)
near_each store (l ∷ ls) each = All-cons (λ (l : Literal). unsigned_abs l.bound ≤ 2 ^ 32) l ls each.0.bounded (near_each (narrow store l) ls each.1)

-- ---- an inference of a model

-- what is so of all is so of the one at a place
pub at_place : {X : Type 0} (P : X → Type 0) (xs : List X) (k : ℕ) (x : X) → All P xs → slice_get xs k ≡ Some x → P x
at_place P [] k x each e = absurd (cc)
at_place P (y ∷ ys) zero x each e = subst P (same y x e) (All-head P y ys each)
  where
    same : {X : Type 0} (y x : X) → Some y ≡ Some x → y ≡ x
    same y x e = cc
at_place P (y ∷ ys) (suc k) x each e = at_place P ys k x (All-tail P y ys each) e

module _ (m : FlatModel) (flat : IsFlat m) (store : List Extent) (of : IsStoreOf m store) (r : Rule) (a : Point) (above : pos 0 <ℤ a.denominator) (lies : In a store) (sat : (c : Constraint) → slice_get m.constraints (constraint_of r) ≡ Some c → Sat c.form a) where
  fits_at : (c : Constraint) → slice_get m.constraints (constraint_of r) ≡ Some c → IsForm m.vars c.form
  fits_at c e = (at_place (IsConstraint m.vars) m.constraints (constraint_of r) c flat.constraints.each e).fits

  pub inference_closes : IsInference m store r Close → ⊥
  inference_closes h = by_place (slice_get m.constraints (constraint_of r)) refl h
    where
      by_place : (found : Option Constraint) → slice_get m.constraints (constraint_of r) ≡ found → MatchOption found ⊥ (λ (c : Constraint). Concludes (Closes store r) (Infers store r) store c.form Close) → ⊥
      by_place None e h = h
      by_place (Some c) e h = closes_none m store of a above lies r c.form (fits_at c e) h (sat c e)

  pub inference_keeps : (ls : List Literal) → IsInference m store r (Literals ls) → In a (narrow_all store ls)
  inference_keeps ls h = by_place (slice_get m.constraints (constraint_of r)) refl h
    where
      by_place : (found : Option Constraint) → slice_get m.constraints (constraint_of r) ≡ found → MatchOption found ⊥ (λ (c : Constraint). Concludes (Closes store r) (Infers store r) store c.form (Literals ls)) → In a (narrow_all store ls)
      by_place None e h = absurd h
      by_place (Some c) e (some, each, turns) =
          let vars = whole_vars store ls turns in
          all_kept a store ls above lies turns
          (λ i d lt. infers_true m store of a above lies r (get_or ls i d) c.form (vars i d lt).known (vars i d lt).discrete (fits_at c e) (each i d lt) (sat c e))

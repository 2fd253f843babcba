-- What a literal leaves of a set of values, by its ends and by whether its bound is a value.
use Rattle.std.proofs.Common.{◌≡◌, ◌≢◌, ℕ, zero, suc, ◌-◌, ◌<◌, ◌↔◌, ◌⊎◌, Bool, true, false, cond, not, List, [], ◌∷◌, length, get_or, refl, arith, ap, sym, ◌∙◌, inl, inr}
use Rattle.std.specs.Prelude.{ℤ, pos, ◌+ℤ◌, ◌-ℤ◌, ◌<ℤ◌, ◌≤ℤ◌, int_le, int_lt, ◌&&◌, ◌||◌, filter, IsTrue}
use Rattle.std.specs.Ordering.{int_eq}
use Rattle.std.proofs.lemmas.Bool.{cases_eq}
use Rattle.std.proofs.lemmas.Bool.Decides.{Decides-int_eq}
use Rattle.std.proofs.lemmas.Int.{ints}
use Rattle.sm_kinds.specs.declared.literal.Literal.{Literal}
use Rattle.sm_kinds.specs.declared.literal.Test.{Test}
use Rattle.sm_kinds.specs.declared.literal.Test.TheVariants.{AtMost, AtLeast, Equal, Unequal}
use Rattle.sm_kinds.specs.declared.var.VarKind.TheVariants.{Set}
use Rattle.sm_kinds.specs.Literals.{passes, passes_test, opposite, beyond}
use Rattle.sm_kinds.specs.Vars.{IsOneOf}
use Rattle.sm_store.proofs.Filters.{parted}
use Rattle.sm_store.proofs.Parts.{one_at}
use Rattle.sm_store.specs.declared.summary.Summary.{Summary}
use Rattle.sm_store.specs.Stores.{IsOrdered}
use Rattle.sm_store.specs.Blocks.{IsSummary, leaves_some, takes_some}

-- ---- a place that passes

pub record PassesAt (p : ℤ → Bool) (vs : List ℤ) : Type 0 where
  pub place : ℕ
  pub inside : place < length vs
  pub passes : p (get_or vs place (pos 0)) ≡ true

kept_at : (p : ℤ → Bool) (vs : List ℤ) (i : ℕ) → i < length vs → p (get_or vs i (pos 0)) ≡ true → 0 < length (filter p vs)
kept_at p [] i lt h = absurd (omega arith)
kept_at p (v ∷ vs) zero lt h = rw h (omega arith)
kept_at p (v ∷ vs) (suc i) lt h = cases (p v) (kept_at p vs i (omega arith) h)
  where
    cases : (b : Bool) → 0 < length (filter p vs) → 0 < length (cond b (v ∷ filter p vs) (filter p vs))
    cases true h = omega arith
    cases false h = h

kept_from : (p : ℤ → Bool) (vs : List ℤ) → 0 < length (filter p vs) → PassesAt p vs
kept_from p [] h = absurd (omega arith)
kept_from p (v ∷ vs) h = cases (p v) refl (kept_from p vs) h
  where
    cases : (b : Bool) → p v ≡ b → (0 < length (filter p vs) → PassesAt p vs) → 0 < length (cond b (v ∷ filter p vs) (filter p vs)) → PassesAt p (v ∷ vs)
    cases true e rest h = record { place = 0; inside = omega arith; passes = e }
    cases false e rest h = let r = rest h in let lt = r.inside in record { place = suc r.place; inside = omega arith; passes = r.passes }

index_one : (vs : List ℤ) (b : ℤ) → IsOneOf b (pos 1) vs → (i : ℕ) × (i < length vs) × (get_or vs i (pos 0) ≡ b)
index_one [] b h = absurd h
index_one (v ∷ vs) b (inl here) = (0, omega arith, omega (arith, ints, here))
index_one (v ∷ vs) b (inr there) = let r = index_one vs b there in let lt : r.0 < length vs = r.1 in (suc r.0, omega arith, r.2)

-- ---- between the ends

at_least : (vs : List ℤ) → IsOrdered Set vs → (i : ℕ) → i < length vs → (get_or vs 0 (pos 0)) ≤ℤ (get_or vs i (pos 0))
at_least vs ordered zero lt = omega (arith, ints)
at_least vs ordered (suc i) lt = let less = ordered.order 0 (suc i) (pos 0) (omega arith) lt in omega (arith, ints, less)

at_most : (vs : List ℤ) → IsOrdered Set vs → (i : ℕ) → i < length vs → (get_or vs i (pos 0)) ≤ℤ (get_or vs (length vs - 1) (pos 0))
at_most vs ordered i lt = elim (cases_eq i (length vs - 1)) [
  | inl same ↦ rw same (omega (arith, ints))
  | inr other ↦ let less = ordered.order i (length vs - 1) (pos 0) (omega arith) (omega arith) in omega (arith, ints, less)
]

some_there : (vs : List ℤ) (s : Summary) → IsSummary Set vs s → s.least ≤ℤ s.greatest → 0 < length vs
some_there [] s summary order =
    let none = summary.none refl in
    let low = none.least in
    let high = none.greatest in
    absurd (omega (arith, ints))
some_there (v ∷ vs) s summary order = omega arith

-- ---- tests

le_true : (a b : ℤ) → a ≤ℤ b → int_le a b ≡ true
le_true a b h = grind (arith, ints)

true_le : (a b : ℤ) → int_le a b ≡ true → a ≤ℤ b
true_le a b h = grind (arith, ints)

lt_true : (a b : ℤ) → a <ℤ b → int_lt a b ≡ true
lt_true a b h = grind (arith, ints)

true_lt : (a b : ℤ) → int_lt a b ≡ true → a <ℤ b
true_lt a b h = grind (arith, ints)

and_true : (a b : Bool) → a ≡ true → b ≡ true → (a && b) ≡ true
and_true true b one two = two
and_true false b one two = one

true_and : (a b : Bool) → (a && b) ≡ true → (a ≡ true) × (b ≡ true)
true_and true b h = (refl, h)
true_and false b h = absurd (cc)

true_or : (a b : Bool) → (a || b) ≡ true → (a ≡ true) ⊎ (b ≡ true)
true_or true b h = inl refl
true_or false b h = inr h

or_left : (a b : Bool) → a ≡ true → (a || b) ≡ true
or_left a b h = rw h refl

or_right : (a b : Bool) → b ≡ true → (a || b) ≡ true
or_right true b h = refl
or_right false b h = h

equal_true : (a b : ℤ) → a ≡ b → int_eq a b ≡ true
equal_true a b = (Decides-int_eq a b).1

true_equal : (a b : ℤ) → int_eq a b ≡ true → a ≡ b
true_equal a b = (Decides-int_eq a b).0

int_cases : (a b : ℤ) → (a ≡ b) ⊎ (a ≢ b)
int_cases a b = cases (int_eq a b) refl
  where
    cases : (c : Bool) → int_eq a b ≡ c → (a ≡ b) ⊎ (a ≢ b)
    cases true e = inl (true_equal a b e)
    cases false e = inr (λ same. let t = equal_true a b same in absurd (cc))

unequal_true : (a b : ℤ) → a ≢ b → not (int_eq a b) ≡ true
unequal_true a b other = cases (int_eq a b) refl
  where
    cases : (c : Bool) → int_eq a b ≡ c → not c ≡ true
    cases true e = absurd (other (true_equal a b e))
    cases false e = refl

true_unequal : (a b : ℤ) → not (int_eq a b) ≡ true → a ≢ b
true_unequal a b h same = let t = equal_true a b same in let u : not true ≡ true = rw t at h in absurd (cc)

-- ---- each test

module _ (b : ℤ) (vs : List ℤ) (s : Summary) (ordered : IsOrdered Set vs) (summary : IsSummary Set vs s) where
  leaves_at_most : IsTrue (leaves_some AtMost b s false) ↔ (0 < length (filter (passes_test AtMost b) vs))
  leaves_at_most = (there, back)
    where
      there : IsTrue (int_le s.least s.greatest && int_le s.least b) → 0 < length (filter (passes_test AtMost b) vs)
      there h =
          let parts = true_and (int_le s.least s.greatest) (int_le s.least b) h in
          let some = some_there vs s summary (true_le s.least s.greatest parts.0) in
          let first = (summary.some some).least in
          let low = true_le s.least b parts.1 in
          kept_at (passes_test AtMost b) vs 0 some (le_true (get_or vs 0 (pos 0)) b (omega (arith, ints)))

      back : 0 < length (filter (passes_test AtMost b) vs) → IsTrue (int_le s.least s.greatest && int_le s.least b)
      back h =
          let p = kept_from (passes_test AtMost b) vs h in
          let inside = p.inside in
          let ends = summary.some (omega arith) in
          let first = ends.least in
          let low = at_least vs ordered p.place p.inside in
          let passed = true_le (get_or vs p.place (pos 0)) b p.passes in
          and_true (int_le s.least s.greatest) (int_le s.least b) (le_true s.least s.greatest ends.order) (le_true s.least b (omega (arith, ints)))

  leaves_at_least : IsTrue (leaves_some AtLeast b s false) ↔ (0 < length (filter (passes_test AtLeast b) vs))
  leaves_at_least = (there, back)
    where
      there : IsTrue (int_le s.least s.greatest && int_le b s.greatest) → 0 < length (filter (passes_test AtLeast b) vs)
      there h =
          let parts = true_and (int_le s.least s.greatest) (int_le b s.greatest) h in
          let some = some_there vs s summary (true_le s.least s.greatest parts.0) in
          let last = (summary.some some).greatest in
          let high = true_le b s.greatest parts.1 in
          kept_at (passes_test AtLeast b) vs (length vs - 1) (omega arith) (le_true b (get_or vs (length vs - 1) (pos 0)) (omega (arith, ints)))

      back : 0 < length (filter (passes_test AtLeast b) vs) → IsTrue (int_le s.least s.greatest && int_le b s.greatest)
      back h =
          let p = kept_from (passes_test AtLeast b) vs h in
          let inside = p.inside in
          let ends = summary.some (omega arith) in
          let last = ends.greatest in
          let high = at_most vs ordered p.place p.inside in
          let passed = true_le b (get_or vs p.place (pos 0)) p.passes in
          and_true (int_le s.least s.greatest) (int_le b s.greatest) (le_true s.least s.greatest ends.order) (le_true b s.greatest (omega (arith, ints)))

  leaves_equal : (has : Bool) → IsTrue has ↔ IsOneOf b (pos 1) vs → IsTrue has ↔ (0 < length (filter (passes_test Equal b) vs))
  leaves_equal has h = (there, back)
    where
      there : IsTrue has → 0 < length (filter (passes_test Equal b) vs)
      there t = let at = index_one vs b (h.0 t) in let same : get_or vs at.0 (pos 0) ≡ b = at.2 in kept_at (passes_test Equal b) vs at.0 at.1 (grind (arith, ints))

      back : 0 < length (filter (passes_test Equal b) vs) → IsTrue has
      back some =
          let p = kept_from (passes_test Equal b) vs some in
          let passed = p.passes in
          let same : get_or vs p.place (pos 0) ≡ b = grind (arith, ints) in
          h.1 (rw same at (one_at vs p.place (pos 0) p.inside))

  leaves_unequal : IsTrue (leaves_some Unequal b s false) ↔ (0 < length (filter (passes_test Unequal b) vs))
  leaves_unequal = (there, back)
    where
      at_first : 0 < length vs → s.least ≢ b → 0 < length (filter (passes_test Unequal b) vs)
      at_first some other = let first = (summary.some some).least in kept_at (passes_test Unequal b) vs 0 some (rw first (unequal_true s.least b other))

      at_last : 0 < length vs → s.greatest ≢ b → 0 < length (filter (passes_test Unequal b) vs)
      at_last some other = let last = (summary.some some).greatest in kept_at (passes_test Unequal b) vs (length vs - 1) (omega arith) (rw last (unequal_true s.greatest b other))

      there : IsTrue (int_lt s.least s.greatest || (int_eq s.least s.greatest && not (int_eq s.least b))) → 0 < length (filter (passes_test Unequal b) vs)
      there h = elim (true_or (int_lt s.least s.greatest) (int_eq s.least s.greatest && not (int_eq s.least b)) h) [
        | inl less ↦
            let lt = true_lt s.least s.greatest less in
            let some = some_there vs s summary (omega (arith, ints)) in
            elim (int_cases s.least b) [
              | inl same ↦ at_last some (λ e. absurd (omega (arith, ints)))
              | inr other ↦ at_first some other
            ]
        | inr alike ↦
            let parts = true_and (int_eq s.least s.greatest) (not (int_eq s.least b)) alike in
            let same = true_equal s.least s.greatest parts.0 in
            at_first (some_there vs s summary (omega (arith, ints))) (true_unequal s.least b parts.1)
      ]

      back : 0 < length (filter (passes_test Unequal b) vs) → IsTrue (int_lt s.least s.greatest || (int_eq s.least s.greatest && not (int_eq s.least b)))
      back h =
          let p = kept_from (passes_test Unequal b) vs h in
          let inside = p.inside in
          let ends = summary.some (omega arith) in
          let first = ends.least in
          let last = ends.greatest in
          let low = at_least vs ordered p.place p.inside in
          let high = at_most vs ordered p.place p.inside in
          let other = true_unequal (get_or vs p.place (pos 0)) b p.passes in
          let order = ends.order in
          elim (int_cases s.least s.greatest) [
            | inl same ↦ or_right (int_lt s.least s.greatest) (int_eq s.least s.greatest && not (int_eq s.least b)) (and_true (int_eq s.least s.greatest) (not (int_eq s.least b)) (equal_true s.least s.greatest same) (unequal_true s.least b (λ e. other (omega (arith, ints)))))
            | inr apart ↦ or_left (int_lt s.least s.greatest) (int_eq s.least s.greatest && not (int_eq s.least b)) (lt_true s.least s.greatest (omega (arith, ints)))
          ]

-- whether a literal is true of a value of the set
pub set_leaves : (t : Test) (b : ℤ) (vs : List ℤ) (s : Summary) (has : Bool) → IsOrdered Set vs → IsSummary Set vs s → IsTrue has ↔ IsOneOf b (pos 1) vs → IsTrue (leaves_some t b s has) ↔ (0 < length (filter (passes_test t b) vs))
set_leaves AtMost b vs s has ordered summary h = leaves_at_most b vs s ordered summary
set_leaves AtLeast b vs s has ordered summary h = leaves_at_least b vs s ordered summary
set_leaves Equal b vs s has ordered summary h = leaves_equal b vs s ordered summary has h
set_leaves Unequal b vs s has ordered summary h = leaves_unequal b vs s ordered summary

taken_is : (t : Test) (b : ℤ) (s : Summary) (has : Bool) → takes_some t b s has ≡ leaves_some (opposite t) (beyond t b) s has
taken_is AtMost b s has = ap (λ (x : Bool). int_le s.least s.greatest && x) (grind (arith, ints))
taken_is AtLeast b s has = ap (λ (x : Bool). int_le s.least s.greatest && x) (grind (arith, ints))
taken_is Equal b s has = refl
taken_is Unequal b s has = refl

beyond_has : (t : Test) (b : ℤ) (vs : List ℤ) (s : Summary) (has : Bool) → IsOrdered Set vs → IsSummary Set vs s → IsTrue has ↔ IsOneOf b (pos 1) vs → IsTrue (leaves_some (opposite t) (beyond t b) s has) ↔ (0 < length (filter (passes_test (opposite t) (beyond t b)) vs))
beyond_has AtMost b vs s has ordered summary h = leaves_at_least (b +ℤ pos 1) vs s ordered summary
beyond_has AtLeast b vs s has ordered summary h = leaves_at_most (b -ℤ pos 1) vs s ordered summary
beyond_has Equal b vs s has ordered summary h = leaves_unequal b vs s ordered summary
beyond_has Unequal b vs s has ordered summary h = leaves_equal b vs s ordered summary has h

-- whether a literal is false of a value of the set
pub set_takes : (l : Literal) (vs : List ℤ) (s : Summary) (has : Bool) → IsOrdered Set vs → IsSummary Set vs s → IsTrue has ↔ IsOneOf l.bound (pos 1) vs → IsTrue (takes_some l.test l.bound s has) ↔ (length (filter (passes l) vs) < length vs)
set_takes l vs s has ordered summary h =
    let parts = parted l vs in
    let turned = beyond_has l.test l.bound vs s has ordered summary h in
    let same = taken_is l.test l.bound s has in
    (λ t. let some = turned.0 (sym same ∙ t) in omega arith, λ less. same ∙ turned.1 (omega arith))

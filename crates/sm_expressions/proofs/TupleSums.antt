-- Sums over the tuples that pass, one tuple after another.
use Rattle.std.proofs.Common.{◌≡◌, ◌∙◌, ap, sym, refl, arith, ℕ, ℤ, pos, List, [], ◌∷◌, map, Bool, true, false, Result, Ok}
use Rattle.std.specs.Prelude.{◌+ℤ◌, ◌*ℤ◌, if◌then◌else◌}
use Rattle.std.specs.List.{filter}
use Rattle.std.proofs.lemmas.Int.{ints}
use Rattle.std.proofs.Math.Path.{fun_ext}
use Rattle.sm_syntax.specs.declared.tree.Bind.{Bind}
use Rattle.sm_syntax.specs.declared.expression.Binders.{Binders, out-Binders}
use Rattle.sm_syntax.specs.Expressions.{Expression, Comparisons, binding_of, comparisons_of, test_of}
use Rattle.sm_forms.specs.Meanings.{Meaning}
use Rattle.sm_forms.specs.Forms.{IsForm, IsFormOf, value_at}
use Rattle.sm_forms.specs.declared.form.Form.{Form}
use Rattle.sm_meaning.specs.declared.refusal.ExpandRefusal.{ExpandRefusal}
use Rattle.sm_meaning.specs.declared.refusal.ExpandRefusal.TheVariants as refusal
use Rattle.sm_meaning.specs.Trials.{Trial, Outcome, stopped, reached, ◌▸◌, nothing_tried, visit, IsStopped, GoesThrough}
use Rattle.sm_meaning.specs.Scopes.{Scope, Tuple, count_of}
use Rattle.sm_meaning.specs.Tuples.{span_of, tuples}
use Rattle.sm_meaning.specs.Worths.{whole, worth, plus, total, all_pass, cases}
use Rattle.sm_meaning.specs.ExpressionTrials.{expression_tried, tests_tried, adding, summing, binds_tried, value_tried}
use Rattle.sm_expressions.specs.Sums.{counted, tuple_tried, tests_in, part_worths}
use Rattle.sm_expressions.proofs.Trees.{binders_are}
use Rattle.sm_expressions.proofs.Trying.{in_turn, stops, goes_on, stops_later, stopped_same, then_goes}
use Rattle.sm_expressions.proofs.Values.{whole_large}

-- ---- one tuple

-- a tuple that passes, its part is refused
pub part_stops : (tests part : Trial) (s : Scope) (g h : Meaning) (pass : Bool) (e : ExpandRefusal) (count first after : ℕ) → visit count ≡ reached first → tests first ≡ reached after → pass ≡ true
    → IsStopped e (part after) → IsStopped e (tuple_tried tests pass part s g h count)
part_stops tests part s g h pass e count first after v t is k =
    let value = value_tried s (plus g h) in
    rw is (stops_later e visit (tests ▸ part ▸ value) count first v (stops_later e tests (part ▸ value) first after t (stops e part value after k)))

-- a tuple that passes, with the part that it adds
pub part_goes : (tests part : Trial) (s : Scope) (g h : Meaning) (pass : Bool) (count first second after : ℕ) (r : Result Form ExpandRefusal) → visit count ≡ reached first → tests first ≡ reached second → pass ≡ true
    → part second ≡ reached after → GoesThrough (value_tried s (plus g h)) after after (IsFormOf (count_of s) (plus g h)) r
    → GoesThrough (tuple_tried tests pass part s g h) count after (IsFormOf (count_of s) (counted pass g h)) r
part_goes tests part s g h pass count first second after r v t is p k =
    let value = value_tried s (plus g h) in
    let P : Form → Type 0 = IsFormOf (count_of s) (plus g h) in
    rw is (then_goes visit (tests ▸ part ▸ value) count first after P r v (then_goes tests (part ▸ value) first second after P r t (then_goes part value second after after P r p k)))

-- ---- a tuple, and those to come behind it

turned : (p q r : Trial) → ((p ▸ q) ▸ r) ≡ (p ▸ q ▸ r)
turned p q r = fun_ext (in_turn p q r)

-- what is tried of the tuples to come, with the sum so far
abbrev pub summed_tried : Expression → Comparisons → Scope → Meaning → List Tuple → Trial
summed_tried x ts s g cs = adding (λ c. tests_tried ts s c) (λ c. all_pass ts s.names c) (λ c. expression_tried x s c) (λ c. worth x s.names c) s g cs

module _ (x : Expression) (ts : Comparisons) (s : Scope) (c : Tuple) (cs to_come : List Tuple) (sum : Form) (is : to_come ≡ c ∷ cs) where
  abbrev pass : Bool
  pass = all_pass ts s.names c

  abbrev part : Meaning
  part = worth x s.names c

  abbrev one : Trial
  one = tuple_tried (tests_tried ts s c) pass (expression_tried x s c) s (value_at sum) part

  split_tried : one ▸ summed_tried x ts s (counted pass (value_at sum) part) cs ≡ summed_tried x ts s (value_at sum) to_come
  split_tried =
      turned visit (tests_tried ts s c ▸ (if pass then expression_tried x s c ▸ value_tried s (plus (value_at sum) part) else nothing_tried)) (summed_tried x ts s (counted pass (value_at sum) part) cs)
      ∙ ap (λ (t : Trial). visit ▸ t) (turned (tests_tried ts s c) (if pass then expression_tried x s c ▸ value_tried s (plus (value_at sum) part) else nothing_tried) (summed_tried x ts s (counted pass (value_at sum) part) cs)
      ∙ ap (λ (t : Trial). tests_tried ts s c ▸ t) (by_test pass (expression_tried x s c) (value_tried s (plus (value_at sum) part)) (value_at sum) part))
      ∙ ap (summed_tried x ts s (value_at sum)) (sym is)
    where
      by_test : (p : Bool) (t value : Trial) (g h : Meaning) → (if p then t ▸ value else nothing_tried) ▸ summed_tried x ts s (counted p g h) cs
          ≡ (if p then t ▸ value ▸ summed_tried x ts s (plus g h) cs else summed_tried x ts s g cs)
      by_test true t value g h = turned t value (summed_tried x ts s (plus g h) cs)
      by_test false t value g h = fun_ext (λ count. refl)

  split_worth : plus (counted pass (value_at sum) part) (total (part_worths x ts s.names cs)) ≡ plus (value_at sum) (total (part_worths x ts s.names to_come))
  split_worth = by_test pass (value_at sum) part (filter (λ c. all_pass ts s.names c) cs) ∙ ap (λ us. plus (value_at sum) (total (part_worths x ts s.names us))) (sym is)
    where
      regroup : (g h t : ℤ) → (g +ℤ h) +ℤ t ≡ g +ℤ (h +ℤ t)
      regroup g h t = omega (arith, ints)

      by_test : (p : Bool) (g h : Meaning) (us : List Tuple) → plus (counted p g part) (total (map (λ c. worth x s.names c) us)) ≡ plus g (total (map (λ c. worth x s.names c) (if p then c ∷ us else us)))
      by_test true g h us = fun_ext (λ a. regroup (g a) (part a) (total (map (λ c. worth x s.names c) us) a))
      by_test false g h us = refl

  pub tuple_stops : (e : ExpandRefusal) (count : ℕ) → IsStopped e (one count) → IsStopped e (summed_tried x ts s (value_at sum) to_come count)
  tuple_stops e count h =
      let rest = summed_tried x ts s (counted pass (value_at sum) part) cs in
      stopped_same e ((one ▸ rest) count) _ (ap (λ (t : Trial). t count) split_tried) (stops e one rest count h)

  pub tuple_goes : (new : Form) (count after : ℕ) → GoesThrough one count after (IsFormOf (count_of s) (counted pass (value_at sum) part)) (Ok new)
      → (summed_tried x ts s (value_at new) cs after ≡ summed_tried x ts s (value_at sum) to_come count)
      × (plus (value_at new) (total (part_worths x ts s.names cs)) ≡ plus (value_at sum) (total (part_worths x ts s.names to_come)))
      × IsForm (count_of s) new
  tuple_goes new count after h =
      let means : counted pass (value_at sum) part ≡ value_at new = fun_ext h.1.comes_to in (
        ap (λ (g : Meaning). summed_tried x ts s g cs after) (sym means) ∙ sym (goes_on one (summed_tried x ts s (counted pass (value_at sum) part) cs) count after h.0) ∙ ap (λ (t : Trial). t count) split_tried,
        ap (λ (g : Meaning). plus g (total (part_worths x ts s.names cs))) (sym means) ∙ split_worth,
        h.1.form,
      )

-- ---- binders, and then all their tuples

module _ (x : Expression) (y : Binders) (s : Scope) (b : Tuple) where
  abbrev binds : List Bind
  binds = (out-Binders y).first ∷ (out-Binders y).more

  abbrev tests : Comparisons
  tests = comparisons_of (map test_of (out-Binders y).tests)

  abbrev all : List Tuple
  all = tuples (map (span_of s.names) binds) b

  abbrev pub whole_sum : Trial
  whole_sum = summing (binding_of y) s b (λ c. expression_tried x s c) (λ c. worth x s.names c)

  sum_is : whole_sum ≡ (binds_tried binds s b ▸ summed_tried x tests s (whole (pos 0)) all)
  sum_is = ap (λ t. summing t s b (λ c. expression_tried x s c) (λ c. worth x s.names c)) (binders_are y)

  pub binders_stop : (e : ExpandRefusal) (count : ℕ) → IsStopped e (binds_tried binds s b count) → IsStopped e (whole_sum count)
  binders_stop e count h = stopped_same e _ _ (ap (λ (t : Trial). t count) (sym sum_is)) (stops e (binds_tried binds s b) (summed_tried x tests s (whole (pos 0)) all) count h)

  pub sum_begins : (sum : Form) (to_come : List Tuple) (count : ℕ) → binds_tried binds s b count ≡ reached count → to_come ≡ all → IsFormOf (count_of s) (whole (pos 0)) sum
      → (summed_tried x (tests_in (binding_of y)) s (value_at sum) to_come count ≡ whole_sum count)
      × (plus (value_at sum) (total (part_worths x (tests_in (binding_of y)) s.names to_come)) ≡ total (map (λ c. worth x s.names c) (cases (binding_of y) s.names b)))
      × IsForm (count_of s) sum
  sum_begins sum to_come count h is form =
      let means : whole (pos 0) ≡ value_at sum = fun_ext form.comes_to in
      let same : tests_in (binding_of y) ≡ tests = ap tests_in (binders_are y) in (
        (λ i. summed_tried x (same i) s (sym means i) (is i) count) ∙ sym (goes_on (binds_tried binds s b) (summed_tried x tests s (whole (pos 0)) all) count count h) ∙ ap (λ (t : Trial). t count) (sym sum_is),
        (λ i. plus (sym means i) (total (part_worths x (same i) s.names (is i))))
            ∙ fun_ext (λ a. nothing_more a.denominator (total (part_worths x tests s.names all) a))
            ∙ ap (λ t. total (map (λ c. worth x s.names c) (cases t s.names b))) (sym (binders_are y)),
        form.form,
      )
    where
      nothing_more : (d t : ℤ) → (pos 0 *ℤ d) +ℤ t ≡ t
      nothing_more d t = omega (arith, ints)

  -- no tuple is left
  pub sum_ends : (sum : Form) (to_come : List Tuple) (start count : ℕ) → to_come ≡ []
      → summed_tried x (tests_in (binding_of y)) s (value_at sum) to_come count ≡ whole_sum start
      → plus (value_at sum) (total (part_worths x (tests_in (binding_of y)) s.names to_come)) ≡ total (map (λ c. worth x s.names c) (cases (binding_of y) s.names b))
      → IsForm (count_of s) sum → GoesThrough whole_sum start count (IsFormOf (count_of s) (total (map (λ c. worth x s.names c) (cases (binding_of y) s.names b)))) (Ok sum)
  sum_ends sum to_come start count is h k form = (
    sym h ∙ ap (λ us. summed_tried x (tests_in (binding_of y)) s (value_at sum) us count) is,
    record {
      form = form;
      comes_to = λ a. ap (λ (g : Meaning). g a) (sym k) ∙ ap (λ us. plus (value_at sum) (total (part_worths x (tests_in (binding_of y)) s.names us)) a) is ∙ nothing_behind (value_at sum a);
    },
  )
    where
      nothing_behind : (z : ℤ) → z +ℤ pos 0 ≡ z
      nothing_behind z = omega (arith, ints)

-- ---- the sum so far at first

goes_not_stops : (e : ExpandRefusal) (count : ℕ) → reached count ≡ stopped e → ⊥
goes_not_stops e count h = cc

-- where a part goes on, nothing but want of memory may come
pub stopped_nowhere : (e : ExpandRefusal) (count : ℕ) (o : Outcome) → IsStopped e (reached count) → IsStopped e o
stopped_nowhere refusal.OutOfMemory count o h = tt
stopped_nowhere (refusal.Meaning line column what) count o h = absurd (goes_not_stops (refusal.Meaning line column what) count h)
stopped_nowhere (refusal.Limit what found bound) count o h = absurd (goes_not_stops (refusal.Limit what found bound) count h)

-- no number of 0 is too large
pub zero_goes : (s : Scope) (count : ℕ) → value_tried s (whole (pos 0)) count ≡ reached count
zero_goes s count = rw (whole_large (count_of s) (pos 0)) refl

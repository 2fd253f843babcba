-- Tuples that are sought one after another, as the loops over them go.
use Rattle.std.proofs.Common.{◌≡◌, ◌∙◌, ap, sym, refl, subst, arith, ℕ, suc, ◌≤◌, List, [], ◌∷◌, ◌++◌, map, length, append_assoc, append-nil, Bool, true, false, Some}
use Rattle.std.specs.Prelude.{if◌then◌else◌}
use Rattle.std.proofs.Math.Path.{fun_ext}
use Rattle.std.specs.List.{flat_map}
use Rattle.sm_syntax.specs.declared.expression.Test.{Test}
use Rattle.sm_syntax.specs.Expressions.{Binding, binding, Comparisons, comparisons_of, test_of}
use Rattle.sm_meaning.specs.declared.refusal.ExpandRefusal.{ExpandRefusal}
use Rattle.sm_meaning.specs.Trials.{Trial, reached, ◌▸◌, nothing_tried, visit, IsStopped, each_tried}
use Rattle.sm_meaning.specs.Scopes.{Names, Tuple, Scope}
use Rattle.sm_meaning.specs.Worths.{all_pass, cases}
use Rattle.sm_meaning.specs.ExpressionTrials.{tests_tried}
use Rattle.sm_meaning.specs.Cases.{case_tried, cases_tried, over_cases, over_cases_tried}
use Rattle.sm_meaning.proofs.Steps.{stops, goes_on, stops_later, stopped_same}
use Rattle.sm_expressions.proofs.Trying.{in_turn}
use Rattle.sm_expressions.specs.Sums.{tests_in}
use Rattle.sm_parts.specs.Seeking.{Sought, tests_of, binders_tried, tuples_of, passing, seeking, Begins, Finds, Ends}

-- ---- what is tried of tuples, and what is tried where one is sought

turned : (p q r : Trial) → ((p ▸ q) ▸ r) ≡ (p ▸ q ▸ r)
turned p q r = fun_ext (in_turn p q r)

-- what is tried at a tuple that passes, and behind it
abbrev pub onward : Comparisons → Scope → (Tuple → Trial) → Tuple → List Tuple → Trial
onward ts s part c cs = part c ▸ each_tried (case_tried ts s part) cs

pub seeking_is : (ts : Comparisons) (s : Scope) (part : Tuple → Trial) (cs : List Tuple) → seeking ts s (onward ts s part) cs ≡ each_tried (case_tried ts s part) cs
seeking_is ts s part [] = refl
seeking_is ts s part (c ∷ cs) =
    let later : Trial = each_tried (case_tried ts s part) cs in
    let here : Trial = if all_pass ts s.names c then part c else nothing_tried in
    ap (λ (t : Trial). visit ▸ tests_tried ts s c ▸ (if all_pass ts s.names c then part c ▸ later else t)) (seeking_is ts s part cs)
    ∙ ap (λ (t : Trial). visit ▸ tests_tried ts s c ▸ t) (by_test (all_pass ts s.names c) later)
    ∙ ap (λ (t : Trial). visit ▸ t) (sym (turned (tests_tried ts s c) here later))
    ∙ sym (turned visit (tests_tried ts s c ▸ here) later)
  where
    by_test : (b : Bool) (later : Trial) → (if b then part c ▸ later else later) ≡ ((if b then part c else nothing_tried) ▸ later)
    by_test true later = refl
    by_test false later = refl

-- the binders first, then their tuples
split_cases : (x : Binding) (s : Scope) (b : Tuple) (part : Tuple → Trial) → cases_tried x s b part ≡ (binders_tried x s b ▸ each_tried (case_tried (tests_in x) s part) (tuples_of x s.names b))
split_cases (binding p y ys ts) s b part = refl

passing_cases : (x : Binding) (names : Names) (b : Tuple) → passing (tests_in x) names (tuples_of x names b) ≡ cases x names b
passing_cases (binding p y ys ts) names b = refl

-- ---- a loop over the tuples that pass

-- what is left to try comes to what all comes to, and so does what is left to make, behind what is made
pub record Going {Y : Type 0} (x : Binding) (s : Scope) (b : Tuple) (part : Tuple → Trial) (makes_at : Tuple → List Y) (start : ℕ) (old : List Y) (t : Sought) (now : ℕ) (made : List Y) : Type 0 where
  pub tests : tests_of t ≡ tests_in x
  pub tried : each_tried (case_tried (tests_in x) s part) t.to_come now ≡ over_cases_tried (Some x) s b part start
  pub makes : made ++ flat_map makes_at (passing (tests_in x) s.names t.to_come) ≡ old ++ flat_map makes_at (over_cases (Some x) s.names b)

pub going_first : {Y : Type 0} (x : Binding) (s : Scope) (b : Tuple) (part : Tuple → Trial) (makes_at : Tuple → List Y) (start : ℕ) (old : List Y) (t : Sought)
    → binders_tried x s b start ≡ reached start → Begins x s.names b t → Going x s b part makes_at start old t start old
going_first x s b part makes_at start old t goes begins = record {
  tests = begins.tests;
  tried = ap (λ cs. each_tried (case_tried (tests_in x) s part) cs start) begins.to_come
      ∙ sym (goes_on (binders_tried x s b) (each_tried (case_tried (tests_in x) s part) (tuples_of x s.names b)) start start goes)
      ∙ sym (ap (λ (r : Trial). r start) (split_cases x s b part));
  makes = ap (λ cs. old ++ flat_map makes_at (passing (tests_in x) s.names cs)) begins.to_come ∙ ap (λ cs. old ++ flat_map makes_at cs) (passing_cases x s.names b);
}

pub binders_stop : (e : ExpandRefusal) (x : Binding) (s : Scope) (b : Tuple) (part : Tuple → Trial) (start : ℕ) → IsStopped e (binders_tried x s b start) → IsStopped e (over_cases_tried (Some x) s b part start)
binders_stop e x s b part start stop = stopped_same e _ _ (sym (ap (λ (r : Trial). r start) (split_cases x s b part)))
    (stops e (binders_tried x s b) (each_tried (case_tried (tests_in x) s part) (tuples_of x s.names b)) start stop)

module _ {Y : Type 0} (x : Binding) (s : Scope) (b : Tuple) (part : Tuple → Trial) (makes_at : Tuple → List Y) (start : ℕ) (old : List Y) (t : Sought) (now : ℕ) (made : List Y) (h : Going x s b part makes_at start old t now made) where
  -- where the next tuple is sought, all is tried that is left
  sought : seeking (tests_of t) s (onward (tests_in x) s part) t.to_come now ≡ over_cases_tried (Some x) s b part start
  sought =
      ap (λ (ts : Comparisons). seeking ts s (onward (tests_in x) s part) t.to_come now) h.tests
      ∙ ap (λ (r : Trial). r now) (seeking_is (tests_in x) s part t.to_come)
      ∙ h.tried

  pub going_stops : (e : ExpandRefusal) → ((rest : Tuple → List Tuple → Trial) → IsStopped e (seeking (tests_of t) s rest t.to_come now)) → IsStopped e (over_cases_tried (Some x) s b part start)
  going_stops e stop = stopped_same e _ _ sought (stop (onward (tests_in x) s part))

  pub part_stops : (e : ExpandRefusal) (found : Sought) (mid : ℕ) → Finds s t found now mid → IsStopped e (part found.tuple mid) → IsStopped e (over_cases_tried (Some x) s b part start)
  part_stops e found mid f stop = stopped_same e _ _ (sym (f.tried (onward (tests_in x) s part)) ∙ sought)
      (stops e (part found.tuple) (each_tried (case_tried (tests_in x) s part) found.to_come) mid stop)

  pub going_more : (found : Sought) (mid after : ℕ) (new : List Y) → Finds s t found now mid → part found.tuple mid ≡ reached after → new ≡ made ++ makes_at found.tuple
      → Going x s b part makes_at start old found after new
  going_more found mid after new f goes is =
      let later = each_tried (case_tried (tests_in x) s part) found.to_come in
      let behind = flat_map makes_at (passing (tests_in x) s.names found.to_come) in
      let first : passing (tests_in x) s.names t.to_come ≡ found.tuple ∷ passing (tests_in x) s.names found.to_come =
      subst (λ (ts : Comparisons). passing ts s.names t.to_come ≡ found.tuple ∷ passing ts s.names found.to_come) h.tests f.passes in
      record {
        tests = ap (λ (ts : List _). tests_of (record { tests = ts; tuple = found.tuple; to_come = found.to_come })) f.tests ∙ h.tests;
        tried = sym (goes_on (part found.tuple) later mid after goes) ∙ sym (f.tried (onward (tests_in x) s part)) ∙ sought;
        makes = ap (λ ys. ys ++ behind) is ∙ append_assoc made (makes_at found.tuple) behind ∙ ap (λ cs. made ++ flat_map makes_at cs) (sym first) ∙ h.makes;
      }

  pub going_ends : (final : ℕ) → Ends s t now final → (over_cases_tried (Some x) s b part start ≡ reached final) × (made ≡ old ++ flat_map makes_at (over_cases (Some x) s.names b))
  going_ends final f =
      let none : passing (tests_in x) s.names t.to_come ≡ [] = subst (λ (ts : Comparisons). passing ts s.names t.to_come ≡ []) h.tests f.passes in
      (sym sought ∙ f.tried (onward (tests_in x) s part), sym (append-nil made) ∙ ap (λ cs. made ++ flat_map makes_at cs) (sym none) ∙ h.makes)

-- ---- a loop that seeks

-- what is left to try comes to what all comes to, and so do the tuples that pass
pub record Seeking (s : Scope) (before : Sought) (start : ℕ) (shown : List Test) (to_come : List Tuple) (now : ℕ) : Type 0 where
  pub tests : shown ≡ before.tests
  pub tried : (rest : Tuple → List Tuple → Trial) → seeking (tests_of before) s rest to_come now ≡ seeking (tests_of before) s rest before.to_come start
  pub passes : passing (tests_of before) s.names to_come ≡ passing (tests_of before) s.names before.to_come
  pub shorter : length to_come ≤ length before.to_come

pub seeking_first : (s : Scope) (before : Sought) (start : ℕ) → Seeking s before start before.tests before.to_come start
seeking_first s before start = record { tests = refl; tried = λ rest. refl; passes = refl; shorter = omega arith }

module _ (s : Scope) (before : Sought) (start : ℕ) (shown : List Test) (to_come : List Tuple) (now : ℕ) (h : Seeking s before start shown to_come now) where
  tests_same : comparisons_of (map test_of shown) ≡ tests_of before
  tests_same = ap (λ ts. comparisons_of (map test_of ts)) h.tests

  module _ (c : Tuple) (cs : List Tuple) (is : to_come ≡ c ∷ cs) where
    abbrev behind_tests : (Tuple → List Tuple → Trial) → Trial
    behind_tests rest = if all_pass (tests_of before) s.names c then rest c cs else seeking (tests_of before) s rest cs

    opened : (rest : Tuple → List Tuple → Trial) → (visit ▸ tests_tried (tests_of before) s c ▸ behind_tests rest) now ≡ seeking (tests_of before) s rest before.to_come start
    opened rest = ap (λ ds. seeking (tests_of before) s rest ds now) (sym is) ∙ h.tried rest

    pub visit_stops : (e : ExpandRefusal) → IsStopped e (visit now) → (rest : Tuple → List Tuple → Trial) → IsStopped e (seeking (tests_of before) s rest before.to_come start)
    visit_stops e stop rest = stopped_same e _ _ (opened rest) (stops e visit (tests_tried (tests_of before) s c ▸ behind_tests rest) now stop)

    pub tests_stop : (e : ExpandRefusal) (mid : ℕ) → visit now ≡ reached mid → IsStopped e (tests_tried (comparisons_of (map test_of shown)) s c mid)
        → (rest : Tuple → List Tuple → Trial) → IsStopped e (seeking (tests_of before) s rest before.to_come start)
    tests_stop e mid goes stop rest =
        let same : IsStopped e (tests_tried (tests_of before) s c mid) = subst (λ (ts : Comparisons). IsStopped e (tests_tried ts s c mid)) tests_same stop in
        stopped_same e _ _ (opened rest)
        (stops_later e visit (tests_tried (tests_of before) s c ▸ behind_tests rest) now mid goes (stops e (tests_tried (tests_of before) s c) (behind_tests rest) mid same))

    module _ (mid after : ℕ) (visits : visit now ≡ reached mid) (goes : tests_tried (comparisons_of (map test_of shown)) s c mid ≡ reached after) where
      tested : (rest : Tuple → List Tuple → Trial) → seeking (tests_of before) s rest before.to_come start ≡ behind_tests rest after
      tested rest =
          let same : tests_tried (tests_of before) s c mid ≡ reached after = subst (λ (ts : Comparisons). tests_tried ts s c mid ≡ reached after) tests_same goes in
          sym (opened rest)
          ∙ goes_on visit (tests_tried (tests_of before) s c ▸ behind_tests rest) now mid visits
          ∙ goes_on (tests_tried (tests_of before) s c) (behind_tests rest) mid after same

      module _ (pass : Bool) (pass_is : pass ≡ all_pass (comparisons_of (map test_of shown)) s.names c) where
        verdict : pass ≡ all_pass (tests_of before) s.names c
        verdict = subst (λ (ts : Comparisons). pass ≡ all_pass ts s.names c) tests_same pass_is

        counts : length to_come ≡ suc (length cs)
        counts = ap length is

        pub seeking_finds : pass ≡ true → Finds s before (record { tests = shown; tuple = c; to_come = cs }) start after
        seeking_finds holds =
            let passes : all_pass (tests_of before) s.names c ≡ true = sym verdict ∙ holds in
            record {
              tests = h.tests;
              tried = λ rest. tested rest ∙ ap (λ (b : Bool). (if b then rest c cs else seeking (tests_of before) s rest cs) after) passes;
              passes = sym h.passes ∙ ap (passing (tests_of before) s.names) is ∙ (rw passes refl);
              shorter = omega (arith, counts, h.shorter);
            }

        pub seeking_more : pass ≡ false → Seeking s before start shown cs after
        seeking_more fails_now =
            let fails : all_pass (tests_of before) s.names c ≡ false = sym verdict ∙ fails_now in
            record {
              tests = h.tests;
              tried = λ rest. sym (tested rest ∙ ap (λ (b : Bool). (if b then rest c cs else seeking (tests_of before) s rest cs) after) fails);
              passes = sym (sym h.passes ∙ ap (passing (tests_of before) s.names) is ∙ (rw fails refl));
              shorter = omega (arith, counts, h.shorter);
            }

  pub seeking_ends : to_come ≡ [] → Ends s before start now
  seeking_ends none = record {
    tried = λ rest. sym (h.tried rest) ∙ ap (λ cs. seeking (tests_of before) s rest cs now) none;
    passes = sym h.passes ∙ ap (passing (tests_of before) s.names) none;
  }

-- What holds at each tuple that is gone through holds at all tuples that pass, and of all that a list has there.
use Rattle.std.proofs.Common.{◌≡◌, [], ◌∷◌, map, true, All, Option, Some, None, if◌then◌else◌}
use Rattle.std.proofs.lemmas.List.Elements.{All-nil, All-cons, All-map}
use Rattle.sm_syntax.specs.Expressions.{Expression, Binding, binding, Comparisons}
use Rattle.sm_syntax.specs.Trees.{Listing, listing}
use Rattle.sm_meaning.specs.Trials.{Trial, ◌▸◌, nothing_tried, visit, each_tried}
use Rattle.sm_meaning.specs.Scopes.{Tuple, Scope}
use Rattle.sm_meaning.specs.Tuples.{span_of, tuples}
use Rattle.sm_meaning.specs.Worths.{cases, all_pass}
use Rattle.sm_meaning.specs.ExpressionTrials.{tests_tried, binds_tried}
use Rattle.sm_meaning.specs.Cases.{over_cases, case_tried, cases_tried, over_cases_tried, listed, listed_tried}
use Rattle.sm_flattening.proofs.Lists.{kept_all, All-flat_map}
use Rattle.sm_flattening.proofs.Reached.{Reaches, both, each_all, taken}

module _ (P : Tuple → Type 0) (part : Tuple → Trial) (holds : (c : Tuple) → Reaches (part c) → P c) where
  case_holds : (tests : Comparisons) (s : Scope) (c : Tuple) → Reaches (case_tried tests s part c) → all_pass tests s.names c ≡ true → P c
  case_holds tests s c h pass =
      let rest = if all_pass tests s.names c then part c else nothing_tried in
      let r = both visit (tests_tried tests s c ▸ rest) h in
      let q = both (tests_tried tests s c) rest r.1 in
      holds c (taken (all_pass tests s.names c) (part c) pass q.1)

  pub cases_all : (bs : Binding) (s : Scope) (b : Tuple) → Reaches (cases_tried bs s b part) → All P (cases bs s.names b)
  cases_all (binding p x xs tests) s b h =
      let all = tuples (map (span_of s.names) (x ∷ xs)) b in
      let r = both (binds_tried (x ∷ xs) s b) (each_tried (case_tried tests s part) all) h in
      kept_all (λ c. all_pass tests s.names c) P all
      (each_all (λ c. all_pass tests s.names c ≡ true → P c) (case_tried tests s part) (case_holds tests s) all r.1)

  pub over_all : (bs : Option Binding) (s : Scope) (b : Tuple) → Reaches (over_cases_tried bs s b part) → All P (over_cases bs s.names b)
  over_all None s b h = All-cons P b [] (holds b h) (All-nil P)
  over_all (Some bs) s b h = cases_all bs s b h

-- ---- lists of a text

module _ {X : Type 0} (P : X → Type 0) (each : Expression → Tuple → X) (part : Expression → Tuple → Trial) (holds : (x : Expression) (c : Tuple) → Reaches (part x c) → P (each x c)) where
  pub listed_all : (l : Listing) (s : Scope) (b : Tuple) → Reaches (listed_tried part l s b) → All P (listed each l s.names b)
  listed_all (listing p x xs bs) s b h =
      All-flat_map P (λ c. map (λ e. each e c) (x ∷ xs)) (over_cases bs s.names b)
      (over_all (λ c. All P (map (λ e. each e c) (x ∷ xs))) (λ c. each_tried (λ e. part e c) (x ∷ xs))
      (λ c r. All-map P (λ e. each e c) (x ∷ xs) (each_all (λ e. P (each e c)) (λ e. part e c) (λ e. holds e c) (x ∷ xs) r)) bs s b h)

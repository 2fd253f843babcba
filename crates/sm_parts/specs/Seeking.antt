-- The tuples of binders that pass, one after another.
use Rattle.std.specs.Prelude.{◌≡◌, ℕ, List, [], ◌∷◌, map, length, ◌<◌, Bool, true, false, Result, Ok, Err, if◌then◌else◌}
use Rattle.std.specs.List.{filter}
use Rattle.sm_syntax.specs.declared.expression.Test.{Test}
use Rattle.sm_syntax.specs.Expressions.{Binding, binding, Comparisons, comparisons_of, test_of}
use Rattle.sm_meaning.specs.declared.refusal.ExpandRefusal.{ExpandRefusal}
use Rattle.sm_meaning.specs.Trials.{Trial, ◌▸◌, nothing_tried, visit, reached, IsStopped}
use Rattle.sm_meaning.specs.Scopes.{Names, Tuple, Scope}
use Rattle.sm_meaning.specs.Tuples.{span_of, tuples}
use Rattle.sm_meaning.specs.Worths.{all_pass}
use Rattle.sm_meaning.specs.ExpressionTrials.{binds_tried, tests_tried}
use Rattle.sm_expressions.specs.Sums.{tests_in}

-- the tests, the tuple that is shown, and those to come
pub record Sought : Type 0 where
  pub tests : List Test
  pub tuple : Tuple
  pub to_come : List Tuple

abbrev pub tests_of : Sought → Comparisons
tests_of t = comparisons_of (map test_of t.tests)

abbrev pub binders_tried : Binding → Scope → Tuple → Trial
binders_tried (binding p x xs tests) s b = binds_tried (x ∷ xs) s b

-- all tuples of the binders, whether they pass or not
abbrev pub tuples_of : Binding → Names → Tuple → List Tuple
tuples_of (binding p x xs tests) names b = tuples (map (span_of names) (x ∷ xs)) b

abbrev pub passing : Comparisons → Names → List Tuple → List Tuple
passing ts names cs = filter (λ c. all_pass ts names c) cs

-- tuples are visited until one passes; then comes what is tried at it and behind it
abbrev pub seeking : Comparisons → Scope → (Tuple → List Tuple → Trial) → List Tuple → Trial
seeking ts s rest [] = nothing_tried
seeking ts s rest (c ∷ cs) = visit ▸ tests_tried ts s c ▸ (if all_pass ts s.names c then rest c cs else seeking ts s rest cs)

-- no tuple is shown yet
pub record Begins (x : Binding) (names : Names) (b : Tuple) (t : Sought) : Type 0 where
  pub tests : tests_of t ≡ tests_in x
  pub to_come : t.to_come ≡ tuples_of x names b

-- the next tuple that passes is shown
pub record Finds (s : Scope) (before after : Sought) (visited final : ℕ) : Type 0 where
  pub tests : after.tests ≡ before.tests
  pub tried : (rest : Tuple → List Tuple → Trial) → seeking (tests_of before) s rest before.to_come visited ≡ rest after.tuple after.to_come final
  pub passes : passing (tests_of before) s.names before.to_come ≡ after.tuple ∷ passing (tests_of before) s.names after.to_come
  pub shorter : length after.to_come < length before.to_come

-- none passes any more
pub record Ends (s : Scope) (before : Sought) (visited final : ℕ) : Type 0 where
  pub tried : (rest : Tuple → List Tuple → Trial) → seeking (tests_of before) s rest before.to_come visited ≡ reached final
  pub passes : passing (tests_of before) s.names before.to_come ≡ []

abbrev pub Seeks : Scope → Sought → Sought → ℕ → ℕ → Result Bool ExpandRefusal → Type 0
Seeks s before after visited final (Ok true) = Finds s before after visited final
Seeks s before after visited final (Ok false) = Ends s before visited final
Seeks s before after visited final (Err e) = (rest : Tuple → List Tuple → Trial) → IsStopped e (seeking (tests_of before) s rest before.to_come visited)

-- Tests: both sides, and whether they relate.
use Rattle.std.proofs.Common.{◌≡◌, ◌∙◌, ap, sym, ℕ, ℤ, Bool}
use Rattle.sm_syntax.specs.declared.expression.Test.{Test, out-Test}
use Rattle.sm_syntax.specs.Expressions.{expression_of, test_of}
use Rattle.sm_meaning.specs.declared.refusal.ExpandRefusal.{ExpandRefusal}
use Rattle.sm_meaning.specs.Cases.{number_of, number_tried}
use Rattle.sm_meaning.specs.Places.{place_of}
use Rattle.sm_meaning.specs.Trials.{reached, ◌▸◌, IsStopped}
use Rattle.sm_meaning.specs.Scopes.{Scope, Tuple}
use Rattle.sm_meaning.specs.Worths.{worth, passes, relates}
use Rattle.sm_meaning.specs.ExpressionTrials.{expression_tried, whole_tried, test_tried}
use Rattle.sm_expressions.proofs.Trees.{test_is}
use Rattle.sm_expressions.proofs.Trying.{in_turn, goes_on, stops_later, stopped_same}

module _ (t : Test) (s : Scope) (b : Tuple) where
  sides_tried : (count : ℕ) → (number_tried s (expression_of (out-Test t).left) b ▸ number_tried s (expression_of (out-Test t).right) b) count ≡ test_tried (test_of t) s b count
  sides_tried count =
      let x = expression_of (out-Test t).left in
      in_turn (expression_tried x s b) (whole_tried s (place_of x) (worth x s.names b)) (number_tried s (expression_of (out-Test t).right) b) count ∙ ap (λ c. test_tried c s b count) (sym (test_is t))

  pub right_stops : (e : ExpandRefusal) (count after : ℕ) → number_tried s (expression_of (out-Test t).left) b count ≡ reached after → IsStopped e (number_tried s (expression_of (out-Test t).right) b after)
      → IsStopped e (test_tried (test_of t) s b count)
  right_stops e count after h k =
      stopped_same e _ _ (sides_tried count) (stops_later e (number_tried s (expression_of (out-Test t).left) b) (number_tried s (expression_of (out-Test t).right) b) count after h k)

  -- both sides are whole numbers, and whether they relate
  pub sides_relate : (y z : ℤ) (is : Bool) (count middle after : ℕ) → number_tried s (expression_of (out-Test t).left) b count ≡ reached middle
      → number_tried s (expression_of (out-Test t).right) b middle ≡ reached after → y ≡ number_of s (expression_of (out-Test t).left) b → z ≡ number_of s (expression_of (out-Test t).right) b → is ≡ relates (out-Test t).relation y z
      → (test_tried (test_of t) s b count ≡ reached after) × (is ≡ passes (test_of t) s.names b)
  sides_relate y z is count middle after left right first second h = (
    sym (sides_tried count) ∙ goes_on (number_tried s (expression_of (out-Test t).left) b) (number_tried s (expression_of (out-Test t).right) b) count middle left ∙ right,
    h ∙ (λ i. relates (out-Test t).relation (first i) (second i)) ∙ ap (λ c. passes c s.names b) (sym (test_is t)),
  )

-- Entries: what is tried of them is what is tried of the expression, and then what is tried behind it.
use Rattle.std.proofs.Common.{◌≡◌, ◌∙◌, sym, refl, ℕ, ℤ, Bool, true, false, Result, Ok, Err}
use Rattle.std.specs.Prelude.{if◌then◌else◌}
use Rattle.sm_syntax.specs.Expressions.{Expression}
use Rattle.sm_kinds.specs.declared.element.Entry.TheVariants as entry
use Rattle.sm_syntax.specs.declared.place.Place.{Place}
use Rattle.sm_kinds.specs.declared.element.Entry.{Entry}
use Rattle.sm_meaning.specs.declared.refusal.ExpandRefusal.{ExpandRefusal}
use Rattle.sm_forms.specs.Meanings.{Meaning, is_constant, constant_of}
use Rattle.sm_meaning.specs.Trials.{Trial, Outcome, stopped, reached, resumed, ◌▸◌, nothing_tried, GoesThrough}
use Rattle.sm_meaning.specs.Scopes.{Tuple, Scope, count_of}
use Rattle.sm_meaning.specs.Worths.{worth}
use Rattle.sm_meaning.specs.Places.{place_of}
use Rattle.sm_meaning.specs.ExpressionTrials.{expression_tried}
use Rattle.sm_meaning.specs.Cases.{entry_tried, entry_of}
use Rattle.sm_expressions.proofs.Trying.{in_turn, goes_on, stops_later, stopped_same}
use Rattle.sm_parts.specs.Entries.{behind_entry, entry_meant}

pub entry_is : (s : Scope) (x : Expression) (b : Tuple) (count : ℕ) → entry_tried s x b count ≡ (expression_tried x s b ▸ behind_entry s (place_of x) (worth x s.names b)) count
entry_is s x b count = by_test (is_constant (count_of s) (worth x s.names b)) (expression_tried x s b) _ _
  where
    alone : (o : Outcome) → o ≡ resumed o nothing_tried
    alone (stopped e) = refl
    alone (reached n) = refl

    by_test : (t : Bool) (first second third : Trial) → (if t then first else (first ▸ second) ▸ third) count ≡ (first ▸ (if t then nothing_tried else second ▸ third)) count
    by_test true first second third = alone (first count)
    by_test false first second third = in_turn first second third count

-- a number is an entry, and nothing more is tried
pub number_goes : (s : Scope) (p : Place) (g : Meaning) (z : ℤ) (count : ℕ) → is_constant (count_of s) g ≡ true → z ≡ constant_of g
    → (behind_entry s p g count ≡ reached count) × (entry.Number z ≡ entry_meant s g)
number_goes s p g z count is same = (rw is refl, rw (is, same) refl)

pub entry_goes : (s : Scope) (x : Expression) (b : Tuple) (count after : ℕ) (r : Result Entry ExpandRefusal) → expression_tried x s b count ≡ reached after
    → GoesThrough (behind_entry s (place_of x) (worth x s.names b)) after after (λ v. v ≡ entry_meant s (worth x s.names b)) r
    → GoesThrough (entry_tried s x b) count after (λ v. v ≡ entry_of s x b) r
entry_goes s x b count after (Ok v) goes h = (entry_is s x b count ∙ goes_on (expression_tried x s b) (behind_entry s (place_of x) (worth x s.names b)) count after goes ∙ h.0, h.1)
entry_goes s x b count after (Err e) goes h =
    stopped_same e _ _ (sym (entry_is s x b count)) (stops_later e (expression_tried x s b) (behind_entry s (place_of x) (worth x s.names b)) count after goes h)

-- Binding one name after another.
use Rattle.std.proofs.Common.{◌≡◌, ◌∙◌, ap, sym, refl, ◌||◌, ℕ, Bool, true, false, List, [], ◌∷◌, ◌++◌, map, ℤ, pos, is_some, Option, Some, Err}
use Rattle.std.specs.Prelude.{if◌then◌else◌}
use Rattle.std.specs.List.{list_any}
use Rattle.std.specs.Str.{bytes_eq}
use Rattle.std.proofs.lemmas.List.{map-append}
use Rattle.sm_syntax.specs.declared.tree.Bind.{Bind}
use Rattle.sm_meaning.specs.declared.refusal.Wrong.TheVariants.{Doubled}
use Rattle.sm_meaning.specs.declared.refusal.ExpandRefusal.{ExpandRefusal}
use Rattle.sm_meaning.specs.Refusals.{wrong_if}
use Rattle.sm_meaning.specs.declared.range.Range.{Range}
use Rattle.sm_meaning.specs.Trials.{Trial, Outcome, stopped, reached, resumed, ◌▸◌, tried, GoesThrough}
use Rattle.sm_meaning.specs.Scopes.{found, Tuple, Scope, with_number}
use Rattle.sm_meaning.specs.Tuples.{numbers_of, set_numbers}
use Rattle.sm_meaning.specs.ExpressionTrials.{new_tried, set_tried, set_refused, binds_tried}
use Rattle.sm_scopes.specs.declared.cases.Wheel.{Wheel}
use Rattle.sm_scopes.specs.Wheels.{IsAtFirst}
use Rattle.sm_meaning.proofs.Steps.{stops, stops_later, goes_on}
use Rattle.sm_scopes.specs.Binding.{IsWheelOf, Binds}

-- ---- binding goes by names

-- whether a name is bound
bound_by_names : (b : Tuple) (n : List ℕ) → is_some (found b n) ≡ list_any (bytes_eq n) (map (λ e. e.0) b)
bound_by_names [] n = refl
bound_by_names (e ∷ b) n = by_test (bytes_eq n e.0) (found b n) (list_any (bytes_eq n) (map (λ e. e.0) b)) e.1 (bound_by_names b n)
  where
    by_test : (t : Bool) (o : Option ℤ) (p : Bool) (z : ℤ) → is_some o ≡ p → is_some (if t then Some z else o) ≡ (t || p)
    by_test true o p z h = refl
    by_test false o p z h = h

same_bound : (b c : Tuple) (n : List ℕ) → map (λ e. e.0) b ≡ map (λ e. e.0) c → is_some (found b n) ≡ is_some (found c n)
same_bound b c n h = bound_by_names b n ∙ ap (list_any (bytes_eq n)) h ∙ sym (bound_by_names c n)

pub binds_by_names : (xs : List Bind) (s : Scope) (b c : Tuple) (count : ℕ) → map (λ e. e.0) b ≡ map (λ e. e.0) c → binds_tried xs s b count ≡ binds_tried xs s c count
binds_by_names [] s b c count h = refl
binds_by_names (x ∷ xs) s b c count h =
    let b' : Tuple = with_number b x.name.text (pos 0) in
    let c' : Tuple = with_number c x.name.text (pos 0) in
    let h' : map (λ e. e.0) b' ≡ map (λ e. e.0) c' =
    map-append (λ (e : List ℕ × ℤ). e.0) b ((x.name.text, pos 0) ∷ []) ∙ ap (λ ns. ns ++ x.name.text ∷ []) h ∙ sym (map-append (λ (e : List ℕ × ℤ). e.0) c ((x.name.text, pos 0) ∷ [])) in
    let rest : Tuple → Trial = λ d. tried (set_refused (is_some (found c x.set.text)) (found s.names x.set.text) x.set.place) ▸ binds_tried xs s d in
    ap (λ k. (tried (wrong_if (k || is_some (found s.names x.name.text)) x.name.place Doubled) ▸ set_tried s b x.set ▸ binds_tried xs s b') count) (same_bound b c x.name.text h)
    ∙ ap (λ k. (new_tried s c x.name ▸ tried (set_refused k (found s.names x.set.text) x.set.place) ▸ binds_tried xs s b') count) (same_bound b c x.set.text h)
    ∙ after (new_tried s c x.name count) (set_tried s c x.set) (binds_tried xs s b') (binds_tried xs s c') (λ n. binds_by_names xs s b' c' n h')
  where
    last : (o : Outcome) (p q : Trial) → ((n : ℕ) → p n ≡ q n) → resumed o p ≡ resumed o q
    last (stopped r) p q h = refl
    last (reached n) p q h = h n

    after : (o : Outcome) (t p q : Trial) → ((n : ℕ) → p n ≡ q n) → resumed o (t ▸ p) ≡ resumed o (t ▸ q)
    after (stopped r) t p q h = refl
    after (reached n) t p q h = last (t n) p q h

-- ---- one binder

pub refused_new : (e : ExpandRefusal) (x : Bind) (s : Scope) (b : Tuple) → ((count : ℕ) → GoesThrough {X = Unit {0}} (new_tried s b x.name) count count (λ _. Unit {0}) (Err e)) → Binds x s b (Err e)
refused_new e x s b h xs count = stops e (new_tried s b x.name) (set_tried s b x.set ▸ binds_tried xs s (with_number b x.name.text (pos 0))) count (h count)

pub refused_set : (e : ExpandRefusal) (x : Bind) (s : Scope) (b : Tuple) (P : Range → Type 0) → ((count : ℕ) → new_tried s b x.name count ≡ reached count)
    → ((count : ℕ) → GoesThrough (set_tried s b x.set) count count P (Err e)) → Binds x s b (Err e)
refused_set e x s b P new h xs count =
    stops_later e (new_tried s b x.name) (set_tried s b x.set ▸ binds_tried xs s (with_number b x.name.text (pos 0))) count count (new count)
    (stops e (set_tried s b x.set) (binds_tried xs s (with_number b x.name.text (pos 0))) count (h count))

pub wheel_of : (x : Bind) (s : Scope) (b : Tuple) (w : Wheel) (r : Range) → ((count : ℕ) → new_tried s b x.name count ≡ reached count) → ((count : ℕ) → set_tried s b x.set count ≡ reached count)
    → set_numbers (found s.names x.set.text) ≡ numbers_of r → w.name.now ≡ x.name.text → w.range ≡ r → IsAtFirst w → IsWheelOf x s b w
wheel_of x s b w r new set numbers name range first =
    let b' : Tuple = with_number b x.name.text (pos 0) in
    let c : Tuple = with_number b w.name.now w.number in
    let same : map (λ e. e.0) b' ≡ map (λ e. e.0) c =
    map-append (λ (e : List ℕ × ℤ). e.0) b ((x.name.text, pos 0) ∷ []) ∙ ap (λ n. map (λ e. e.0) b ++ n ∷ []) (sym name) ∙ sym (map-append (λ (e : List ℕ × ℤ). e.0) b ((w.name.now, w.number) ∷ [])) in
    record {
      tried = λ xs count. goes_on (new_tried s b x.name) (set_tried s b x.set ▸ binds_tried xs s b') count count (new count)
          ∙ goes_on (set_tried s b x.set) (binds_tried xs s b') count count (set count)
          ∙ binds_by_names xs s b' c count same;
      span = λ i. (name i, (ap numbers_of range ∙ sym numbers) i);
      first = first;
    }

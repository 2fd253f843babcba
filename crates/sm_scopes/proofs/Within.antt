-- Binders, one after another, behind what is bound outside.
use Rattle.std.proofs.Common.{◌≡◌, ◌∙◌, ap, sym, subst, arith, ℕ, suc, ◌+◌, ◌<◌, List, [], ◌∷◌, ◌++◌, map, length, drop, drop-cons, add-one, get_or, All, ℤ, pos, ◌+ℤ◌, append_assoc, append-nil, Err}
use Rattle.std.specs.List.{flat_map}
use Rattle.std.proofs.lemmas.Int.{ints}
use Rattle.std.proofs.lemmas.List.{map-append}
use Rattle.std.proofs.lemmas.Grind.{common_steps}
use Rattle.sm_syntax.specs.declared.tree.Bind.{Bind}
use Rattle.sm_meaning.specs.declared.refusal.ExpandRefusal.{ExpandRefusal}
use Rattle.sm_meaning.specs.Trials.{reached, GoesThrough}
use Rattle.sm_meaning.specs.Scopes.{Tuple, Scope, with_number}
use Rattle.sm_meaning.specs.Tuples.{numbers_of, span_of, tuples}
use Rattle.sm_meaning.specs.ExpressionTrials.{binds_tried}
use Rattle.sm_scopes.specs.declared.cases.Wheel.{Wheel}
use Rattle.sm_scopes.specs.Wheels.{tuple_of, span, spans, IsAtFirst, IsFixed}
use Rattle.sm_meaning.proofs.Steps.{stopped_same}
use Rattle.sm_scopes.specs.Binding.{IsWheelOf, Binds}
use Rattle.sm_scopes.proofs.Wheels.{numbers_step, numbers_none, all_head, all_tail}

-- The wheels so far, with the binders that are left: what is tried and the tuples are those of all binders.
pub record Bound (all : List Bind) (s : Scope) (b : Tuple) (rest : List Bind) (ws : List Wheel) : Type 0 where
  pub tried : (count : ℕ) → binds_tried rest s (tuple_of ws) count ≡ binds_tried all s b count
  pub tuples : tuples (spans ws ++ map (span_of s.names) rest) [] ≡ tuples (map (span_of s.names) all) b
  pub first : All IsAtFirst ws

-- ---- what is bound outside

one_number : (w : Wheel) → IsFixed w → numbers_of w.range ≡ w.number ∷ []
one_number w f =
    numbers_step w.range (grind (arith, ints))
    ∙ ap (λ zs. w.range.least ∷ zs) (numbers_none (record { least = w.range.least +ℤ pos 1; greatest = w.range.greatest }) (grind (arith, ints)))
    ∙ ap (λ z. z ∷ []) f.least

fixed_tuples : (ws : List Wheel) (ys : List (List ℕ × List ℤ)) (b : Tuple) → All IsFixed ws → tuples (spans ws ++ ys) b ≡ tuples ys (b ++ tuple_of ws)
fixed_tuples [] ys b h = ap (tuples ys) (sym (append-nil b))
fixed_tuples (w ∷ ws) ys b h =
    let here : Tuple = with_number b w.name.now w.number in
    ap (flat_map (λ z. tuples (spans ws ++ ys) (with_number b w.name.now z))) (one_number w (all_head IsFixed w ws h))
    ∙ append-nil (tuples (spans ws ++ ys) here)
    ∙ fixed_tuples ws ys here (all_tail IsFixed w ws h)
    ∙ ap (tuples ys) (append_assoc b ((w.name.now, w.number) ∷ []) (tuple_of ws))

pub bound_first : (all : List Bind) (s : Scope) (b : Tuple) (ws : List Wheel) → tuple_of ws ≡ b → All IsFixed ws → Bound all s b all ws
bound_first all s b ws is fixed = record {
  tried = λ count. ap (λ c. binds_tried all s c count) is;
  tuples = fixed_tuples ws (map (span_of s.names) all) [] fixed ∙ ap (tuples (map (span_of s.names) all)) is;
  first = λ k d lt. record { first = sym (fixed k d lt).least };
}

-- ---- one more

pub bound_more : (all : List Bind) (s : Scope) (b : Tuple) (x : Bind) (rest : List Bind) (ws new : List Wheel) (w : Wheel) → Bound all s b (x ∷ rest) ws → IsWheelOf x s (tuple_of ws) w → new ≡ ws ++ w ∷ []
    → Bound all s b rest new
bound_more all s b x rest ws new w h is e =
    let shown : tuple_of new ≡ with_number (tuple_of ws) w.name.now w.number = ap tuple_of e ∙ map-append (λ (v : Wheel). (v.name.now, v.number)) ws (w ∷ []) in
    let spanned : spans new ++ map (span_of s.names) rest ≡ spans ws ++ map (span_of s.names) (x ∷ rest) =
    ap (λ us. spans us ++ map (span_of s.names) rest) e ∙ ap (λ us. us ++ map (span_of s.names) rest) (map-append span ws (w ∷ []))
    ∙ append_assoc (spans ws) (span w ∷ []) (map (span_of s.names) rest) ∙ ap (λ y. spans ws ++ (y ∷ map (span_of s.names) rest)) is.span in
    record {
      tried = λ count. ap (λ c. binds_tried rest s c count) shown ∙ sym (is.tried rest count) ∙ h.tried count;
      tuples = ap (λ ys. tuples ys []) spanned ∙ h.tuples;
      first = subst (All IsAtFirst) (sym e) (pushed ws w h.first is.first);
    }
  where
    pushed : (ws : List Wheel) (w : Wheel) → All IsAtFirst ws → IsAtFirst w → All IsAtFirst (ws ++ w ∷ [])
    pushed ws w h k = grind (arith, common_steps)

-- ---- how it ends

pub bound_stops : {X : Type 0} (e : ExpandRefusal) (all : List Bind) (s : Scope) (b : Tuple) (x : Bind) (rest : List Bind) (ws : List Wheel) (P : X → Type 0) (count : ℕ)
    → Bound all s b (x ∷ rest) ws → Binds x s (tuple_of ws) (Err e) → GoesThrough {X = X} (binds_tried all s b) count count P (Err e)
bound_stops e all s b x rest ws P count h k =
    stopped_same e (binds_tried (x ∷ rest) s (tuple_of ws) count) (binds_tried all s b count) (h.tried count) (k rest count)

pub bound_ends : (all : List Bind) (s : Scope) (b : Tuple) (ws : List Wheel) → Bound all s b [] ws → ((count : ℕ) → binds_tried all s b count ≡ reached count) × (tuples (spans ws) [] ≡ tuples (map (span_of s.names) all) b)
bound_ends all s b ws h = (λ count. sym (h.tried count), ap (λ ys. tuples ys []) (sym (append-nil (spans ws))) ∙ h.tuples)

-- the binders from one on
pub split_at : (xs : List Bind) (k : ℕ) (x : Bind) → k < length xs → x ≡ get_or xs k x → drop k xs ≡ x ∷ drop (k + 1) xs
split_at xs k x lt is = rw add-one (drop-cons xs k x lt ∙ ap (λ y. y ∷ drop (suc k) xs) (sym is))

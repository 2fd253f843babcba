-- What is bound outside, copied wheel by wheel.
use Rattle.std.proofs.Common.{◌≡◌, ◌∙◌, ap, sym, subst, arith, ℕ, suc, ◌+◌, ◌<◌, ◌≤◌, List, [], ◌∷◌, ◌++◌, length, drop, drop-cons, add-one, get_or, All, append_assoc, append-nil}
use Rattle.std.proofs.lemmas.List.{map-append, drop_all}
use Rattle.std.proofs.lemmas.Grind.{common_steps}
use Rattle.sm_scopes.specs.declared.cases.Wheel.{Wheel}
use Rattle.sm_scopes.specs.Wheels.{tuple_of, IsFixed}

-- the wheels so far show what the first k show outside, and each has one number
pub record Copies (outside : List Wheel) (k : ℕ) (wheels : List Wheel) : Type 0 where
  pub tuple : tuple_of wheels ++ tuple_of (drop k outside) ≡ tuple_of outside
  pub fixed : All IsFixed wheels

pub copies_more : (outside wheels new : List Wheel) (k : ℕ) (w v d : Wheel) → k < length outside → w ≡ get_or outside k d → v.name.now ≡ w.name.now → v.number ≡ w.number → IsFixed v → new ≡ wheels ++ v ∷ []
    → Copies outside k wheels → Copies outside (k + 1) new
copies_more outside wheels new k w v d lt is name number fits is_new h =
    let split : drop k outside ≡ w ∷ drop (k + 1) outside = rw add-one (drop-cons outside k d lt ∙ ap (λ x. x ∷ drop (suc k) outside) (sym is)) in
    let shown : tuple_of (v ∷ []) ≡ tuple_of (w ∷ []) = λ i. (name i, number i) ∷ [] in
    record {
      tuple = ap (λ ws. tuple_of ws ++ tuple_of (drop (k + 1) outside)) is_new
          ∙ ap (λ t. t ++ tuple_of (drop (k + 1) outside)) (map-append (λ (x : Wheel). (x.name.now, x.number)) wheels (v ∷ []))
          ∙ append_assoc (tuple_of wheels) (tuple_of (v ∷ [])) (tuple_of (drop (k + 1) outside))
          ∙ ap (λ t. tuple_of wheels ++ (t ++ tuple_of (drop (k + 1) outside))) shown
          ∙ ap (λ ws. tuple_of wheels ++ tuple_of ws) (sym split)
          ∙ h.tuple;
      fixed = subst (All IsFixed) (sym is_new) (grind (arith, common_steps));
    }

pub copies_all : (outside wheels : List Wheel) (k : ℕ) → length outside ≤ k → Copies outside k wheels → tuple_of wheels ≡ tuple_of outside
copies_all outside wheels k le h = sym (append-nil (tuple_of wheels)) ∙ ap (λ ws. tuple_of wheels ++ tuple_of ws) (sym (drop_all k outside le)) ∙ h.tuple

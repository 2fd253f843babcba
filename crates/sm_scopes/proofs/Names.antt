-- Names in the order in which they were told: what stands at one, and that a new one goes last.
use Rattle.std.proofs.Common.{◌≡◌, ap, refl, ℕ, Bool, true, false, List, [], ◌∷◌, ◌++◌, map, option_map, is_some, Result, Ok, Err, OnOk, sym, subst, arith, suc, ◌+◌, ◌<◌, ◌≤◌, length, get_or, All, IfSome}
use Rattle.std.proofs.lemmas.Grind.{common_steps}
use Rattle.sm_kinds.specs.declared.var.VarKind.{VarKind}
use Rattle.sm_kinds.specs.Limits.{most_variables}
use Rattle.std.specs.Prelude.{if◌then◌else◌, Option, Some, None}
use Rattle.std.specs.Borrow.{Bor}
use Rattle.std.specs.Map.{lookup}
use Rattle.std.specs.Option.{option_copied}
use Rattle.std.specs.Result.{is_err}
use Rattle.std.specs.Str.{bytes_eq}
use Rattle.indexmap.specs.IndexMap.{insert_entry}
use Rattle.sm_meaning.specs.Scopes as s
use Rattle.sm_meaning.specs.Scopes.{found, Names}
use Rattle.sm_scopes.specs.declared.scope.Thing.{Thing}
use Rattle.sm_scopes.specs.Things.{thing_of, HasVariables, IsKept}

abbrev pub entry_of : Bor (List ℕ) × Thing → List ℕ × s.Thing
entry_of e = (e.0.now, thing_of e.1)

abbrev pub is_key : List ℕ → Bor (List ℕ) → Bool
is_key name k = bytes_eq name k.now

pub found_at : (name : List ℕ) (es : List (Bor (List ℕ) × Thing)) → option_map thing_of (lookup (is_key name) es) ≡ found (map entry_of es) name
found_at name [] = refl
found_at name (e ∷ es) = by_test (bytes_eq name e.0.now) e.1 (lookup (is_key name) es) (found (map entry_of es) name) (found_at name es)
  where
    by_test : (b : Bool) (t : Thing) (o : Option Thing) (p : Option s.Thing) → option_map thing_of o ≡ p → option_map thing_of (if b then Some t else o) ≡ (if b then Some (thing_of t) else p)
    by_test true t o p h = refl
    by_test false t o p h = h

pub lent : (o : Option (Bor Thing)) → option_map (λ (t : Bor Thing). thing_of t.now) o ≡ option_map thing_of (option_copied o)
lent None = refl
lent (Some t) = refl

-- the head isn't the name, and the rest hasn't it
none_here : (b : Bool) (t : s.Thing) (o : Option s.Thing) → is_some (if b then Some t else o) ≡ false → (b ≡ false) × (is_some o ≡ false)
none_here true t o h = let wrong : true ≡ false = h in cc
none_here false t o h = (refl, h)

pub new_last : (key : Bor (List ℕ)) (t : Thing) (es : List (Bor (List ℕ) × Thing)) → is_some (found (map entry_of es) key.now) ≡ false
    → insert_entry (λ (k : Bor (List ℕ)). is_key k.now) es key t ≡ es ++ (key, t) ∷ []
new_last key t [] new = refl
new_last key t (e ∷ es) new =
    let p = none_here (bytes_eq key.now e.0.now) (thing_of e.1) (found (map entry_of es) key.now) new in
    rw p.0 (ap (λ us. e ∷ us) (new_last key t es p.1))

pub on_ok : {T E : Type 0} (r : Result T E) (P : Type 0) → OnOk r P → is_err r ≡ false → P
on_ok (Ok x) P h e = h
on_ok (Err x) P h e = let wrong : true ≡ false = e in cc

-- ---- what names stand for has variables that there are

pub found_has : (n : ℕ) (names : Names) (name : List ℕ) → All (λ (e : List ℕ × s.Thing). HasVariables n e.1) names → IfSome (found names name) (HasVariables n)
found_has n [] name h = tt
found_has n (e ∷ es) name h = by_test (bytes_eq name e.0) e.1 (found es name) (h 0 e (omega arith)) (found_has n es name (λ k d lt. h (suc k) d (omega arith)))
  where
    by_test : (b : Bool) (t : s.Thing) (o : Option s.Thing) → HasVariables n t → IfSome o (HasVariables n) → IfSome (if b then Some t else o) (HasVariables n)
    by_test true t o h k = h
    by_test false t o h k = k

pub lent_has : (n : ℕ) (o : Option (Bor Thing)) (p : Option s.Thing) → option_map (λ (t : Bor Thing). thing_of t.now) o ≡ p → IfSome p (HasVariables n) → IfSome o (λ t. HasVariables n (thing_of t.now))
lent_has n None p is h = tt
lent_has n (Some t) p is h = subst (λ q. IfSome q (HasVariables n)) (sym is) h

pub wider_has : (m n : ℕ) (t : s.Thing) → m ≤ n → HasVariables m t → HasVariables n t
wider_has m n (s.table t) le h = tt
wider_has m n (s.index_set r) le h = tt
wider_has m n (s.variable v) le h = omega arith
wider_has m n (s.family v sets) le h = omega arith

has_more : (n : ℕ) (t : s.Thing) → HasVariables n t → HasVariables (n + 1) t
has_more n (s.table t) h = tt
has_more n (s.index_set r) h = tt
has_more n (s.variable v) h = omega arith
has_more n (s.family v sets) h = omega arith

pub kept_name : (names : Names) (kinds : List VarKind) (name : List ℕ) (t : s.Thing) → IsKept names kinds → HasVariables (length kinds) t → IsKept (names ++ (name, t) ∷ []) kinds
kept_name names kinds name t h k = record { things = pushed (λ (e : List ℕ × s.Thing). HasVariables (length kinds) e.1) names (name, t) h.things k; few = h.few }
  where
    pushed : (P : List ℕ × s.Thing → Type 0) (xs : Names) (x : List ℕ × s.Thing) → All P xs → P x → All P (xs ++ x ∷ [])
    pushed P xs x h k = grind (arith, common_steps)

pub kept_kind : (names : Names) (kinds : List VarKind) (k : VarKind) → IsKept names kinds → length kinds < most_variables → IsKept names (kinds ++ k ∷ [])
kept_kind names kinds k h lt =
    let more : length (kinds ++ k ∷ []) ≡ length kinds + 1 = grind (arith, common_steps) in
    record { things = rw more (λ i d below. has_more (length kinds) (get_or names i d).1 (h.things i d below)); few = omega arith }

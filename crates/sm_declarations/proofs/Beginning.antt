-- The tables are known before the text begins.
use Rattle.std.proofs.Common.{◌≡◌, ◌∙◌, ap, ap₂, sym, refl, arith, ◌||◌, ℕ, zero, suc, ◌+◌, Bool, true, false, List, [], ◌∷◌, ◌++◌, take, slice_get, is_some, Option, Some, None}
use Rattle.std.specs.Prelude.{if◌then◌else◌}
use Rattle.std.proofs.Math.Seq.{take-nil}
use Rattle.std.specs.Str.{bytes_eq}
use Rattle.sm_kinds.specs.declared.var.VarKind.{VarKind}
use Rattle.sm_data.specs.Documents.{Entry, is_known}
use Rattle.sm_meaning.specs.Scopes as thing
use Rattle.sm_meaning.specs.Scopes.{Names, Thing, Scope, found}
use Rattle.sm_meaning.specs.Expansions.{beginning, scope_of}

-- a name is known exactly where some table has it
pub known_tables : (name : List ℕ) (tables : List Entry) → is_some (found (beginning tables).names name) ≡ is_known name tables
known_tables name [] = refl
known_tables name (e ∷ es) = by_test (bytes_eq name e.0) (thing.table e.1) (found (beginning es).names name) (is_known name es) (known_tables name es)
  where
    by_test : (b : Bool) (t : Thing) (o : Option Thing) (d : Bool) → is_some o ≡ d → is_some (if b then Some t else o) ≡ (b || d)
    by_test true t o d h = refl
    by_test false t o d h = h

nothing : {X : Type 0} (x : X) → None ≡ Some x → ⊥
nothing x h = cc

-- one more table
take_one : (tables : List Entry) (i : ℕ) (e : Entry) → slice_get tables i ≡ Some e → (beginning (take (i + 1) tables)).names ≡ (beginning (take i tables)).names ++ (e.0, thing.table e.1) ∷ []
take_one [] i e h = absurd (nothing e h)
take_one (x ∷ xs) zero e h = let same : x ≡ e = cc in ap (λ (y : Entry). (y.0, thing.table y.1) ∷ []) same
take_one (x ∷ xs) (suc i) e h =
    let next : suc i + 1 ≡ suc (i + 1) = omega arith in
    ap (λ (n : ℕ). (beginning (take n (x ∷ xs))).names) next ∙ ap (λ (ns : Names). (x.0, thing.table x.1) ∷ ns) (take_one xs i e h)

pub one_more : (tables : List Entry) (i : ℕ) (e : Entry) (old new : Scope) → slice_get tables i ≡ Some e → old ≡ scope_of (beginning (take i tables))
    → new.names ≡ old.names ++ (e.0, thing.table e.1) ∷ [] → new.kinds ≡ old.kinds → new ≡ scope_of (beginning (take (i + 1) tables))
one_more tables i e old new at is names kinds =
    ap₂ (λ (ns : Names) (ks : List VarKind). record { names = ns; kinds = ks })
    (names ∙ ap (λ (s : Scope). s.names ++ (e.0, thing.table e.1) ∷ []) is ∙ sym (take_one tables i e at))
    (kinds ∙ ap (λ (s : Scope). s.kinds) is)

-- there is no table more
pub no_more : (tables : List Entry) (i : ℕ) → None ≡ slice_get tables i → take (i + 1) tables ≡ take i tables
no_more [] i h = take-nil (i + 1) ∙ sym (take-nil i)
no_more (x ∷ xs) zero h = absurd (nothing x h)
no_more (x ∷ xs) (suc i) h =
    let next : suc i + 1 ≡ suc (i + 1) = omega arith in
    ap (λ (n : ℕ). take n (x ∷ xs)) next ∙ ap (λ ys. x ∷ ys) (no_more xs i h)

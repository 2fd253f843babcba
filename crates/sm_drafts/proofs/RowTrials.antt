-- What is tried of rows.
use Rattle.std.proofs.Common.{◌≡◌, ◌∙◌, ap, sym, refl, ℕ, List, [], ◌∷◌, ◌++◌, map, length, ℤ}
use Rattle.std.specs.Prelude.{Result, Ok, Err}
use Rattle.std.proofs.lemmas.List.{length-map}
use Rattle.sm_kinds.specs.declared.var.Var.{Var}
use Rattle.sm_kinds.specs.declared.literal.Literal.{Literal}
use Rattle.sm_flat.specs.Limits as flat
use Rattle.sm_forms.specs.Meanings.{Meaning, constant_of, terms_of}
use Rattle.sm_forms.specs.Forms.{IsFormOf}
use Rattle.sm_forms.specs.declared.form.Form.{Form}
use Rattle.sm_forms.proofs.Queries.{constant_is}
use Rattle.sm_meaning.specs.declared.refusal.ExpandRefusal.{ExpandRefusal}
use Rattle.sm_meaning.specs.Scopes.{count_of}
use Rattle.sm_meaning.specs.Expansions.{Expansion, vars_of, scope_of}
use Rattle.sm_meaning.specs.Trials.{each_tried}
use Rattle.sm_meaning.specs.Limits.{has_real}
use Rattle.sm_flattening.proofs.Counts.{real_terms}
use Rattle.sm_drafts.specs.Drafts.{Passes, bound_tried, bounds_tried}
use Rattle.sm_drafts.proofs.Parts.{refused_first, passed_first, passes_same, passes_single, passes-append, passes-map}

pub constant_passes : (n : ℕ) (g : Meaning) (f : Form) (r : Result (Unit {0}) ExpandRefusal) → IsFormOf n g f → Passes (bound_tried f.constant) r → Passes (bounds_tried (constant_of g ∷ [])) r
constant_passes n g f r h k =
    passes_single (bound_tried (constant_of g)) r (passes_same (bound_tried f.constant) (bound_tried (constant_of g)) r (λ count. ap (λ (z : ℤ). bound_tried z count) (sym (constant_is n g f h))) k)

abbrev bounds_in : List Literal → List ℤ
bounds_in ls = map (λ (l : Literal). l.bound) ls

abbrev Tried : List Literal → Result (Unit {0}) ExpandRefusal → Type 0
Tried ls r = Passes (each_tried (λ (l : Literal). bound_tried l.bound) ls) r

-- the literals are refused
pub when_refused : (ls : List Literal) (g : Meaning) (e : ExpandRefusal) → Tried ls (Err e) → Passes (bounds_tried (bounds_in ls ++ constant_of g ∷ [])) (Err e)
when_refused ls g e h =
    passes-append bound_tried (bounds_in ls) (constant_of g ∷ []) (Err e)
    (refused_first e (bounds_tried (bounds_in ls)) (bounds_tried (constant_of g ∷ [])) (passes-map bound_tried (λ (l : Literal). l.bound) ls ls (Err e) refl h))

-- the constant decides
pub when_passes : (ls : List Literal) (g : Meaning) (r : Result (Unit {0}) ExpandRefusal) → Tried ls (Ok tt) → Passes (bounds_tried (constant_of g ∷ [])) r
    → Passes (bounds_tried (bounds_in ls ++ constant_of g ∷ [])) r
when_passes ls g r h k =
    passes-append bound_tried (bounds_in ls) (constant_of g ∷ []) r
    (passed_first (bounds_tried (bounds_in ls)) (bounds_tried (constant_of g ∷ [])) r (passes-map bound_tried (λ (l : Literal). l.bound) ls ls (Ok tt) refl h) k)

-- a term of a real variable
pub real_row : (e : Expansion) (vs : List Var) (ts : List (ℕ × ℤ)) (g : Meaning) → vs ≡ vars_of e → ts ≡ terms_of (length vs) g
    → flat.has_real vs ts ≡ has_real (scope_of e) (count_of (scope_of e)) g
real_row e vs ts g is terms =
    let kinds = ap (λ us. map (λ (v : Var). v.kind) us) (sym is) in
    ap (λ us. flat.has_real vs us) terms
    ∙ real_terms vs (scope_of e) kinds (length vs) g
    ∙ ap (λ (n : ℕ). has_real (scope_of e) n g) (ap (λ us. length us) is ∙ sym (length-map (vars_of e) (λ (v : Var). v.kind)))

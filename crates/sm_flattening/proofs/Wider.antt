-- Further names and variables change no count of what is posted.
use Rattle.std.proofs.Common.{◌≡◌, ◌∙◌, ap, ap₂, refl, sym, ℕ, ◌+◌, ◌<◌, ◌≤◌, arith, List, [], ◌∷◌, ◌++◌, map, length, ℤ, Bool, if◌then◌else◌}
use Rattle.std.specs.Prelude.{◌||◌, All}
use Rattle.std.proofs.lemmas.List.{get_or_append_left, length-append, map-append}
use Rattle.std.proofs.lemmas.List.Elements.{All-head, All-tail}
use Rattle.sm_kinds.specs.declared.var.Var.{Var}
use Rattle.sm_kinds.specs.Vars.{is_real_kind, no_var}
use Rattle.sm_flat.specs.declared.form.Constraint.{Constraint}
use Rattle.sm_flat.specs.Limits as flat_limits
use Rattle.sm_syntax.specs.declared.tree.Name.{Name}
use Rattle.sm_syntax.specs.Trees.{Kind}
use Rattle.sm_forms.specs.Meanings.{Meaning, terms_of}
use Rattle.sm_meaning.specs.Scopes.{Scope, Thing, count_of}
use Rattle.sm_meaning.specs.Demands.{Demand, row, formula, row_when, kind}
use Rattle.sm_meaning.specs.Expansions.{Post, Declared, Expansion, vars_of, scope_of, with_name}
use Rattle.sm_meaning.specs.Declarations.{members_of, with_var}
use Rattle.sm_meaning.specs.Limits.{size_of, total_of, has_real, is_real_row, real_rows}
use Rattle.sm_flattening.specs.Counts.{HaveSameCounts}
use Rattle.sm_flattening.specs.Flattening.{IsFlattened}
use Rattle.sm_flattening.specs.Regularity.{IsAffine, HasAffineRow, AreRegular}
use Rattle.sm_flattening.proofs.Affine.{more_terms}
use Rattle.sm_flattening.proofs.Counts.{count_is, terms_count, real_meaning}
use Rattle.sm_flattening.proofs.Lists.{sum_same}
use Rattle.sm_flattening.proofs.MeaningTerms.{terms_below}

-- ---- sizes

size_wider : (m n : ℕ) (d : Demand) → m ≤ n → HasAffineRow m d → size_of n d ≡ size_of m d
size_wider m n (row c g) le h = sym (terms_count n g) ∙ ap (λ ts. length ts) (more_terms m n g le h) ∙ terms_count m g
size_wider m n (formula q) le h = refl
size_wider m n (row_when ls c g) le h = ap (λ (k : ℕ). length ls + k) (sym (terms_count n g) ∙ ap (λ ts. length ts) (more_terms m n g le h) ∙ terms_count m g)
size_wider m n (kind f) le h = refl

total_wider : (vars more : List Var) (ps : List Post) → AreRegular vars ps → total_of (length (vars ++ more)) ps ≡ total_of (length vars) ps
total_wider vars more ps regular =
    sum_same (λ (p : Post). size_of (length (vars ++ more)) p.demand) (λ (p : Post). size_of (length vars) p.demand) ps
    (λ k d lt. size_wider (length vars) (length (vars ++ more)) _ (omega (arith, length-append vars more)) (regular k d lt).affine)

-- ---- real variables

-- a known variable is the same among more
pub real_same : (vars more : List Var) (ts : List (ℕ × ℤ)) → All (λ t. t.0 < length vars) ts → flat_limits.has_real (vars ++ more) ts ≡ flat_limits.has_real vars ts
real_same vars more [] known = refl
real_same vars more (t ∷ ts) known =
    let first = All-head (λ (t : ℕ × ℤ). t.0 < length vars) t ts known in
    let rest = real_same vars more ts (All-tail (λ (t : ℕ × ℤ). t.0 < length vars) t ts known) in
    ap₂ (λ (x y : Bool). x || y) (ap (λ (v : Var). is_real_kind v.kind) (get_or_append_left vars more no_var t.0 first)) rest

module _ (vars more : List Var) (s t : Scope) (before : s.kinds ≡ map (λ (v : Var). v.kind) vars) (after : t.kinds ≡ map (λ (v : Var). v.kind) (vars ++ more)) where
  meaning_wider : (g : Meaning) → IsAffine (length vars) g → has_real t (count_of t) g ≡ has_real s (count_of s) g
  meaning_wider g h =
      sym (real_meaning (vars ++ more) t after g)
      ∙ ap (λ ts. flat_limits.has_real (vars ++ more) ts) (more_terms (length vars) (length (vars ++ more)) g (omega (arith, length-append vars more)) h)
      ∙ real_same vars more (terms_of (length vars) g) (terms_below (length vars) g)
      ∙ real_meaning vars s before g

  demand_wider : (d : Demand) → HasAffineRow (length vars) d → is_real_row t d ≡ is_real_row s d
  demand_wider (row c g) h = meaning_wider g h
  demand_wider (formula q) h = refl
  demand_wider (row_when ls c g) h = meaning_wider g h
  demand_wider (kind f) h = refl

  rows_wider : (ps : List Post) → AreRegular vars ps → real_rows t ps ≡ real_rows s ps
  rows_wider ps regular =
      sum_same (λ (p : Post). if is_real_row t p.demand then 1 else 0) (λ (p : Post). if is_real_row s p.demand then 1 else 0) ps
      (λ k d lt. ap (λ (b : Bool). if b then 1 else 0) (demand_wider _ (regular k d lt).affine))

-- ---- expansions

module _ (e : Expansion) (name : List ℕ) (t : Thing) where
  abbrev named : Scope
  named = scope_of (with_name e name t)

  -- the variables are the same
  named_real : (g : Meaning) → has_real named (count_of named) g ≡ has_real (scope_of e) (count_of (scope_of e)) g
  named_real g = sym (real_meaning (vars_of e) named refl g) ∙ real_meaning (vars_of e) (scope_of e) refl g

  named_demand : (d : Demand) → is_real_row named d ≡ is_real_row (scope_of e) d
  named_demand (row c g) = named_real g
  named_demand (formula q) = refl
  named_demand (row_when ls c g) = named_real g
  named_demand (kind f) = refl

  pub named_counts : HaveSameCounts e (with_name e name t)
  named_counts = record {
    posts = refl;
    total = refl;
    real_rows = sum_same (λ (p : Post). if is_real_row (scope_of e) p.demand then 1 else 0) (λ (p : Post). if is_real_row named p.demand then 1 else 0) e.posts
        (λ k d lt. ap (λ (b : Bool). if b then 1 else 0) (sym (named_demand _)));
  }

-- the members stand behind the variables before them, and over these all that is posted is regular
pub declared_counts : (e : Expansion) (vars : List Var) (cs : List Constraint) (name : Name) (sets : List Name) (k : Kind) → IsFlattened e vars cs → HaveSameCounts e (with_var name sets k e)
declared_counts e vars cs name sets k h =
    let s = scope_of e in
    let ds = members_of name sets k s in
    let more = map (λ (d : Declared). d.var) ds in
    let t = scope_of (with_var name sets k e) in
    let before : s.kinds ≡ map (λ (v : Var). v.kind) vars = ap (λ vs. map (λ (v : Var). v.kind) vs) (sym h.variables) in
    let after : t.kinds ≡ map (λ (v : Var). v.kind) (vars ++ more) =
    ap (λ vs. map (λ (v : Var). v.kind) vs) (map-append (λ (d : Declared). d.var) e.variables ds ∙ ap (λ (vs : List Var). vs ++ more) (sym h.variables)) in
    record {
      posts = refl;
      total = ap (λ n. total_of n e.posts) (count_is vars s before) ∙ sym (total_wider vars more e.posts h.regular) ∙ sym (ap (λ n. total_of n e.posts) (count_is (vars ++ more) t after));
      real_rows = sym (rows_wider vars more s t before after e.posts h.regular);
    }

-- The totals of the constraints stay as they are while names and variables come.
use Rattle.std.proofs.Common.{◌≡◌, ◌∙◌, ap, ap₂, refl, sym, ℕ, zero, suc, ◌+◌, ◌<◌, ◌≤◌, arith, List, [], ◌∷◌, ◌++◌, map, length, length-append, get_or, Bool, if◌then◌else◌}
use Rattle.std.specs.Prelude.{◌&&◌, ◌||◌, sum_by}
use Rattle.std.proofs.lemmas.List.Sums.{sum_by-cons}
use Rattle.std.proofs.lemmas.List.{map-append, length-map, get_or_append_left}
use Rattle.std.proofs.lemmas.List.Elements.{All-head, All-tail}
use Rattle.sm_kinds.specs.declared.var.Var.{Var}
use Rattle.sm_kinds.specs.declared.var.VarKind.{VarKind}
use Rattle.sm_kinds.specs.declared.var.VarKind.TheVariants.{Set}
use Rattle.sm_kinds.specs.Vars.{is_real_kind}
use Rattle.sm_flat.specs.Limits as flat
use Rattle.sm_data.specs.Documents.{Entry}
use Rattle.sm_forms.specs.Meanings.{Meaning}
use Rattle.sm_meaning.specs.Scopes.{Thing, Scope, count_of}
use Rattle.sm_meaning.specs.Cases.{kind_at}
use Rattle.sm_meaning.specs.Demands.{Demand, row, formula, row_when, kind}
use Rattle.sm_meaning.specs.Declarations.{with_variables}
use Rattle.sm_meaning.specs.Expansions.{Post, Declared, Expansion, vars_of, scope_of, beginning, with_name}
use Rattle.sm_meaning.specs.Limits.{matters, term_count, size_of, total_of, has_real, is_real_row, real_rows}
use Rattle.sm_flattening.specs.Regularity.{IsAffine, HasAffineRow, IsRegular, AreRegular}
use Rattle.sm_flattening.proofs.Affine.{more_terms}
use Rattle.sm_flattening.proofs.Counts.{terms_count, real_terms}
use Rattle.sm_drafts.specs.declared.adding.Totals.{Totals}
use Rattle.sm_drafts.specs.Sums.{AreTotals}

sums_same : (f h : Post → ℕ) (p : Post) (ps : List Post) → f p ≡ h p → sum_by f ps ≡ sum_by h ps → sum_by f (p ∷ ps) ≡ sum_by h (p ∷ ps)
sums_same f h p ps here rest = sum_by-cons f p ps ∙ ap₂ (λ (x y : ℕ). x + y) here rest ∙ sym (sum_by-cons h p ps)

-- ---- sizes

more_counted : (m n : ℕ) (g : Meaning) → m ≤ n → IsAffine m g → term_count n g ≡ term_count m g
more_counted m n g le h = sym (terms_count n g) ∙ ap (λ ts. length ts) (more_terms m n g le h) ∙ terms_count m g

size_wider : (m n : ℕ) (d : Demand) → m ≤ n → HasAffineRow m d → size_of n d ≡ size_of m d
size_wider m n (row c g) le h = more_counted m n g le h
size_wider m n (formula q) le h = refl
size_wider m n (row_when ls c g) le h = ap (λ (k : ℕ). length ls + k) (more_counted m n g le h)
size_wider m n (kind f) le h = refl

total_wider : (vars : List Var) (n : ℕ) (ps : List Post) → length vars ≤ n → AreRegular vars ps → total_of n ps ≡ total_of (length vars) ps
total_wider vars n [] le regular = refl
total_wider vars n (p ∷ ps) le regular =
    let first = All-head (λ (p : Post). IsRegular vars p.demand) p ps regular in
    sums_same (λ (q : Post). size_of n q.demand) (λ (q : Post). size_of (length vars) q.demand) p ps (size_wider (length vars) n p.demand le first.affine)
    (total_wider vars n ps le (All-tail (λ (p : Post). IsRegular vars p.demand) p ps regular))

-- ---- real variables

-- 1 of a row with a real variable
abbrev one_if : Scope → Post → ℕ
one_if s p = if is_real_row s p.demand then 1 else 0

kinds_same : (s t : Scope) (k : ℕ) (g : Meaning) → ((j : ℕ) → j < k → kind_at t j ≡ kind_at s j) → has_real t k g ≡ has_real s k g
kinds_same s t zero g e = refl
kinds_same s t (suc k) g e =
    ap₂ (λ (b : Bool) (x : VarKind). b || (matters g k && is_real_kind x)) (kinds_same s t k g (λ j lt. e j (omega arith))) (e k (omega arith))

abbrev kinds_of : List Var → List VarKind
kinds_of vs = map (λ (v : Var). v.kind) vs

module _ (s t : Scope) (vars more : List Var) (old : s.kinds ≡ kinds_of vars) (new : t.kinds ≡ kinds_of (vars ++ more)) where
  abbrev m : ℕ
  m = length vars

  abbrev n : ℕ
  n = length (vars ++ more)

  kind_same : (j : ℕ) → j < m → kind_at t j ≡ kind_at s j
  kind_same j lt =
      let known : j < length (kinds_of vars) = omega (arith, lt, length-map vars (λ (v : Var). v.kind)) in
      ap (λ ks. get_or ks j Set) (new ∙ map-append (λ (v : Var). v.kind) vars more) ∙ get_or_append_left (kinds_of vars) (kinds_of more) Set j known ∙ ap (λ ks. get_or ks j Set) (sym old)

  -- further variables don't matter to what is affine without them
  real_wider : (g : Meaning) → IsAffine m g → has_real t n g ≡ has_real s m g
  real_wider g h =
      sym (real_terms (vars ++ more) t new n g)
      ∙ ap (λ ts. flat.has_real (vars ++ more) ts) (more_terms m n g (omega (arith, length-append vars more)) h)
      ∙ real_terms (vars ++ more) t new m g
      ∙ kinds_same s t m g kind_same

  count_old : count_of s ≡ m
  count_old = ap (λ ks. length ks) old ∙ length-map vars (λ (v : Var). v.kind)

  count_new : count_of t ≡ n
  count_new = ap (λ ks. length ks) new ∙ length-map (vars ++ more) (λ (v : Var). v.kind)

  row_wider : (g : Meaning) → IsAffine m g → has_real t (count_of t) g ≡ has_real s (count_of s) g
  row_wider g h = ap (λ (k : ℕ). has_real t k g) count_new ∙ real_wider g h ∙ ap (λ (k : ℕ). has_real s k g) (sym count_old)

  real_row_wider : (d : Demand) → HasAffineRow m d → is_real_row t d ≡ is_real_row s d
  real_row_wider (row c g) h = row_wider g h
  real_row_wider (formula q) h = refl
  real_row_wider (row_when ls c g) h = row_wider g h
  real_row_wider (kind f) h = refl

  rows_wider : (ps : List Post) → AreRegular vars ps → real_rows t ps ≡ real_rows s ps
  rows_wider [] regular = refl
  rows_wider (p ∷ ps) regular =
      let first = All-head (λ (p : Post). IsRegular vars p.demand) p ps regular in
      sums_same (one_if t) (one_if s) p ps (ap (λ (b : Bool). if b then 1 else 0) (real_row_wider p.demand first.affine)) (rows_wider ps (All-tail (λ (p : Post). IsRegular vars p.demand) p ps regular))

-- ---- names

named_row : (s t : Scope) (d : Demand) → t.kinds ≡ s.kinds → is_real_row t d ≡ is_real_row s d
named_row s t (row c g) is = ap (λ ks. has_real t (length ks) g) is ∙ kinds_same s t (count_of s) g (λ j lt. ap (λ ks. get_or ks j Set) is)
named_row s t (formula q) is = refl
named_row s t (row_when ls c g) is = ap (λ ks. has_real t (length ks) g) is ∙ kinds_same s t (count_of s) g (λ j lt. ap (λ ks. get_or ks j Set) is)
named_row s t (kind f) is = refl

named_rows : (s t : Scope) (ps : List Post) → t.kinds ≡ s.kinds → real_rows t ps ≡ real_rows s ps
named_rows s t [] is = refl
named_rows s t (p ∷ ps) is = sums_same (one_if t) (one_if s) p ps (ap (λ (b : Bool). if b then 1 else 0) (named_row s t p.demand is)) (named_rows s t ps is)

-- ---- totals

pub begins : (tables : List Entry) → AreTotals (beginning tables) (record { constraints = 0; sizes = 0; real_rows = 0 })
begins tables = record { constraints = refl; sizes = refl; real_rows = refl; within = record { constraints = omega arith; sizes = omega arith; real_rows = omega arith } }

pub named : (e : Expansion) (t : Totals) (name : List ℕ) (x : Thing) → AreTotals e t → AreTotals (with_name e name x) t
named e t name x h = record {
  constraints = h.constraints;
  sizes = h.sizes;
  real_rows = h.real_rows ∙ sym (named_rows (scope_of e) (scope_of (with_name e name x)) e.posts refl);
  within = h.within;
}

pub declared : (e : Expansion) (t : Totals) (ds : List Declared) → AreRegular (vars_of e) e.posts → AreTotals e t → AreTotals (with_variables e ds) t
declared e t ds regular h =
    let vars = vars_of e in
    let more = map (λ (d : Declared). d.var) ds in
    let s = scope_of e in
    let u = scope_of (with_variables e ds) in
    let new : u.kinds ≡ kinds_of (vars ++ more) = ap (λ vs. kinds_of vs) (map-append (λ (d : Declared). d.var) e.variables ds) in
    let wider = total_wider vars (length (vars ++ more)) e.posts (omega (arith, length-append vars more)) regular in
    record {
      constraints = h.constraints;
      sizes = h.sizes ∙ ap (λ (k : ℕ). total_of k e.posts) (count_old s u vars more refl new) ∙ sym wider ∙ ap (λ (k : ℕ). total_of k e.posts) (sym (count_new s u vars more refl new));
      real_rows = h.real_rows ∙ sym (rows_wider s u vars more refl new e.posts regular);
      within = h.within;
    }

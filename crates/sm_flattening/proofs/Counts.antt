-- What limits count of a demand is what they count of its flat form.
use Rattle.std.proofs.Common.{◌≡◌, ◌∙◌, ap, ap₂, refl, sym, ℕ, zero, suc, ◌+◌, ◌≤◌, arith, List, [], ◌∷◌, map, length, get_or, ℤ, pos, Bool, true, false, if◌then◌else◌}
use Rattle.std.specs.Prelude.{not, ◌&&◌, ◌||◌, nat_le}
use Rattle.std.specs.List.{list_any}
use Rattle.std.specs.Ordering.{int_eq}
use Rattle.std.proofs.Math.ListN.{get_or-map}
use Rattle.std.proofs.lemmas.Grind.{common_steps}
use Rattle.std.proofs.lemmas.List.{length-append, length-map}
use Rattle.std.proofs.lemmas.List.Folds.{list_any-append}
use Rattle.sm_kinds.specs.declared.var.Var.{Var}
use Rattle.sm_kinds.specs.declared.var.VarKind.{VarKind}
use Rattle.sm_kinds.specs.declared.logic.Clause.{Clause}
use Rattle.sm_kinds.specs.Limits.{most_clauses}
use Rattle.sm_kinds.specs.Logic.{logic_size}
use Rattle.sm_kinds.specs.Vars.{is_real, is_real_kind, var_at, no_var}
use Rattle.sm_flat.specs.Forms as flat
use Rattle.sm_flat.specs.Limits as flat_limits
use Rattle.sm_clausify.specs.Clauses.{clauses_of}
use Rattle.sm_forms.specs.Meanings.{Meaning, coefficient, terms_of}
use Rattle.sm_meaning.specs.Scopes.{Scope, count_of}
use Rattle.sm_meaning.specs.Cases.{kind_at}
use Rattle.sm_meaning.specs.Demands.{Demand, row, formula, row_when, kind}
use Rattle.sm_meaning.specs.Limits.{term_count, size_of, formula_size, has_real}
use Rattle.sm_meaning.specs.Models.{demand_kind}
use Rattle.sm_flattening.specs.Flattening.{form_of}
use Rattle.sm_flattening.specs.Regularity.{HasFewClauses}

pub kind_same : (n : ℕ) (d : Demand) → flat.kind_of (form_of n d) ≡ demand_kind d
kind_same n (row c g) = refl
kind_same n (formula q) = refl
kind_same n (row_when ls c g) = refl
kind_same n (kind f) = refl

-- ---- terms

one_or_none : (b : Bool) (t : ℕ × ℤ) → length (if b then [] else t ∷ []) ≡ (if not b then 1 else 0)
one_or_none true t = refl
one_or_none false t = refl

pub terms_count : (n : ℕ) (g : Meaning) → length (terms_of n g) ≡ term_count n g
terms_count zero g = refl
terms_count (suc n) g =
    length-append (terms_of n g) (if int_eq (coefficient g n) (pos 0) then [] else (n, coefficient g n) ∷ [])
    ∙ ap₂ (λ (x y : ℕ). x + y) (terms_count n g) (one_or_none (int_eq (coefficient g n) (pos 0)) (n, coefficient g n))

-- ---- sizes

few_size : (cs : List Clause) → length cs ≤ most_clauses → logic_size cs ≡ formula_size cs
few_size cs few = by_case (nat_le (length cs) most_clauses) (grind (arith, common_steps))
  where
    by_case : (b : Bool) → b ≡ true → logic_size cs ≡ (if b then logic_size cs else 0)
    by_case true e = refl
    by_case false e = absurd (cc)

pub size_same : (n : ℕ) (d : Demand) → HasFewClauses d → flat.size_of (form_of n d) ≡ size_of n d
size_same n (row c g) few = terms_count n g
size_same n (formula q) few = few_size (clauses_of q false) few
size_same n (row_when ls c g) few = ap (λ (k : ℕ). length ls + k) (terms_count n g)
size_same n (kind f) few = refl

-- ---- real variables

module _ (vars : List Var) (s : Scope) (kinds : s.kinds ≡ map (λ (v : Var). v.kind) vars) where
  pub count_is : count_of s ≡ length vars
  count_is = ap length kinds ∙ length-map vars (λ (v : Var). v.kind)

  pub kind_is : (k : ℕ) → (var_at vars k).kind ≡ kind_at s k
  kind_is k = sym (get_or-map (λ (v : Var). v.kind) vars k no_var) ∙ ap (λ ks. get_or ks k no_var.kind) (sym kinds)

  any_or_none : (b : Bool) (t : ℕ × ℤ) → list_any (λ u. is_real vars u.0) (if b then [] else t ∷ []) ≡ (not b && is_real vars t.0)
  any_or_none true t = refl
  any_or_none false t = or_false (is_real vars t.0)
    where
      or_false : (b : Bool) → (b || false) ≡ b
      or_false true = refl
      or_false false = refl

  pub real_terms : (n : ℕ) (g : Meaning) → flat_limits.has_real vars (terms_of n g) ≡ has_real s n g
  real_terms zero g = refl
  real_terms (suc n) g =
      list_any-append (λ t. is_real vars t.0) (terms_of n g) (if int_eq (coefficient g n) (pos 0) then [] else (n, coefficient g n) ∷ [])
      ∙ ap₂ (λ (x y : Bool). x || y) (real_terms n g)
      (any_or_none (int_eq (coefficient g n) (pos 0)) (n, coefficient g n) ∙ ap (λ (k : VarKind). not (int_eq (coefficient g n) (pos 0)) && is_real_kind k) (kind_is n))

  pub real_meaning : (g : Meaning) → flat_limits.has_real vars (terms_of (length vars) g) ≡ has_real s (count_of s) g
  real_meaning g = real_terms (length vars) g ∙ ap (λ n. has_real s n g) (sym count_is)

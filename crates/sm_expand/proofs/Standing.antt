-- The flat constraints in which a variable stands are those of the posts in which it does.
use Rattle.std.proofs.Common.{◌≡◌, ◌∙◌, ap, ap₂, sym, refl, ℕ, ℤ, zero, suc, ◌<◌, ◌≤◌, arith, List, [], ◌∷◌, map, length, Bool, true, false, ◌==◌, All}
use Rattle.std.specs.Prelude.{pos, not, ◌||◌, Option, if◌then◌else◌}
use Rattle.std.specs.List.{list_any, filter}
use Rattle.std.specs.Ordering.{int_eq}
use Rattle.std.proofs.lemmas.Bool.Decides.{nat_tests}
use Rattle.std.proofs.lemmas.List.Elements.{All-head, All-tail}
use Rattle.std.proofs.lemmas.List.Folds.{list_any-append}
use Rattle.sm_flat.specs.declared.form.Constraint.{Constraint}
use Rattle.sm_flat.specs.declared.form.Form.{Form}
use Rattle.sm_flat.specs.declared.form.Form.TheVariants as form
use Rattle.sm_forms.specs.Meanings.{Meaning, coefficient, terms_of}
use Rattle.sm_meaning.specs.Demands.{Demand, row, formula, row_when, kind}
use Rattle.sm_meaning.specs.Expansions.{Post}
use Rattle.sm_meaning.specs.Limits.{matters}
use Rattle.sm_meaning.specs.Models.{stands_in, subs_of}
use Rattle.sm_flattening.specs.Flattening.{form_of, constraint_of, constraints_of}
use Rattle.sm_flattening.specs.FlatParts.{HasOwnKind}
use Rattle.sm_expand.specs.Subproblems.{has_term, stands_in_form, subs_in}

-- ---- terms

equals_itself : (k : ℕ) → (k == k) ≡ true
equals_itself k = by_test (k == k) refl
  where
    by_test : (t : Bool) → (k == k) ≡ t → (k == k) ≡ true
    by_test true h = h
    by_test false h = absurd (grind (arith, nat_tests))

differs : (i k : ℕ) → i < k → (k == i) ≡ false
differs i k lt = by_test (k == i) refl
  where
    by_test : (t : Bool) → (k == i) ≡ t → (k == i) ≡ false
    by_test true h = absurd (grind (arith, nat_tests))
    by_test false h = h

-- a term of the last variable is one of an earlier one
last_other : (i k : ℕ) (z : ℤ) (b : Bool) → i < k → has_term i (if b then [] else (k, z) ∷ []) ≡ false
last_other i k z true lt = refl
last_other i k z false lt = ap (λ (t : Bool). t || false) (differs i k lt)

last_own : (k : ℕ) (z : ℤ) (b : Bool) → has_term k (if b then [] else (k, z) ∷ []) ≡ not b
last_own k z true = refl
last_own k z false = ap (λ (t : Bool). t || false) (equals_itself k)

or_none : (x y : Bool) → y ≡ false → (x || y) ≡ x
or_none true y h = refl
or_none false y h = h

-- no variable from n on has a term among those of n variables
none_behind : (n i : ℕ) (g : Meaning) → n ≤ i → has_term i (terms_of n g) ≡ false
none_behind zero i g h = refl
none_behind (suc k) i g h =
    list_any-append (λ (t : ℕ × ℤ). t.0 == i) (terms_of k g) (if int_eq (coefficient g k) (pos 0) then [] else (k, coefficient g k) ∷ [])
    ∙ ap₂ (λ (x y : Bool). x || y) (none_behind k i g (omega arith)) (by_case (int_eq (coefficient g k) (pos 0)))
  where
    below : (k == i) ≡ false
    below = by_test (k == i) refl
      where
        by_test : (t : Bool) → (k == i) ≡ t → (k == i) ≡ false
        by_test true e = absurd (grind (arith, nat_tests))
        by_test false e = e

    by_case : (b : Bool) → has_term i (if b then [] else (k, coefficient g k) ∷ []) ≡ false
    by_case true = refl
    by_case false = ap (λ (t : Bool). t || false) below

-- a variable has a term exactly where it matters
pub has_term_is : (n i : ℕ) (g : Meaning) → i < n → has_term i (terms_of n g) ≡ matters g i
has_term_is zero i g lt = absurd (omega arith)
has_term_is (suc k) i g lt =
    list_any-append (λ (t : ℕ × ℤ). t.0 == i) (terms_of k g) (if int_eq (coefficient g k) (pos 0) then [] else (k, coefficient g k) ∷ [])
    ∙ by_place (has_term_is k i g) (k == i) refl
  where
    by_place : (i < k → has_term i (terms_of k g) ≡ matters g i) → (b : Bool) → (k == i) ≡ b → (has_term i (terms_of k g) || has_term i (if int_eq (coefficient g k) (pos 0) then [] else (k, coefficient g k) ∷ [])) ≡ matters g i
    by_place sooner true h =
        let same : k ≡ i = grind (arith, nat_tests) in
        rw (sym same) (ap₂ (λ (x y : Bool). x || y) (none_behind k k g (omega arith)) (last_own k (coefficient g k) (int_eq (coefficient g k) (pos 0))))
    by_place sooner false h =
        let less : i < k = grind (arith, nat_tests) in
        or_none (has_term i (terms_of k g)) _ (last_other i k (coefficient g k) (int_eq (coefficient g k) (pos 0)) less) ∙ sooner less

-- ---- constraints

own_kind : (i : ℕ) (f : Form) → HasOwnKind (kind f) → stands_in_form i f ≡ false
own_kind i (form.Linear r) h = absurd (h.0 refl)
own_kind i (form.Logic clauses) h = refl
own_kind i (form.When ls r) h = absurd (h.1 refl)
own_kind i (form.Alldiff vars) h = refl
own_kind i (form.Element x entries z) h = refl
own_kind i (form.IndexSum choice) h = refl
own_kind i (form.Cumulative capacity tasks) h = refl
own_kind i (form.Disjunctive tasks) h = refl
own_kind i (form.Packing packing) h = refl
own_kind i (form.Circuit vars) h = refl
own_kind i (form.Assign choice) h = refl

pub stands_same : (n i : ℕ) (d : Demand) → i < n → HasOwnKind d → stands_in_form i (form_of n d) ≡ stands_in i d
stands_same n i (row c g) lt h = has_term_is n i g lt
stands_same n i (formula q) lt h = refl
stands_same n i (row_when ls c g) lt h = has_term_is n i g lt
stands_same n i (kind f) lt h = own_kind i f h

-- one constraint more in front
pub subs_skip : (i : ℕ) (c : Constraint) (cs : List Constraint) → stands_in_form i c.form ≡ false → subs_in i (c ∷ cs) ≡ subs_in i cs
subs_skip i c cs h = rw h refl

pub subs_take : (i : ℕ) (c : Constraint) (cs : List Constraint) → stands_in_form i c.form ≡ true → subs_in i (c ∷ cs) ≡ c.tags.sub ∷ subs_in i cs
subs_take i c cs h = rw h refl

pub subs_same : (n i : ℕ) (ps : List Post) → i < n → All (λ (p : Post). HasOwnKind p.demand) ps → subs_in i (constraints_of n ps) ≡ subs_of i ps
subs_same n i [] lt h = refl
subs_same n i (p ∷ ps) lt h = by_case (subs_same n i ps lt (All-tail (λ (q : Post). HasOwnKind q.demand) p ps h)) (stands_in i p.demand) refl
  where
    here : stands_in_form i (form_of n p.demand) ≡ stands_in i p.demand
    here = stands_same n i p.demand lt (All-head (λ (q : Post). HasOwnKind q.demand) p ps h)

    by_case : subs_in i (constraints_of n ps) ≡ subs_of i ps → (b : Bool) → stands_in i p.demand ≡ b → subs_in i (constraints_of n (p ∷ ps)) ≡ subs_of i (p ∷ ps)
    by_case later true e = subs_take i (constraint_of n p) (constraints_of n ps) (here ∙ e) ∙ ap (λ (gs : List (Option ℕ)). p.tags.sub ∷ gs) later ∙ sym (rw e refl)
    by_case later false e = subs_skip i (constraint_of n p) (constraints_of n ps) (here ∙ e) ∙ later ∙ sym (rw e refl)

-- What an expression is that stands in a role and isn't refused.
use Rattle.std.proofs.Common.{◌≡◌, ◌∙◌, ◌⊎◌, inl, inr, sym, subst, refl, ℕ, zero, suc, ◌<◌, arith, List, map, length, ℤ, pos, Bool, true, false, Option, Some, None, IfSome, if◌then◌else◌}
use Rattle.std.specs.Prelude.{◌≢◌, ◌≤ℤ◌, int_lt, not, ◌&&◌, is_none, option_map}
use Rattle.std.specs.Ordering.{int_eq}
use Rattle.std.proofs.lemmas.Int.{ints}
use Rattle.std.proofs.lemmas.Option.{cond_some}
use Rattle.sm_kinds.specs.declared.var.Var.{Var}
use Rattle.sm_kinds.specs.declared.var.VarKind.{VarKind}
use Rattle.sm_kinds.specs.declared.var.VarKind.TheVariants.{Set, Int, Real}
use Rattle.sm_kinds.specs.declared.literal.Literal.{Literal as Condition}
use Rattle.sm_kinds.specs.Element.{EachEntryVar}
use Rattle.sm_kinds.specs.Vars.{IsSet, IsDiscrete, is_real_kind}
use Rattle.sm_syntax.specs.Expressions.{Expression, Literal, a_literal}
use Rattle.sm_forms.specs.Meanings.{Meaning, first, first_below, variable_of, is_constant, is_only, constant_of}
use Rattle.sm_meaning.specs.declared.refusal.Wrong.TheVariants as wrong
use Rattle.sm_meaning.specs.Refusals.{wrong_if}
use Rattle.sm_meaning.specs.Trials.{tried}
use Rattle.sm_meaning.specs.Scopes.{Tuple, Scope, count_of}
use Rattle.sm_meaning.specs.Worths.{worth}
use Rattle.sm_meaning.specs.Places.{place_of}
use Rattle.sm_meaning.specs.ExpressionTrials.{expression_tried}
use Rattle.sm_meaning.specs.Cases.{number_of, number_tried, amount_tried, or_zero, variable_at, kind_at, is_set_kind, single_tried, discrete_tried, set_variable_tried, entry_from, entry_of, entry_tried}
use Rattle.sm_meaning.specs.Formulas.{condition_of, condition_tried}
use Rattle.sm_meaning.specs.DemandTrials.{presence_tried}
use Rattle.sm_flattening.proofs.Counts.{count_is, kind_is}
use Rattle.sm_flattening.proofs.Reached.{Reaches, both, nothing_wrong}

-- ---- single variables

first_is : (a b : Option ℕ) (x : ℕ) → first a b ≡ Some x → (a ≡ Some x) ⊎ (b ≡ Some x)
first_is (Some y) b x h = inl h
first_is None b x h = inr h

-- what is found below n is found at some number below n
found_below : (n v : ℕ) (f : ℕ → Option ℕ) → ((i x : ℕ) → f i ≡ Some x → i ≡ x) → first_below n f ≡ Some v → v < n
found_below zero v f itself h = absurd (cc)
found_below (suc n) v f itself h = elim (first_is (first_below n f) (f n) v h) [
  | inl e ↦ omega (arith, found_below n v f itself e)
  | inr e ↦ omega (arith, itself n v e)
]

pub variable_below : (n v : ℕ) (g : Meaning) → variable_of n g ≡ Some v → v < n
variable_below n v g h =
    found_below n v (λ i. if is_only n i g && int_eq (constant_of g) (pos 0) then Some i else None)
    (λ i x e. (cond_some (is_only n i g && int_eq (constant_of g) (pos 0)) i x e).1) h

some_below : (n : ℕ) (o : Option ℕ) → ((v : ℕ) → o ≡ Some v → v < n) → is_none o ≡ false → or_zero o < n
some_below n None below h = absurd (cc)
some_below n (Some v) below h = below v refl

pub not_real : (k : VarKind) → is_real_kind k ≡ false → k ≢ Real
not_real Set h e = absurd (cc)
not_real Int h e = absurd (cc)
not_real Real h e = absurd (cc)

must_be_set : (k : VarKind) → not (is_set_kind k) ≡ false → k ≡ Set
must_be_set Set h = refl
must_be_set Int h = absurd (cc)
must_be_set Real h = absurd (cc)

not_below : (z : ℤ) → int_lt z (pos 0) ≡ false → pos 0 ≤ℤ z
not_below z h = grind (arith, ints)

module _ (vars : List Var) (s : Scope) (kinds : s.kinds ≡ map (λ (v : Var). v.kind) vars) where
  single_known : (x : Expression) (b : Tuple) → Reaches (single_tried s x b) → variable_at s x b < length vars
  single_known x b h =
      let o = variable_of (count_of s) (worth x s.names b) in
      let r = both (expression_tried x s b) (tried (wrong_if (is_none o) (place_of x) wrong.Variable)) h in
      subst (λ (n : ℕ). variable_at s x b < n) (count_is vars s kinds)
      (some_below (count_of s) o (λ v. variable_below (count_of s) v (worth x s.names b)) (nothing_wrong (is_none o) (place_of x) wrong.Variable r.1))

  pub discrete_is : (x : Expression) (b : Tuple) → Reaches (discrete_tried s x b) → IsDiscrete vars (variable_at s x b)
  discrete_is x b h =
      let v = variable_at s x b in
      let test = is_real_kind (kind_at s v) in
      let r = both (single_tried s x b) (tried (wrong_if test (place_of x) wrong.Kind)) h in
      record {
        known = single_known x b r.0;
        kind = subst (λ (k : VarKind). k ≢ Real) (sym (kind_is vars s kinds v)) (not_real (kind_at s v) (nothing_wrong test (place_of x) wrong.Kind r.1));
      }

  pub set_is : (x : Expression) (b : Tuple) → Reaches (set_variable_tried s x b) → IsSet vars (variable_at s x b)
  set_is x b h =
      let v = variable_at s x b in
      let test = not (is_set_kind (kind_at s v)) in
      let r = both (single_tried s x b) (tried (wrong_if test (place_of x) wrong.Kind)) h in
      record {
        known = single_known x b r.0;
        kind = kind_is vars s kinds v ∙ must_be_set (kind_at s v) (nothing_wrong test (place_of x) wrong.Kind r.1);
      }

  -- ---- entries and literals

  pub entry_is : (x : Expression) (b : Tuple) → Reaches (entry_tried s x b) → EachEntryVar (IsDiscrete vars) (entry_of s x b)
  entry_is x b h = by_kind (is_constant (count_of s) (worth x s.names b)) h
    where
      by_kind : (constant : Bool) → Reaches (if constant then expression_tried x s b else discrete_tried s x b)
          → EachEntryVar (IsDiscrete vars) (entry_from constant (number_of s x b) (variable_at s x b))
      by_kind true r = tt
      by_kind false r = discrete_is x b r

  pub condition_is : (l : Literal) (b : Tuple) → Reaches (condition_tried s l b) → IsDiscrete vars (condition_of s l b).var
  condition_is (a_literal p x r y) b h = discrete_is x b (both (discrete_tried s x b) (number_tried s y b) h).0

  pub presence_is : (o : Option Literal) (b : Tuple) → Reaches (presence_tried s o b) → IfSome (option_map (λ l. condition_of s l b) o) (λ (l : Condition). IsDiscrete vars l.var)
  presence_is None b h = tt
  presence_is (Some l) b h = condition_is l b h

-- ---- whole numbers

pub amount_is : (s : Scope) (x : Expression) (b : Tuple) → Reaches (amount_tried s x b) → pos 0 ≤ℤ number_of s x b
amount_is s x b h =
    let test = int_lt (number_of s x b) (pos 0) in
    let r = both (number_tried s x b) (tried (wrong_if test (place_of x) wrong.Value)) h in
    not_below (number_of s x b) (nothing_wrong test (place_of x) wrong.Value r.1)

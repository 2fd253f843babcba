-- Products, factor by factor.
use Rattle.std.proofs.Common.{◌≡◌, ◌∙◌, ap, sym, subst, refl, ℕ, suc, zero, arith, ℤ, pos, ◌≤◌, ◌+◌, ◌⊎◌, inl, inr, List, [], ◌∷◌, map, All, Bool, true, false, Ok}
use Rattle.std.specs.Prelude.{◌-ℤ◌, ◌*ℤ◌, ◌&&◌, nat_lt, if◌then◌else◌}
use Rattle.std.specs.Ordering.{int_eq}
use Rattle.std.proofs.lemmas.Int.{ints}
use Rattle.std.proofs.lemmas.Bool.Decides.{nat_tests}
use Rattle.sm_syntax.specs.declared.place.Place.{Place}
use Rattle.sm_meaning.specs.declared.refusal.Wrong.TheVariants.{Linear}
use Rattle.sm_meaning.specs.Refusals.{wrong_if}
use Rattle.std.proofs.Math.Path.{fun_ext}
use Rattle.sm_forms.specs.Meanings.{Meaning, nowhere, unit, coefficient, constant_of, is_constant}
use Rattle.sm_forms.specs.Forms.{IsForm, IsFormOf, value_at}
use Rattle.sm_forms.specs.declared.form.Form.{Form}
use Rattle.sm_forms.proofs.Queries.{int_eq-is}
use Rattle.sm_forms.proofs.Products.{product_left}
use Rattle.sm_forms.proofs.Uniqueness.{constant_value}
use Rattle.sm_meaning.specs.declared.refusal.ExpandRefusal.{ExpandRefusal}
use Rattle.sm_meaning.specs.Trials.{reached, tried, IsStopped}
use Rattle.sm_meaning.specs.Scopes.{Scope, count_of}
use Rattle.sm_meaning.specs.Worths.{times_of}
use Rattle.sm_meaning.specs.ExpressionTrials.{value_tried, one_if_varying}
use Rattle.sm_expressions.specs.Values.{IsValue}
use Rattle.sm_expressions.specs.Products.{varying_in, times_all, products_tried}
use Rattle.sm_expressions.proofs.Trying.{stops, goes_on, stopped_same}

-- ---- where some variable matters in a product

multiple_constant : (n : ℕ) (h : Meaning) (k : ℤ) → is_constant n h ≡ true → is_constant n (λ a. k *ℤ h a) ≡ true
multiple_constant zero h k is = refl
multiple_constant (suc n) h k is =
    let p = both (is_constant n h) (int_eq (coefficient h n) (pos 0)) is in
    rw (multiple_constant n h k p.0, none k (h (unit n)) (h nowhere) (int_eq-is (coefficient h n) (pos 0) p.1)) refl
  where
    both : (a b : Bool) → (a && b) ≡ true → (a ≡ true) × (b ≡ true)
    both true b e = (refl, e)
    both false b e = let wrong : false ≡ true = e in cc

    none : (k x y : ℤ) → x -ℤ y ≡ pos 0 → (k *ℤ x) -ℤ (k *ℤ y) ≡ pos 0
    none k x y e = let same : x ≡ y = omega (arith, ints) in rw same (omega (arith, ints))

-- a product of what is constant is constant
pub varying_times : (s : Scope) (g h : Meaning) (f : Form) → IsFormOf (count_of s) g f → one_if_varying s (times_of g h) ≤ one_if_varying s g + one_if_varying s h
varying_times s g h f form = by_tests (is_constant (count_of s) g) (is_constant (count_of s) h) (is_constant (count_of s) (times_of g h))
    (λ p q. ap (is_constant (count_of s)) (product_left g h (constant_of g) (constant_value (count_of s) g f form p)) ∙ multiple_constant (count_of s) h (constant_of g) q)
  where
    by_tests : (a b t : Bool) → (a ≡ true → b ≡ true → t ≡ true) → (if t then 0 else 1) ≤ (if a then 0 else 1) + (if b then 0 else 1)
    by_tests true true t k = rw (k refl refl) (omega arith)
    by_tests true false true k = omega arith
    by_tests true false false k = omega arith
    by_tests false b true k = omega arith
    by_tests false b false k = omega arith

one_constant : (s : Scope) (g h : Meaning) (rest : ℕ) → one_if_varying s g + (one_if_varying s h + rest) ≤ 1 → (is_constant (count_of s) g ≡ true) ⊎ (is_constant (count_of s) h ≡ true)
one_constant s g h rest few = by_tests (is_constant (count_of s) g) (is_constant (count_of s) h) few
  where
    by_tests : (a b : Bool) → (if a then 0 else 1) + ((if b then 0 else 1) + rest) ≤ 1 → (a ≡ true) ⊎ (b ≡ true)
    by_tests true b h = inl refl
    by_tests false true h = inr refl
    by_tests false false h = absurd (omega arith)

-- ---- a product so far, and the factors that are left

pub record Multiplies (s : Scope) (first : Form) (more : List Form) (product : Form) (rest : List Form) : Type 0 where
  pub start : one_if_varying s (value_at first) + varying_in s (map value_at more) ≤ 1
  pub form : IsForm (count_of s) product
  pub forms : All (λ f. IsForm (count_of s) f) rest
  pub few : one_if_varying s (value_at product) + varying_in s (map value_at rest) ≤ 1
  pub tried : (count : ℕ) → products_tried s (value_at product) (map value_at rest) count ≡ products_tried s (value_at first) (map value_at more) count
  pub worth : times_all (value_at product) (map value_at rest) ≡ times_all (value_at first) (map value_at more)

-- a form, of what it comes to itself
pub own : (s : Scope) (f : Form) → IsForm (count_of s) f → IsFormOf (count_of s) (value_at f) f
own s f h = record { form = h; comes_to = λ a. refl }

-- what a call that multiplies ensures
abbrev pub Product : Form → Form → (Scope → Meaning → Type 0) → Type 0
Product left right P = (s : Scope) (g h : Meaning) → IsFormOf (count_of s) g left → IsFormOf (count_of s) h right →
    (is_constant (count_of s) g ≡ true) ⊎ (is_constant (count_of s) h ≡ true) → P s (times_of g h)

module _ (s : Scope) (first : Form) (more : List Form) (product x : Form) (rest : List Form) (m : Multiplies s first more product (x ∷ rest)) where
  one : (is_constant (count_of s) (value_at product) ≡ true) ⊎ (is_constant (count_of s) (value_at x) ≡ true)
  one = one_constant s (value_at product) (value_at x) (varying_in s (map value_at rest)) m.few

  pub multiplies_stops : (e : ExpandRefusal) → Product product x (λ s g. (count : ℕ) → IsStopped e (value_tried s g count))
      → (count : ℕ) → IsStopped e (products_tried s (value_at first) (map value_at more) count)
  multiplies_stops e h count = stopped_same e _ _ (m.tried count)
      (stops e (value_tried s (times_of (value_at product) (value_at x))) (products_tried s (times_of (value_at product) (value_at x)) (map value_at rest)) count
      (h s (value_at product) (value_at x) (own s product m.form) (own s x (m.forms 0 x (omega arith))) one count))

  pub multiplies_more : (new : Form) → Product product x (λ s g. IsValue s g (Ok new)) → Multiplies s first more new rest
  multiplies_more new h =
      let made = h s (value_at product) (value_at x) (own s product m.form) (own s x (m.forms 0 x (omega arith))) one in
      let means : times_of (value_at product) (value_at x) ≡ value_at new = fun_ext ((made 0).1.comes_to) in
      let varying = varying_times s (value_at product) (value_at x) product (own s product m.form) in
      record {
        start = m.start;
        form = (made 0).1.form;
        forms = λ k d lt. m.forms (suc k) d (omega arith);
        few = subst (λ (g : Meaning). one_if_varying s g + varying_in s (map value_at rest) ≤ 1) means (omega (arith, varying, m.few));
        tried = λ count. ap (λ (g : Meaning). products_tried s g (map value_at rest) count) (sym means)
            ∙ sym (goes_on (value_tried s (times_of (value_at product) (value_at x))) (products_tried s (times_of (value_at product) (value_at x)) (map value_at rest)) count count (made count).0)
            ∙ m.tried count;
        worth = ap (λ (g : Meaning). times_all g (map value_at rest)) (sym means) ∙ m.worth;
      }

pub multiplies_ends : (s : Scope) (first : Form) (more : List Form) (product : Form) → Multiplies s first more product [] → (count : ℕ)
    → (products_tried s (value_at first) (map value_at more) count ≡ reached count) × IsFormOf (count_of s) (times_all (value_at first) (map value_at more)) product
multiplies_ends s first more product m count =
    (sym (m.tried count), subst (λ (g : Meaning). IsFormOf (count_of s) g product) m.worth (own s product m.form))

-- some variable matters in one factor at most
pub linear_goes : (k count : ℕ) (p : Place) → k ≤ 1 → tried (wrong_if (nat_lt 1 k) p Linear) count ≡ reached count
linear_goes k count p few = by_test (nat_lt 1 k) refl
  where
    by_test : (b : Bool) → nat_lt 1 k ≡ b → tried (wrong_if b p Linear) count ≡ reached count
    by_test true h = grind (arith, nat_tests)
    by_test false h = refl

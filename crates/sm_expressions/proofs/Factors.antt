-- Factors, one after another, and then their product; and names with their indices.
use Rattle.std.proofs.Common.{◌≡◌, ◌∙◌, ap, sym, subst, refl, ℕ, suc, ◌+◌, ℤ, List, [], ◌∷◌, ◌++◌, map, length, arith, append-nil, append_assoc, Result, Ok, All}
use Rattle.std.specs.Prelude.{nat_lt, not}
use Rattle.std.proofs.lemmas.List.{map-append}
use Rattle.std.proofs.Math.Path.{fun_ext}
use Rattle.std.proofs.lemmas.Grind.{common_steps}
use Rattle.sm_syntax.specs.declared.place.Place.{Place}
use Rattle.sm_syntax.specs.declared.tree.Name.{Name}
use Rattle.sm_syntax.specs.declared.expression.Expr.{Expr}
use Rattle.sm_syntax.specs.declared.expression.Term.{Term, out-Term}
use Rattle.sm_syntax.specs.declared.expression.Factor.{Factor}
use Rattle.sm_syntax.specs.Expressions.{Operands, no_operands, times, named, Expressions, expression_of, expressions_of, term_of, factor_of, operands_of}
use Rattle.sm_forms.specs.Meanings.{Meaning}
use Rattle.sm_forms.specs.Forms.{IsForm, IsFormOf, value_at}
use Rattle.sm_forms.specs.declared.form.Form.{Form}
use Rattle.sm_meaning.specs.declared.refusal.ExpandRefusal.{ExpandRefusal}
use Rattle.sm_meaning.specs.declared.refusal.Wrong.TheVariants.{Linear, Unknown}
use Rattle.sm_meaning.specs.Refusals.{wrong_if}
use Rattle.sm_meaning.specs.Trials.{Trial, reached, tried, ◌▸◌, IsStopped, GoesThrough}
use Rattle.sm_meaning.specs.Scopes.{Scope, Tuple, count_of, found, is_known}
use Rattle.sm_meaning.specs.Worths.{named_worth, product_worth, factors_worth, operand_worth, indices_of, times_of}
use Rattle.sm_meaning.specs.ExpressionTrials.{product_tried, operand_tried, operands_tried, factors_tried, varying, one_if_varying, indices_tried, value_tried}
use Rattle.sm_expressions.specs.declared.name.Known.{Known}
use Rattle.sm_expressions.specs.declared.name.Known.TheVariants as known
use Rattle.sm_expressions.specs.Named.{number_in, thing_in, IsKnown, behind_indices}
use Rattle.sm_expressions.specs.Products.{worths_of, varying_in, times_all, products_tried}
use Rattle.sm_expressions.proofs.Trees.{term_is}
use Rattle.sm_expressions.proofs.Trying.{in_turn, stops, stops_later, goes_on, goes_from, then_goes}

-- ---- a product is that of what its factors mean

varying_is : (xs : Operands) (s : Scope) (b : Tuple) → varying xs s b ≡ varying_in s (worths_of xs s b)
varying_is no_operands s b = refl
varying_is (times x xs) s b = ap (λ k. one_if_varying s (operand_worth x s.names b) + k) (varying_is xs s b)

tried_is : (xs : Operands) (s : Scope) (b : Tuple) (g : Meaning) → factors_tried xs s b g ≡ products_tried s g (worths_of xs s b)
tried_is no_operands s b g = refl
tried_is (times x xs) s b g = ap (λ (t : Trial). value_tried s (times_of g (operand_worth x s.names b)) ▸ t) (tried_is xs s b (times_of g (operand_worth x s.names b)))

worth_is : (xs : Operands) (s : Scope) (b : Tuple) (g : Meaning) → factors_worth xs s.names b g ≡ times_all g (worths_of xs s b)
worth_is no_operands s b g = refl
worth_is (times x xs) s b g = worth_is xs s b (times_of g (operand_worth x s.names b))

-- what is tried of the product of some meanings, in a term at this place
abbrev pub linear_tried : Place → Scope → Meaning → List Meaning → Trial
linear_tried p s g gs = tried (wrong_if (nat_lt 1 (one_if_varying s g + varying_in s gs)) p Linear) ▸ products_tried s g gs

-- ---- the factors so far, and those that are left

-- What is tried of the factors that are left, and then of what follows, is what is tried of all factors and what follows.
abbrev pub FactorsFrom : Term → List Factor → List Factor → Scope → Tuple → Form → List Form → ℕ → ℕ → Type 0
FactorsFrom x all rest s b first more start count =
    ((tail : Trial) → (operands_tried (operands_of (map factor_of rest)) s b ▸ tail) count
    ≡ (operand_tried (factor_of (out-Term x).first) s b ▸ operands_tried (operands_of (map factor_of all)) s b ▸ tail) start)
    × (map value_at more ++ worths_of (operands_of (map factor_of rest)) s b ≡ worths_of (operands_of (map factor_of all)) s b)
    × IsFormOf (count_of s) (operand_worth (factor_of (out-Term x).first) s.names b) first
    × All (λ f. IsForm (count_of s) f) more

all_pushed : (n : ℕ) (more : List Form) (new : Form) → All (λ f. IsForm n f) more → IsForm n new → All (λ f. IsForm n f) (more ++ new ∷ [])
all_pushed n more new h k = grind (arith, common_steps)

pub factor_goes : (x : Term) (all rest : List Factor) (y : Factor) (s : Scope) (b : Tuple) (first new : Form) (more pushed : List Form) (start count after : ℕ)
    → FactorsFrom x all (y ∷ rest) s b first more start count → GoesThrough (operand_tried (factor_of y) s b) count after (IsFormOf (count_of s) (operand_worth (factor_of y) s.names b)) (Ok new)
    → pushed ≡ more ++ new ∷ [] → FactorsFrom x all rest s b first pushed start after
factor_goes x all rest y s b first new more pushed start count after h k is =
    let means : operand_worth (factor_of y) s.names b ≡ value_at new = fun_ext k.1.comes_to in
    let others = operands_tried (operands_of (map factor_of rest)) s b in
    let worths = worths_of (operands_of (map factor_of rest)) s b in (
      λ tail. sym (goes_on (operand_tried (factor_of y) s b) (others ▸ tail) count after k.0) ∙ sym (in_turn (operand_tried (factor_of y) s b) others tail count) ∙ h.0 tail,
      ap (λ fs. map value_at fs ++ worths) is ∙ ap (λ gs. gs ++ worths) (map-append value_at more (new ∷ [])) ∙ append_assoc (map value_at more) (value_at new ∷ []) worths
          ∙ ap (λ (g : Meaning). map value_at more ++ g ∷ worths) (sym means) ∙ h.1,
      h.2,
      subst (All (λ f. IsForm (count_of s) f)) (sym is) (all_pushed (count_of s) more new h.3 k.1.form),
    )

-- All factors are gone through, and then their product: what is tried of it and what it comes to speak of the forms, which mean
-- what the factors mean.
pub product_goes : (x : Term) (s : Scope) (b : Tuple) (first : Form) (more : List Form) (start count : ℕ) (r : Result Form ExpandRefusal)
    → FactorsFrom x (out-Term x).more [] s b first more start count
    → GoesThrough (linear_tried (out-Term x).place s (value_at first) (map value_at more)) count count (IsFormOf (count_of s) (times_all (value_at first) (map value_at more))) r
    → GoesThrough (product_tried (term_of x) s b) start count (IsFormOf (count_of s) (product_worth (term_of x) s.names b)) r
product_goes x s b first more start count r h k =
    let xs = operands_of (map factor_of (out-Term x).more) in
    let g = operand_worth (factor_of (out-Term x).first) s.names b in
    let means : value_at first ≡ g = sym (fun_ext h.2.comes_to) in
    let worths : map value_at more ≡ worths_of xs s b = sym (append-nil (map value_at more)) ∙ h.1 in
    let linear = tried (wrong_if (nat_lt 1 (one_if_varying s g + varying xs s b)) (out-Term x).place Linear) ▸ factors_tried xs s b g in
    let whole : linear ≡ linear_tried (out-Term x).place s (value_at first) (map value_at more) =
    (λ i. tried (wrong_if (nat_lt 1 (one_if_varying s g + varying_is xs s b i)) (out-Term x).place Linear) ▸ tried_is xs s b g i)
    ∙ (λ i. linear_tried (out-Term x).place s (sym means i) (sym worths i)) in
    let worth : product_worth (term_of x) s.names b ≡ times_all (value_at first) (map value_at more) =
    ap (λ t. product_worth t s.names b) (term_is x) ∙ worth_is xs s b g ∙ (λ i. times_all (sym means i) (sym worths i)) in
    let trial : product_tried (term_of x) s b start ≡ linear_tried (out-Term x).place s (value_at first) (map value_at more) count =
    ap (λ t. product_tried t s b start) (term_is x) ∙ sym (h.0 linear) ∙ ap (λ (t : Trial). t count) whole in
    subst (λ (m : Meaning). GoesThrough (product_tried (term_of x) s b) start count (IsFormOf (count_of s) m) r) (sym worth)
    (goes_from (linear_tried (out-Term x).place s (value_at first) (map value_at more)) (product_tried (term_of x) s b) count start count (IsFormOf (count_of s) (times_all (value_at first) (map value_at more))) r trial k)

-- ---- numbers and names

pub indices-length : (xs : List Expr) (s : Scope) (b : Tuple) → length (indices_of (expressions_of (map expression_of xs)) s.names b) ≡ length xs
indices-length [] s b = refl
indices-length (x ∷ xs) s b = ap suc (indices-length xs s b)

-- what follows the place where a name is known
abbrev pub after_known : Place → Name → Expressions → Scope → Tuple → Trial
after_known p n xs s b = indices_tried xs s b ▸ behind_indices p (found b n.text) (found s.names n.text) (indices_of xs s.names b) xs s

pub unknown_stops : (p : Place) (n : Name) (xs : Expressions) (s : Scope) (b : Tuple) (e : ExpandRefusal) (count : ℕ) → IsStopped e (tried (wrong_if (not (is_known s b n.text)) p Unknown) count)
    → IsStopped e (operand_tried (named p n xs) s b count)
unknown_stops p n xs s b e count h = stops e (tried (wrong_if (not (is_known s b n.text)) p Unknown)) (after_known p n xs s b) count h

pub indices_stop : (p : Place) (n : Name) (xs : Expressions) (s : Scope) (b : Tuple) (e : ExpandRefusal) (count : ℕ) → tried (wrong_if (not (is_known s b n.text)) p Unknown) count ≡ reached count
    → IsStopped e (indices_tried xs s b count) → IsStopped e (operand_tried (named p n xs) s b count)
indices_stop p n xs s b e count known h =
    stops_later e (tried (wrong_if (not (is_known s b n.text)) p Unknown)) (after_known p n xs s b) count count known
    (stops e (indices_tried xs s b) (behind_indices p (found b n.text) (found s.names n.text) (indices_of xs s.names b) xs s) count h)

-- what a name stands for, whether a binder hides a thing or not
known_goes : (s : Scope) (b : Tuple) (name : List ℕ) (k : Known) (p : Place) (zs : List ℤ) (xs : Expressions) (count : ℕ) (r : Result Form ExpandRefusal) → IsKnown s b name k
    → GoesThrough (behind_indices p (number_in k) (thing_in k) zs xs s) count count (IsFormOf (count_of s) (named_worth (number_in k) (thing_in k) zs)) r
    → GoesThrough (behind_indices p (found b name) (found s.names name) zs xs s) count count (IsFormOf (count_of s) (named_worth (found b name) (found s.names name) zs)) r
known_goes s b name (known.Number z) p zs xs count r is h = rw is h
known_goes s b name (known.Thing t) p zs xs count r is h = rw (is.0, is.1) h

-- a name that is known, its indices, and what stands there
pub named_goes : (p : Place) (n : Name) (xs : Expressions) (s : Scope) (b : Tuple) (k : Known) (zs : List ℤ) (count after : ℕ) (r : Result Form ExpandRefusal)
    → tried (wrong_if (not (is_known s b n.text)) p Unknown) count ≡ reached count → IsKnown s b n.text k → indices_tried xs s b count ≡ reached after → zs ≡ indices_of xs s.names b
    → GoesThrough (behind_indices p (number_in k) (thing_in k) zs xs s) after after (IsFormOf (count_of s) (named_worth (number_in k) (thing_in k) zs)) r
    → GoesThrough (operand_tried (named p n xs) s b) count after (IsFormOf (count_of s) (operand_worth (named p n xs) s.names b)) r
named_goes p n xs s b k zs count after r known h numbers same j =
    let W : Form → Type 0 = IsFormOf (count_of s) (named_worth (found b n.text) (found s.names n.text) (indices_of xs s.names b)) in
    let behind = behind_indices p (found b n.text) (found s.names n.text) (indices_of xs s.names b) xs s in
    let last : GoesThrough behind after after W r =
    subst (λ (ys : List ℤ). GoesThrough (behind_indices p (found b n.text) (found s.names n.text) ys xs s) after after (IsFormOf (count_of s) (named_worth (found b n.text) (found s.names n.text) ys)) r) same
    (known_goes s b n.text k p zs xs after r h j) in
    then_goes (tried (wrong_if (not (is_known s b n.text)) p Unknown)) (indices_tried xs s b ▸ behind) count count after W r known (then_goes (indices_tried xs s b) behind count after after W r numbers last)

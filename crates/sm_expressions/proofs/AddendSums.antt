-- Terms that are added, one after another: what is tried of the rest, and what it comes to, is that of the whole.
use Rattle.std.proofs.Common.{◌≡◌, ◌∙◌, ap, sym, ℕ, List, ◌∷◌, map, Ok}
use Rattle.std.proofs.Math.Path.{fun_ext}
use Rattle.sm_syntax.specs.declared.expression.Expr.{Expr, out-Expr}
use Rattle.sm_syntax.specs.declared.expression.Addend.{Addend}
use Rattle.sm_syntax.specs.Expressions.{expression_of, term_of, addend_of, addends_of}
use Rattle.sm_forms.specs.Meanings.{Meaning}
use Rattle.sm_forms.specs.Forms.{IsForm, IsFormOf, value_at}
use Rattle.sm_forms.specs.declared.form.Form.{Form}
use Rattle.sm_meaning.specs.declared.refusal.ExpandRefusal.{ExpandRefusal}
use Rattle.sm_meaning.specs.Trials.{Trial, reached, ◌▸◌, IsStopped, GoesThrough}
use Rattle.sm_meaning.specs.Scopes.{Scope, Tuple, count_of}
use Rattle.sm_meaning.specs.Worths.{worth, sum_worth, product_worth, negated_if, with_addend}
use Rattle.sm_meaning.specs.ExpressionTrials.{expression_tried, sum_tried, product_tried, value_tried}
use Rattle.sm_expressions.proofs.Trees.{expression_is}
use Rattle.sm_expressions.proofs.Trying.{in_turn, stops, goes_on, stops_later, stopped_same}

module _ (x : Expr) (s : Scope) (b : Tuple) where
  -- what the sum is behind its first term
  abbrev pub begun : Meaning
  begun = negated_if (out-Expr x).is_negated (product_worth (term_of (out-Expr x).first) s.names b)

  tried_is : (count : ℕ) → expression_tried (expression_of x) s b count
      ≡ (product_tried (term_of (out-Expr x).first) s b ▸ value_tried s begun ▸ sum_tried (addends_of (map addend_of (out-Expr x).more)) s b begun) count
  tried_is count = ap (λ e. expression_tried e s b count) (expression_is x)

  pub first_stops : (e : ExpandRefusal) (count after : ℕ) → product_tried (term_of (out-Expr x).first) s b count ≡ reached after → IsStopped e (value_tried s begun after)
      → IsStopped e (expression_tried (expression_of x) s b count)
  first_stops e count after h k =
      let rest = sum_tried (addends_of (map addend_of (out-Expr x).more)) s b begun in
      stopped_same e _ _ (sym (tried_is count)) (stops_later e (product_tried (term_of (out-Expr x).first) s b) (value_tried s begun ▸ rest) count after h (stops e (value_tried s begun) rest after k))

  -- how the sum begins
  pub first_goes : (sum : Form) (count after : ℕ) → product_tried (term_of (out-Expr x).first) s b count ≡ reached after → GoesThrough (value_tried s begun) after after (IsFormOf (count_of s) begun) (Ok sum)
      → (sum_tried (addends_of (map addend_of (out-Expr x).more)) s b (value_at sum) after ≡ expression_tried (expression_of x) s b count)
      × (sum_worth (addends_of (map addend_of (out-Expr x).more)) s.names b (value_at sum) ≡ worth (expression_of x) s.names b)
      × IsForm (count_of s) sum
  first_goes sum count after h k =
      let means : begun ≡ value_at sum = fun_ext k.1.comes_to in
      let rest : Meaning → Trial = sum_tried (addends_of (map addend_of (out-Expr x).more)) s b in (
        ap (λ (g : Meaning). rest g after) (sym means)
            ∙ sym (goes_on (value_tried s begun) (rest begun) after after k.0)
            ∙ sym (goes_on (product_tried (term_of (out-Expr x).first) s b) (value_tried s begun ▸ rest begun) count after h)
            ∙ sym (tried_is count),
        ap (λ (g : Meaning). sum_worth (addends_of (map addend_of (out-Expr x).more)) s.names b g) (sym means) ∙ ap (λ e. worth e s.names b) (sym (expression_is x)),
        k.1.form,
      )

module _ (a : Addend) (rest : List Addend) (s : Scope) (b : Tuple) (sum : Form) where
  -- what is so far, with this term
  abbrev pub grown : Meaning
  grown = with_addend (value_at sum) (addend_of a).0 (product_worth (addend_of a).1 s.names b)

  pub term_stops : (e : ExpandRefusal) (count : ℕ) → IsStopped e ((product_tried (addend_of a).1 s b ▸ value_tried s grown) count)
      → IsStopped e (sum_tried (addends_of (map addend_of (a ∷ rest))) s b (value_at sum) count)
  term_stops e count h =
      let others = sum_tried (addends_of (map addend_of rest)) s b grown in
      stopped_same e _ _ (in_turn (product_tried (addend_of a).1 s b) (value_tried s grown) others count) (stops e (product_tried (addend_of a).1 s b ▸ value_tried s grown) others count h)

  pub term_goes : (new : Form) (count after : ℕ) → GoesThrough (product_tried (addend_of a).1 s b ▸ value_tried s grown) count after (IsFormOf (count_of s) grown) (Ok new)
      → (sum_tried (addends_of (map addend_of rest)) s b (value_at new) after ≡ sum_tried (addends_of (map addend_of (a ∷ rest))) s b (value_at sum) count)
      × (sum_worth (addends_of (map addend_of rest)) s.names b (value_at new) ≡ sum_worth (addends_of (map addend_of (a ∷ rest))) s.names b (value_at sum))
      × IsForm (count_of s) new
  term_goes new count after h =
      let means : grown ≡ value_at new = fun_ext h.1.comes_to in
      let others : Meaning → Trial = sum_tried (addends_of (map addend_of rest)) s b in (
        ap (λ (g : Meaning). others g after) (sym means)
            ∙ sym (goes_on (product_tried (addend_of a).1 s b ▸ value_tried s grown) (others grown) count after h.0)
            ∙ in_turn (product_tried (addend_of a).1 s b) (value_tried s grown) (others grown) count,
        ap (λ (g : Meaning). sum_worth (addends_of (map addend_of rest)) s.names b g) (sym means),
        h.1.form,
      )

use Rattle.std.proofs.Common.{All, drop, length}
use Rattle.sm_forms.specs.Forms.{IsForm}
use Rattle.sm_meaning.specs.Scopes.{Scope, count_of}
use Rattle.sm_expressions.proofs.Products.{Multiplies}
use Rattle.sm_expressions.proofs.product.product_form.Given as goal

abbrev pub invariant-loop-form : goal.invariant-loop-form
invariant-loop-form l = record {
  next : (goal.iterator-loop-form).can_next l.form-iterator;
  finite : (goal.iterator-loop-form).is_finite l.form-iterator;
  left : (s : Scope) → IsForm (count_of s) l.fn.first → All (λ f. IsForm (count_of s) f) l.fn.more.items
      → Multiplies s l.fn.first l.fn.more.items l.product (drop (length l.yielded) l.fn.more.items);
}

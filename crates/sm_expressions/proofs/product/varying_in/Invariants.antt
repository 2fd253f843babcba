use Rattle.std.proofs.Common.{◌≡◌, ◌+◌, ◌≤◌, All, drop, map}
use Rattle.sm_forms.specs.Forms.{IsForm, value_at}
use Rattle.sm_meaning.specs.Scopes.{Scope, count_of}
use Rattle.sm_expressions.specs.Products.{varying_in}
use Rattle.sm_expressions.proofs.product.varying_in.Given as goal

abbrev pub invariant-loop-form : goal.invariant-loop-form
invariant-loop-form l = record {
  few : l.count ≤ l.form-index;
  left : (s : Scope) → All (λ f. IsForm (count_of s) f) l.forms → l.count + varying_in s (map value_at (drop l.form-index l.forms)) ≡ varying_in s (map value_at l.forms);
}

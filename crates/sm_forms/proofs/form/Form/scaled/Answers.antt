use Rattle.std.proofs.Common.{rules, ◌≡◌, ◌∙◌, w64, FitsSigned}
use Rattle.std.specs.Int.{w128}
use Rattle.std.specs.Prelude.{◌*ℤ◌}
use Rattle.std.proofs.lemmas.Int.{to_z-of_z}
use Rattle.std.proofs.lemmas.Result.{err_from_is_err_and}
use Rattle.sm_forms.proofs.Scaling.{scaled_comes, scaled_terms_come, scaled_constant_comes}
use Rattle.sm_forms.proofs.form.Form.scaled.Goals as goal

pub returns-in_err-terms-clause-comes : goal.returns-in_err-terms-clause-comes
returns-in_err-terms-clause-comes c =
    let p = err_from_is_err_and c.from_residual.result c.from_residual.ensures.1 in
    let b = to_z-of_z w64 c.args.by c.ranges.by in
    let large = rw b at c.in_err-terms.ensures.large in
    rw (p.1, p.2) (λ n g x. scaled_terms_come n g c.args.self c.args.by x _ (large n x.form.terms))

pub returns-in_err-constant-clause-comes : goal.returns-in_err-constant-clause-comes
returns-in_err-constant-clause-comes c =
    let p = err_from_is_err_and c.from_residual-in_err-constant.result c.from_residual-in_err-constant.ensures.1 in
    let b = to_z-of_z w64 c.args.by c.ranges.by in
    let fits : FitsSigned w64 c.args.self.constant = search rules in
    let whole : FitsSigned w128 c.product.result = search rules in
    let is : c.product.result ≡ c.args.by *ℤ c.args.self.constant = rw (b, to_z-of_z w64 c.args.self.constant fits) at c.product.ensures in
    let large = rw (to_z-of_z w128 c.product.result whole, is) at c.in_err-constant.ensures.large in
    let rises = c.in_ok-terms.ensures.rises in
    let total = rw b at c.in_ok-terms.ensures.total in
    rw (p.1, p.2) (λ n g x. scaled_constant_comes n g c.args.self c.args.by x c.in_ok-terms.terms (rises n x.form.terms) total _ large)

pub returns-clause-comes : goal.returns-clause-comes
returns-clause-comes c =
    let b = to_z-of_z w64 c.args.by c.ranges.by in
    let fits : FitsSigned w64 c.args.self.constant = search rules in
    let constant : FitsSigned w64 c.in_ok-constant.constant = search rules in
    let whole : FitsSigned w128 c.product.result = search rules in
    let is : c.product.result ≡ c.args.by *ℤ c.args.self.constant = rw (b, to_z-of_z w64 c.args.self.constant fits) at c.product.ensures in
    let rises = c.in_ok-terms.ensures.rises in
    let total = rw b at c.in_ok-terms.ensures.total in
    rw (to_z-of_z w64 c.in_ok-constant.constant constant) (λ n g x.
    scaled_comes n g c.args.self c.args.by x (record { terms = c.in_ok-terms.terms; constant = c.in_ok-constant.constant })
    (rises n x.form.terms) total (c.in_ok-constant.ensures.same ∙ to_z-of_z w128 c.product.result whole ∙ is) c.in_ok-constant.ensures.small)

use Rattle.std.proofs.Common.{rules, ◌≡◌, ◌∙◌, w64, FitsSigned}
use Rattle.std.specs.Int.{w128}
use Rattle.std.specs.Prelude.{◌+ℤ◌, ◌*ℤ◌}
use Rattle.std.proofs.lemmas.Int.{to_z-of_z}
use Rattle.std.proofs.lemmas.Result.{err_from_is_err_and}
use Rattle.sm_forms.proofs.Values.{sums_are, terms_come, constant_comes, sum_comes, sum_of}
use Rattle.sm_forms.proofs.form.Form.combined.Goals as goal

pub returns-in_err-terms : goal.returns-in_err-terms
returns-in_err-terms c =
    let p = err_from_is_err_and c.from_residual.result c.from_residual.ensures.1 in
    let b = to_z-of_z w64 c.args.by c.ranges.by in
    let large = rw (b, c.as_slice.ensures) at c.in_err-terms.ensures.large in
    rw (p.1, p.2) (λ n g h x y. terms_come n g h c.args.self c.args.by c.args.other x y _ (large n x.form.terms y.form.terms))

pub returns-in_err-constant : goal.returns-in_err-constant
returns-in_err-constant c =
    let p = err_from_is_err_and c.from_residual-in_err-constant.result c.from_residual-in_err-constant.ensures.1 in
    let b = to_z-of_z w64 c.args.by c.ranges.by in
    let rises = rw c.as_slice.ensures at c.in_ok-terms.ensures.rises in
    let total = rw (b, c.as_slice.ensures) at c.in_ok-terms.ensures.total in
    let left : FitsSigned w64 c.args.self.constant = search rules in
    let right : FitsSigned w64 c.args.other.constant = search rules in
    let whole : FitsSigned w128 c.sum_of.result = search rules in
    let sum : c.sum_of.result ≡ c.args.self.constant +ℤ (c.args.by *ℤ c.args.other.constant) =
    rw (to_z-of_z w64 c.args.self.constant left, b, to_z-of_z w64 c.args.other.constant right) at c.sum_of.ensures in
    let large = rw (to_z-of_z w128 c.sum_of.result whole, sum) at c.in_err-constant.ensures.large in
    rw (p.1, p.2) (λ n g h x y.
    let rises = rises n x.form.terms y.form.terms in
    let total = total n x.form.terms y.form.terms in
    constant_comes n (sum_of g c.args.by h) c.in_ok-terms.terms _ rises (sums_are n g h c.args.self c.args.by c.args.other x y c.in_ok-terms.terms total) _ large)

pub returns : goal.returns
returns c =
    let b = to_z-of_z w64 c.args.by c.ranges.by in
    let rises = rw c.as_slice.ensures at c.in_ok-terms.ensures.rises in
    let total = rw (b, c.as_slice.ensures) at c.in_ok-terms.ensures.total in
    let left : FitsSigned w64 c.args.self.constant = search rules in
    let right : FitsSigned w64 c.args.other.constant = search rules in
    let constant : FitsSigned w64 c.in_ok-constant.constant = search rules in
    let whole : FitsSigned w128 c.sum_of.result = search rules in
    let sum : c.sum_of.result ≡ c.args.self.constant +ℤ (c.args.by *ℤ c.args.other.constant) =
    rw (to_z-of_z w64 c.args.self.constant left, b, to_z-of_z w64 c.args.other.constant right) at c.sum_of.ensures in
    rw (to_z-of_z w64 c.in_ok-constant.constant constant) (λ n g h x y.
    let rises = rises n x.form.terms y.form.terms in
    let total = total n x.form.terms y.form.terms in
    sum_comes n g h c.args.self c.args.by c.args.other x y (record { terms = c.in_ok-terms.terms; constant = c.in_ok-constant.constant })
    rises total (c.in_ok-constant.ensures.same ∙ to_z-of_z w128 c.sum_of.result whole ∙ sum) c.in_ok-constant.ensures.small)

use Rattle.std.proofs.Common.{subst, sym, ℕ, ◌≤◌}
use Rattle.std.proofs.lemmas.Result.{err_from_is_err_and}
use Rattle.sm_meaning.specs.Limits.{coefficients_tried}
use Rattle.sm_drafts.proofs.Parts.{one_more, refused_at, all_passed}
use Rattle.sm_goals.proofs.Forms.{form_at, forms-length}
use Rattle.sm_goals.proofs.limits.try_all_coefficients.Goals as goal

pub returns-in_err-try_coefficients : goal.returns-in_err-try_coefficients
returns-in_err-try_coefficients c =
    let p = err_from_is_err_and c.from_residual.result c.from_residual.ensures.1 in
    rw (p.1, p.2) (λ n gs h.
    let here = form_at n gs c.args.forms.now c.loop-aimed.aimed-index c.aimed-item.result h c.loop-aimed-test.true c.aimed-item.is in
    refused_at c.in_err-try_coefficients.field-0.0 (coefficients_tried n) gs c.loop-aimed.aimed-index here.meaning here.split (c.loop-aimed.invariant n gs h) (c.in_err-try_coefficients.ensures n here.meaning here.form))

pub loop-aimed-preserved : goal.loop-aimed-preserved
loop-aimed-preserved c = λ n gs h.
    let here = form_at n gs c.args.forms.now c.loop-aimed.aimed-index c.aimed-item.result h c.loop-aimed-test.true c.aimed-item.is in
    one_more (coefficients_tried n) gs c.loop-aimed.aimed-index here.meaning here.split (c.loop-aimed.invariant n gs h) (c.in_ok-try_coefficients.ensures n here.meaning here.form)

pub returns : goal.returns
returns c = λ n gs h.
    all_passed (coefficients_tried n) gs c.loop-aimed.aimed-index tt (subst (λ (k : ℕ). k ≤ c.loop-aimed.aimed-index) (sym (forms-length n gs c.args.forms.now h)) c.loop-aimed-test.false) (c.loop-aimed.invariant n gs h)

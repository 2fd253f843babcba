use Rattle.std.proofs.Common.{subst, sym, refl, ap, ℕ, ℤ, ◌≤◌}
use Rattle.std.specs.Prelude.{Err, Ok}
use Rattle.std.proofs.lemmas.Result.{err_from_is_err_and}
use Rattle.sm_forms.specs.Meanings.{Meaning, constant_of}
use Rattle.sm_forms.proofs.Queries.{constant_is}
use Rattle.sm_drafts.specs.Drafts.{bound_tried}
use Rattle.sm_drafts.proofs.Parts.{one_more, refused_at, all_passed, passes_same, passes-map}
use Rattle.sm_goals.proofs.Forms.{form_at, forms-length}
use Rattle.sm_goals.proofs.limits.try_constants.Goals as goal

pub returns-in_err-try_bound : goal.returns-in_err-try_bound
returns-in_err-try_bound c =
    let p = err_from_is_err_and c.from_residual.result c.from_residual.ensures.1 in
    let e = c.in_err-try_bound.field-0.0 in
    let x = c.aimed-item.result in
    rw (p.1, p.2) (λ n gs h.
    let here = form_at n gs c.args.forms.now c.loop-aimed.aimed-index x h c.loop-aimed-test.true c.aimed-item.is in
    let same = λ (count : ℕ). ap (λ (z : ℤ). bound_tried z count) (sym (constant_is n here.meaning x.form here.form)) in
    passes-map bound_tried constant_of gs gs (Err e) refl
    (refused_at e (λ (g : Meaning). bound_tried (constant_of g)) gs c.loop-aimed.aimed-index here.meaning here.split (c.loop-aimed.invariant n gs h)
    (passes_same (bound_tried x.form.constant) (bound_tried (constant_of here.meaning)) (Err e) same c.in_err-try_bound.ensures.tried)))

pub loop-aimed-preserved : goal.loop-aimed-preserved
loop-aimed-preserved c = λ n gs h.
    let x = c.aimed-item.result in
    let here = form_at n gs c.args.forms.now c.loop-aimed.aimed-index x h c.loop-aimed-test.true c.aimed-item.is in
    let same = λ (count : ℕ). ap (λ (z : ℤ). bound_tried z count) (sym (constant_is n here.meaning x.form here.form)) in
    one_more (λ (g : Meaning). bound_tried (constant_of g)) gs c.loop-aimed.aimed-index here.meaning here.split (c.loop-aimed.invariant n gs h)
    (passes_same (bound_tried x.form.constant) (bound_tried (constant_of here.meaning)) (Ok tt) same c.in_ok-try_bound.ensures.tried)

pub returns : goal.returns
returns c = λ n gs h.
    passes-map bound_tried constant_of gs gs (Ok tt) refl
    (all_passed (λ (g : Meaning). bound_tried (constant_of g)) gs c.loop-aimed.aimed-index tt (subst (λ (k : ℕ). k ≤ c.loop-aimed.aimed-index) (sym (forms-length n gs c.args.forms.now h)) c.loop-aimed-test.false)
    (c.loop-aimed.invariant n gs h))

use Rattle.std.proofs.lemmas.Result.{err_from_is_err_and}
use Rattle.sm_drafts.proofs.SizedForms.{sized_refused, total_refused, sized_passes}
use Rattle.sm_drafts.proofs.adding.sized_form.Goals as goal

pub returns-in_err-form : goal.returns-in_err-form
returns-in_err-form c =
    let p = err_from_is_err_and c.from_residual.result c.from_residual.ensures.1 in
    rw (p.1, p.2) (λ n d h count. sized_refused n d c.args.sizes count c.in_err-form.field-0.0 c.requires.within (c.in_err-form.ensures n d h count))

pub returns-in-Err : goal.returns-in-Err
returns-in-Err c = λ n d h count. total_refused n d c.in_ok-form.form c.args.sizes count c.in-Err.refusal (c.in_ok-form.ensures n d h count).1 (c.in-Err.ensures count)

pub returns-in-Ok : goal.returns-in-Ok
returns-in-Ok c = λ n d h count. sized_passes n d c.in_ok-form.form c.args.sizes c.in-Ok.sizes count (c.in_ok-form.ensures n d h count) (c.in-Ok.ensures count)

use Rattle.std.proofs.Common.{length}
use Rattle.std.proofs.lemmas.Result.{err_from_is_err_and}
use Rattle.sm_drafts.specs.TagDrafts.{tags_of}
use Rattle.sm_drafts.proofs.Additions.{front_refused, middle_refused, rest_refused, added}
use Rattle.sm_drafts.proofs.adding.constraint.Goals as goal

pub returns-in-Err : goal.returns-in-Err
returns-in-Err c =
    let vars = c.args.vars.now in
    λ e p is of h tagged count. front_refused e p vars c.args.totals is of c.in-Err.refusal count (c.in-Err.ensures.tried (length vars) p.demand h count)

pub returns-in_err-form : goal.returns-in_err-form
returns-in_err-form c =
    let r = err_from_is_err_and c.from_residual.result c.from_residual.ensures.1 in
    let vars = c.args.vars.now in
    rw (r.1, r.2) (λ e p is of h tagged count.
    middle_refused e p vars c.args.totals is of c.in_err-form.field-0.0 count (c.in_default.ensures.tried (length vars) p.demand h count).0 (c.in_err-form.ensures (length vars) p.demand h count))

pub returns-in-Err-try_rest : goal.returns-in-Err-try_rest
returns-in-Err-try_rest c =
    let vars = c.args.vars.now in
    λ e p is of h tagged count.
    let sized = c.in_ok-form.ensures (length vars) p.demand h count in
    rest_refused e p vars c.args.totals is of c.in-Err-try_rest.refusal c.in_ok-form.field-0.form c.one_if_real_row.result (tags_of c.args.tags) count sized.1.form (c.one_if_real_row.ensures.value e p.demand is h) tagged
    (c.in_default.ensures.tried (length vars) p.demand h count).0 sized.0 (c.in-Err-try_rest.ensures count)

pub returns : goal.returns
returns c =
    let vars = c.args.vars.now in
    λ e p is of h tagged count.
    let sized = c.in_ok-form.ensures (length vars) p.demand h count in
    rw ((c.in-Ok.ensures count).1) (added e p vars c.args.totals is of c.in_ok-form.field-0.form c.in_ok-form.field-0.sizes c.one_if_real_row.result (tags_of c.args.tags) count sized.1 (c.one_if_real_row.ensures.value e p.demand is h) tagged
    (c.in_default.ensures.tried (length vars) p.demand h count).0 sized.0 (c.in-Ok.ensures count).0)

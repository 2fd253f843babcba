use Rattle.std.proofs.Common.{◌≡◌, ◌∙◌, subst, length}
use Rattle.sm_meaning.specs.Expansions.{scope_of}
use Rattle.sm_meaning.specs.Limits.{is_real_row}
use Rattle.sm_drafts.specs.Drafts.{IsDraftOf}
use Rattle.sm_drafts.proofs.DemandSorts.{of_row, of_when}
use Rattle.sm_drafts.proofs.RowTrials.{real_row}
use Rattle.sm_drafts.proofs.reals.is_real_row.Goals as goal

pub returns-in-Row : goal.returns-in-Row
returns-in-Row c = λ e d is h.
    let vars = c.args.vars.now in
    let n = length vars in
    of_row n d c.in-Row.cmp c.in-Row.form (λ x. c.has_real.result ≡ is_real_row (scope_of e) x) (subst (IsDraftOf n d) c.in-Row.is h)
    (λ g k. c.has_real.ensures ∙ real_row e vars c.terms.result.now g is (c.terms.ensures.value n g k))

pub returns-in-RowWhen : goal.returns-in-RowWhen
returns-in-RowWhen c = λ e d is h.
    let vars = c.args.vars.now in
    let n = length vars in
    of_when n d c.in-RowWhen.literals c.in-RowWhen.cmp c.in-RowWhen.form (λ x. c.has_real-in-RowWhen.result ≡ is_real_row (scope_of e) x) (subst (IsDraftOf n d) c.in-RowWhen.is h)
    (λ g k. c.has_real-in-RowWhen.ensures ∙ real_row e vars c.terms-in-RowWhen.result.now g is (c.terms-in-RowWhen.ensures.value n g k))

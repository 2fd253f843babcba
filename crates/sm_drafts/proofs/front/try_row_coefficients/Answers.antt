use Rattle.std.proofs.Common.{subst}
use Rattle.sm_meaning.specs.Limits.{row_coefficients_tried}
use Rattle.sm_drafts.specs.Drafts.{IsDraftOf, Passes}
use Rattle.sm_drafts.proofs.DemandSorts.{of_row, of_when}
use Rattle.sm_drafts.proofs.front.try_row_coefficients.Goals as goal

pub returns-in-Row : goal.returns-in-Row
returns-in-Row c = λ n d h.
    of_row n d c.in-Row.cmp c.in-Row.form (λ x. Passes (row_coefficients_tried n x) c.try_coefficients.result) (subst (IsDraftOf n d) c.in-Row.is h) (λ g k. c.try_coefficients.ensures n g k)

pub returns-in-RowWhen : goal.returns-in-RowWhen
returns-in-RowWhen c = λ n d h.
    of_when n d c.in-RowWhen.literals c.in-RowWhen.cmp c.in-RowWhen.form (λ x. Passes (row_coefficients_tried n x) c.try_coefficients-in-RowWhen.result) (subst (IsDraftOf n d) c.in-RowWhen.is h)
    (λ g k. c.try_coefficients-in-RowWhen.ensures n g k)

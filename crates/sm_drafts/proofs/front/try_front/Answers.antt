use Rattle.std.proofs.lemmas.Result.{err_from_is_err_and}
use Rattle.sm_drafts.proofs.FrontTrials.{coefficients_refused, bounds_refused, entries_refused, room_refused, front_passes}
use Rattle.sm_drafts.proofs.front.try_front.Goals as goal

pub returns-in_err-try_row_coefficients-clause-tried : goal.returns-in_err-try_row_coefficients-clause-tried
returns-in_err-try_row_coefficients-clause-tried c =
    let p = err_from_is_err_and c.from_residual.result c.from_residual.ensures.1 in
    rw (p.1, p.2) (λ n d h. coefficients_refused n d c.args.constraints c.in_err-try_row_coefficients.field-0.0 (c.in_err-try_row_coefficients.ensures n d h))

pub returns-in_err-try_bounds-clause-tried : goal.returns-in_err-try_bounds-clause-tried
returns-in_err-try_bounds-clause-tried c =
    let p = err_from_is_err_and c.from_residual-in_err-try_bounds.result c.from_residual-in_err-try_bounds.ensures.1 in
    rw (p.1, p.2) (λ n d h. bounds_refused n d c.args.constraints c.in_err-try_bounds.field-0.0 (c.in_ok-try_row_coefficients.ensures n d h) (c.in_err-try_bounds.ensures.tried n d h))

pub returns-in_err-try_entries-clause-tried : goal.returns-in_err-try_entries-clause-tried
returns-in_err-try_entries-clause-tried c =
    let p = err_from_is_err_and c.from_residual-in_err-try_entries.result c.from_residual-in_err-try_entries.ensures.1 in
    rw (p.1, p.2) (λ n d h. entries_refused n d c.args.constraints c.in_err-try_entries.field-0.0 (c.in_ok-try_row_coefficients.ensures n d h) (c.in_ok-try_bounds.ensures.tried n d h)
    (c.in_err-try_entries.ensures n d h))

pub returns-in_err-try_count-clause-tried : goal.returns-in_err-try_count-clause-tried
returns-in_err-try_count-clause-tried c =
    let p = err_from_is_err_and c.from_residual-in_err-try_count.result c.from_residual-in_err-try_count.ensures.1 in
    rw (p.1, p.2) (λ n d h. room_refused n d c.args.constraints c.in_err-try_count.field-0.0 (c.in_ok-try_row_coefficients.ensures n d h) (c.in_ok-try_bounds.ensures.tried n d h)
    (c.in_ok-try_entries.ensures n d h) c.in_err-try_count.ensures)

pub returns-clause-tried : goal.returns-clause-tried
returns-clause-tried c = λ n d h.
    front_passes n d c.args.constraints c.try_terms.result (c.in_ok-try_row_coefficients.ensures n d h) (c.in_ok-try_bounds.ensures.tried n d h)
    (c.in_ok-try_entries.ensures n d h) c.in_ok-try_count.ensures (c.try_terms.ensures n d h)

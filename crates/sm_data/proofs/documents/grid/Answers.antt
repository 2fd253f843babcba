use Rattle.std.proofs.lemmas.Result.{err_from_is_err_and}
use Rattle.sm_data.proofs.Arrays.{not_zero, grid_fails, grid_ok}
use Rattle.sm_data.proofs.documents.grid.Goals as goal

pub returns-in_err-rows : goal.returns-in_err-rows
returns-in_err-rows c =
    let p = err_from_is_err_and c.from_residual.result c.from_residual.ensures.1 in
    rw (p.1, p.2) (grid_fails c.in_err-rows.field-0.0 c.args.width c.args.values.now (not_zero c.args.width c.if-width-eq0.false) c.in_err-rows.ensures)

pub returns : goal.returns
returns c = grid_ok c.args.width c.args.values.now c.in_ok-rows.field-0 (not_zero c.args.width c.if-width-eq0.false) c.in_ok-rows.ensures

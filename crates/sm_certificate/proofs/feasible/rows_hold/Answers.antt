use Rattle.std.proofs.lemmas.Int.{to_z-of_z}
use Rattle.std.proofs.lemmas.Result.{err_from_is_err_and}
use Rattle.sm_certificate.proofs.PointLemmas.{rows_passed}
use Rattle.sm_certificate.proofs.feasible.rows_hold.Goals as goal

pub returns-in_err-row_holds-clause-passed : goal.returns-in_err-row_holds-clause-passed
returns-in_err-row_holds-clause-passed c =
    let p = err_from_is_err_and c.from_residual.result c.from_residual.ensures.1 in
    let e = c.in_err-row_holds.field-0.0 in
    let d = c.ranges.denominator in
    rw (p.1, p.2) (rows_passed c.args.rows.now c.args.point.now c.args.denominator c.loop-row.row-index c.row-item.result e.op e.left e.right c.loop-row-test.true c.row-item.is (simp to_z-of_z at c.in_err-row_holds.ensures.passed))

use Rattle.std.proofs.Common.{◌∙◌, sym, arith, ◌+◌, subst, Vec, Global}
use Rattle.std.proofs.lemmas.Result.{err_from_is_err_and}
use Rattle.sm_frac.specs.declared.fraction.Frac.{Frac}
use Rattle.sm_lp.proofs.PivotSteps.{RowsSoFar, rows_start, rows_skip, rows_more, rows_end, row_passed}
use Rattle.sm_lp.proofs.pivot.eliminate_rows.Goals as goal
use Rattle.sm_lp.proofs.pivot.eliminate_rows.Goals.{then-i-row+in_ok-cells, else-i-row}

pub loop-i-init : goal.loop-i-init
loop-i-init c = rows_start c.args.cells.items c.args.quotients.now c.args.row c.args.column

pub loop-i-preserved : goal.loop-i-preserved
loop-i-preserved c =
    let P = λ (v : Vec Frac Global). RowsSoFar c.args.cells.items v.items c.args.quotients.now c.args.row c.args.column (c.loop-i.i + 1) in
    elim c.if-i-row.branch [
      | then-i-row+in_ok-cells w ↦ subst P (sym w.cells-is) (rows_more c.args.cells.items c.loop-i.cells.items w.in_ok-cells.cells.items c.args.quotients.now c.args.row c.args.column c.loop-i.i c.requires.column w.if-i-row.true (sym w.in_ok-cells.cells.ok.0 ∙ w.in_ok-cells.ensures.long ∙ c.loop-i.cells.ok.0) w.in_ok-cells.ensures.row c.loop-i.invariant)
      | else-i-row w ↦ subst P (sym w.cells-is) (rows_skip c.args.cells.items c.loop-i.cells.items c.args.quotients.now c.args.row c.args.column c.loop-i.i w.if-i-row.false c.loop-i.invariant)
    ]

pub returns-clause-rows : goal.returns-clause-rows
returns-clause-rows c = rows_end c.args.cells.items c.loop-i.cells.items c.args.quotients.now c.args.height c.args.row c.args.column c.loop-i.i (omega arith) c.loop-i.invariant

pub returns-in_err-cells-clause-passed : goal.returns-in_err-cells-clause-passed
returns-in_err-cells-clause-passed c =
    let p = err_from_is_err_and c.from_residual.result c.from_residual.ensures.1 in
    let e = c.in_err-cells.field-0.0 in
    rw (p.1, p.2) (row_passed e.op c.args.cells.items c.loop-i.cells.items c.args.quotients.now c.args.height c.args.row c.args.column c.loop-i.i e.left e.right c.loop-i-test.true c.if-i-row.true c.loop-i.invariant c.in_err-cells.ensures.passed)

use Rattle.std.proofs.Common.{sym, arith, ◌+◌, subst, Vec, Global}
use Rattle.std.proofs.lemmas.Result.{err_from_is_err_and}
use Rattle.sm_frac.specs.declared.fraction.Frac.{Frac}
use Rattle.sm_frac.specs.Frac.{value_of}
use Rattle.sm_lp.proofs.PivotSteps.{RowSoFar, row_start, row_skip, row_more, row_end, place_passed}
use Rattle.sm_lp.proofs.pivot.subtract_row.Goals as goal
use Rattle.sm_lp.proofs.pivot.subtract_row.Goals.{then-j-column+in_ok-cells, else-j-column}

pub loop-j-init : goal.loop-j-init
loop-j-init c = row_start c.args.cells.items (value_of c.args.factor) c.args.quotients.now c.args.start c.args.column

pub loop-j-preserved : goal.loop-j-preserved
loop-j-preserved c =
    let P = λ (v : Vec Frac Global). RowSoFar c.args.cells.items v.items (value_of c.args.factor) c.args.quotients.now c.args.start c.args.column (c.loop-j.j + 1) in
    elim c.if-j-column.branch [
      | then-j-column+in_ok-cells w ↦ subst P (sym w.cells-is) (row_more c.args.cells.items c.loop-j.cells.items w.in_ok-cells.cells.items (value_of c.args.factor) c.args.quotients.now c.args.start c.args.column c.loop-j.j (value_of w.cell_of.result) w.if-j-column.true (sym w.cell_of.ensures) w.in_ok-cells.ensures.subtracted c.loop-j.invariant)
      | else-j-column w ↦ subst P (sym w.cells-is) (row_skip c.args.cells.items c.loop-j.cells.items (value_of c.args.factor) c.args.quotients.now c.args.start c.args.column c.loop-j.j w.if-j-column.false c.loop-j.invariant)
    ]

pub returns-clause-row : goal.returns-clause-row
returns-clause-row c = row_end c.args.cells.items c.loop-j.cells.items (value_of c.args.factor) c.args.quotients.now c.args.start c.args.column c.loop-j.j (omega arith) (omega arith) c.loop-j.invariant

pub returns-in_err-cells-clause-passed : goal.returns-in_err-cells-clause-passed
returns-in_err-cells-clause-passed c =
    let p = err_from_is_err_and c.from_residual.result c.from_residual.ensures.1 in
    let e = c.in_err-cells.field-0.0 in
    rw (p.1, p.2) (place_passed e.op c.args.cells.items c.loop-j.cells.items (value_of c.args.factor) c.args.quotients.now c.args.start c.args.column c.loop-j.j (value_of c.cell_of.result) e.left e.right c.loop-j-test.true c.if-j-column.true c.requires.factor (sym c.cell_of.ensures) c.loop-j.invariant c.in_err-cells.ensures.passed)

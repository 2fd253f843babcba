use Rattle.std.proofs.Common.{◌∙◌, sym, ap, List, ℕ, refl, arith, ◌≡◌, suc, ◌<◌, ◌*◌, length, subst, Vec, Global}
use Rattle.sm_frac.specs.declared.fraction.Frac.{Frac}
use Rattle.sm_lp.specs.Dictionary.{pivot_entry}
use Rattle.sm_lp.specs.Table.{dictionary_of, cell_entry}
use Rattle.sm_lp.specs.Moved.{AreEliminated, IsTurnedRow, IsSomeRowPassed}
use Rattle.sm_lp.proofs.PivotSteps.{pivot_cells, move_stands, row_passed_move, turned_dictionary}
use Rattle.sm_lp.proofs.pivot.turned_table.Goals as goal

pub returns-in-Ok : goal.returns-in-Ok
returns-in-Ok c =
    let t = c.args.table in
    let d = dictionary_of t in
    let q = c.args.quotients.now in
    let new = c.exchanged.result in
    let h = suc t.goal in
    let w = suc t.constant in
    let old = t.cells.items in
    let mid = c.in-Ok.cells.items in
    let made = c.write_row-cells.result.items in
    let wide : length q ≡ w = c.requires.quotients.long in
    let hr : c.args.row < h = let a = c.requires.row in omega arith in
    let hc : c.args.column < w = let a = c.requires.column in omega arith in
    let rows = subst (λ (k : ℕ). AreEliminated old mid q k c.args.row c.args.column) c.height-height.ensures c.in-Ok.ensures.rows in
    let own = subst (λ (k : ℕ). IsTurnedRow mid made q (c.args.row * k) c.args.column) wide c.write_row-cells.ensures in
    let cells = pivot_cells h w old mid made q d c.args.row c.args.column wide refl refl hr hc c.requires.quotients rows own in
    let same : new.cells.items ≡ made = ap (λ (v : Vec Frac Global). v.items) c.exchanged.ensures.cells in
    let P = λ (xs : List Frac). cell_entry h w xs ≡ pivot_entry h w d.entry c.args.row c.args.column in (
      turned_dictionary t.goal t.constant new.goal new.constant c.args.row c.args.column t.basic.items t.nonbasic.items new.basic.items new.nonbasic.items old new.cells.items c.exchanged.ensures.sizes.0 c.exchanged.ensures.sizes.1 c.exchanged.ensures.basic c.exchanged.ensures.nonbasic (sym t.basic.ok.0 ∙ t.rows) (sym t.nonbasic.ok.0 ∙ t.columns) hr hc (subst P (sym same) cells),
      λ op left right m. move_stands h w old mid made q d c.args.row c.args.column wide refl refl hr hc c.requires.quotients rows own op left right m refl,
      c.exchanged.ensures.sizes.0,
      c.exchanged.ensures.sizes.1,
    )

pub returns-in-Err : goal.returns-in-Err
returns-in-Err c =
    let t = c.args.table in
    let d = dictionary_of t in
    let q = c.args.quotients.now in
    let e = c.in-Err.passed in
    let hc : c.args.column < suc t.constant = let a = c.requires.column in omega arith in
    let passed = subst (λ (k : ℕ). IsSomeRowPassed t.cells.items q k c.args.row c.args.column e.op e.left e.right) c.height-height.ensures c.in-Err.ensures.passed in
    (refl, row_passed_move e.op (suc t.goal) (suc t.constant) t.cells.items q d c.args.row c.args.column e.left e.right c.requires.quotients.long refl refl refl hc c.requires.quotients passed)

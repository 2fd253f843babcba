use Rattle.std.proofs.Common.{◌≡◌, ◌∙◌, sym, ap}
use Rattle.sm_rows.specs.Boxes.{box_of}
use Rattle.sm_rows.proofs.Between.{column_between}
use Rattle.sm_rows.proofs.boxes.box_of.Goals as goal

pub returns-in-Var-clause-law : goal.returns-in-Var-clause-law
returns-in-Var-clause-law c m a of lt p h =
    let b = column_between m a c.args.store.now c.args.column.now of lt p h in
    let same : c.variable_box.result ≡ box_of c.args.store.now c.args.column.now = c.variable_box.ensures ∙ ap (box_of c.args.store.now) (sym c.in-Var.is) in
    rw same (b.least, b.most)

pub returns-in-Is-clause-law : goal.returns-in-Is-clause-law
returns-in-Is-clause-law c m a of lt p h =
    let b = column_between m a c.args.store.now c.args.column.now of lt p h in
    let same : c.indicator_box.result ≡ box_of c.args.store.now c.args.column.now = c.indicator_box.ensures ∙ ap (box_of c.args.store.now) (sym c.in-Is.is) in
    rw same (b.least, b.most)

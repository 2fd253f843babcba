use Rattle.std.proofs.lemmas.Result.{err_from_is_err_and}
use Rattle.toml.specs.View.{view}
use Rattle.sm_data.specs.Documents.{row_in}
use Rattle.sm_data.proofs.Each.{goes, fails, ends}
use Rattle.sm_data.proofs.documents.rows.Goals as goal

pub returns-in_err-row : goal.returns-in_err-row
returns-in_err-row c =
    let p = err_from_is_err_and c.from_residual.result c.from_residual.ensures.1 in
    rw (p.1, p.2) (fails (λ v. row_in c.args.width (view v)) c.args.values.now c.loop-value.value-index c.value-item.result c.loop-value.rows c.in_err-row.field-0.0
    c.loop-value-test.true c.value-item.is c.loop-value.invariant c.in_err-row.ensures)

pub loop-value-preserved : goal.loop-value-preserved
loop-value-preserved c =
    goes (λ v. row_in c.args.width (view v)) c.args.values.now c.loop-value.value-index c.value-item.result c.loop-value.rows c.push.new.self c.in_ok-row.field-0
    c.loop-value-test.true c.value-item.is c.loop-value.invariant c.in_ok-row.ensures c.in_ok-push.ensures.ok

pub returns : goal.returns
returns c = ends (λ v. row_in c.args.width (view v)) c.args.values.now c.loop-value.value-index c.loop-value.rows c.loop-value-test.false c.loop-value.invariant

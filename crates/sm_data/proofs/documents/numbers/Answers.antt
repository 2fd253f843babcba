use Rattle.std.proofs.Common.{rules, w64, ◌≡◌, ◌++◌, ◌∷◌, []}
use Rattle.std.specs.Prelude.{FitsSigned}
use Rattle.std.proofs.lemmas.Int.{to_z-of_z}
use Rattle.std.proofs.lemmas.Result.{err_from_is_err_and}
use Rattle.toml.specs.View.{view}
use Rattle.sm_data.specs.Documents.{number_in}
use Rattle.sm_data.proofs.Each.{goes, fails, ends}
use Rattle.sm_data.proofs.documents.numbers.Goals as goal

pub returns-in_err-number : goal.returns-in_err-number
returns-in_err-number c =
    let p = err_from_is_err_and c.from_residual.result c.from_residual.ensures.1 in
    rw (p.1, p.2) (fails (λ v. number_in (view v)) c.args.values.now c.loop-value.value-index c.value-item.result c.loop-value.numbers c.in_err-number.field-0.0
    c.loop-value-test.true c.value-item.is c.loop-value.invariant c.in_err-number.ensures)

pub loop-value-preserved : goal.loop-value-preserved
loop-value-preserved c =
    let pushed : c.push.new.self ≡ c.loop-value.numbers ++ c.in_ok-number.field-0 ∷ [] =
    let fits : FitsSigned w64 c.in_ok-number.field-0 = search rules in simp to_z-of_z at c.in_ok-push.ensures.ok in
    goes (λ v. number_in (view v)) c.args.values.now c.loop-value.value-index c.value-item.result c.loop-value.numbers c.push.new.self c.in_ok-number.field-0
    c.loop-value-test.true c.value-item.is c.loop-value.invariant c.in_ok-number.ensures pushed

pub returns : goal.returns
returns c = ends (λ v. number_in (view v)) c.args.values.now c.loop-value.value-index c.loop-value.numbers c.loop-value-test.false c.loop-value.invariant

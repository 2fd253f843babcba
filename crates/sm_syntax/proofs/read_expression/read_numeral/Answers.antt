use Rattle.std.proofs.Common.{ap, sym, refl, ◌∷◌, []}
use Rattle.std.proofs.lemmas.Result.{err_from_is_err_and}
use Rattle.sm_syntax.specs.Grammar as g
use Rattle.sm_syntax.proofs.Readings.{after, restep, fault_at, opened_rule}
use Rattle.sm_syntax.specs.TreeSteps.{operand_then}
use Rattle.sm_syntax.specs.Expressions.{factor_of}
use Rattle.sm_syntax.proofs.read_expression.read_numeral.Goals as goal

pub returns-in_err-number : goal.returns-in_err-number
returns-in_err-number c =
    let l0 = opened_rule c.args.reader.now 10 (g.token_number ∷ []) c.place-place.result refl c.place-place.ensures c.requires in
    let p = err_from_is_err_and c.from_residual.result c.from_residual.ensures.1 in
    rw (p.1, p.2) (fault_at c.number.new.self c.in_err-number.field-0.0 (g.token_number ∷ []) ([]) l0 c.in_err-number.ensures.read)

pub returns : goal.returns
returns c =
    let l0 = opened_rule c.args.reader.now 10 (g.token_number ∷ []) c.place-place.result refl c.place-place.ensures c.requires in
    let l1 = after l0 c.in_ok-number.ensures.read in
    restep (operand_then (factor_of c.from_number.result)) (λ r. ap (λ x. operand_then x r) (sym c.from_number.ensures)) l1

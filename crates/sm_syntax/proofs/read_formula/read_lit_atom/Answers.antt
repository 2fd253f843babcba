use Rattle.std.proofs.Common.{ap, sym, refl, ◌∷◌, []}
use Rattle.std.proofs.lemmas.Result.{err_from_is_err_and}
use Rattle.sm_syntax.specs.Grammar as g
use Rattle.sm_syntax.proofs.Readings.{after, restep, fault_at, opened_rule}
use Rattle.sm_syntax.specs.TreeSteps.{claim_then}
use Rattle.sm_syntax.specs.Formulas.{atom_of}
use Rattle.sm_syntax.proofs.read_formula.read_lit_atom.Goals as goal

pub returns-in_err-lit : goal.returns-in_err-lit
returns-in_err-lit c =
    let l0 = opened_rule c.args.reader.now 21 (g.lit ∷ []) c.place-place.result refl c.place-place.ensures c.requires in
    let p = err_from_is_err_and c.from_residual.result c.from_residual.ensures.1 in
    rw (p.1, p.2) (fault_at c.read.new.reader c.in_err-lit.field-0.0 (g.lit ∷ []) ([]) l0 c.in_err-lit.ensures)

pub returns : goal.returns
returns c =
    let l0 = opened_rule c.args.reader.now 21 (g.lit ∷ []) c.place-place.result refl c.place-place.ensures c.requires in
    let l1 = after l0 c.in_ok-lit.ensures in
    restep (claim_then (atom_of c.from_lit.result)) (λ r. ap (λ x. claim_then x r) (sym c.from_lit.ensures)) l1

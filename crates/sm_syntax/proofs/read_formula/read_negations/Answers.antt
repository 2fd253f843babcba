use Rattle.std.proofs.Common.{◌∙◌, sym, refl, ◌∷◌, []}
use Rattle.sm_syntax.specs.Grammar as g
use Rattle.sm_syntax.proofs.Readings.{after, behind, opened_rule, begin, one_more}
use Rattle.sm_syntax.proofs.Predictions as predict
use Rattle.sm_syntax.specs.TreeSteps.{negation_then}
use Rattle.sm_syntax.proofs.read_formula.read_negations.Goals as goal

pub negations-init : goal.negations-init
negations-init c = begin negation_then c.new-negations.result c.new-negations.ensures c.args.reader.now (g.unit ∷ [])

pub take-requires-clause-next : goal.take-requires-clause-next
take-requires-clause-next c = sym c.is.ensures ∙ c.negations-test.true

pub negations-preserved : goal.negations-preserved
negations-preserved c =
    let l0 = opened_rule c.negations.reader 21 (g.token_not ∷ g.unit ∷ []) c.place-place.result refl c.place-place.ensures (predict.unit_not c.negations.reader (sym c.is.ensures ∙ c.negations-test.true)) in
    one_more negation_then c.negations.negations c.push.new.self c.place-place.result c.in_ok-push.ensures.ok c.negations.invariant (after l0 (behind (g.unit ∷ []) c.take.ensures.lead))

pub negations-smaller : goal.negations-smaller
negations-smaller c = c.take.ensures.shorter

pub returns-clause-read : goal.returns-clause-read
returns-clause-read c = c.negations.invariant

pub returns-clause-none : goal.returns-clause-none
returns-clause-none c = sym c.is.ensures ∙ c.negations-test.false

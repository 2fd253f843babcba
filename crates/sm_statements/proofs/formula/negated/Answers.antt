use Rattle.std.proofs.Common.{◌∙◌, ap, sym, ◌+◌, List, drop}
use Rattle.sm_syntax.specs.declared.place.Place.{Place}
use Rattle.sm_clausify.specs.declared.formula.Formula.{Formula}
use Rattle.sm_clausify.specs.declared.formula.Formula.TheVariants as f
use Rattle.sm_clausify.specs.Propositions.{meaning}
use Rattle.sm_expressions.proofs.Trying.{split_or}
use Rattle.sm_statements.specs.Negations.{behind}
use Rattle.sm_statements.proofs.Negating.{one_more}
use Rattle.sm_statements.proofs.Trees.{not_means}
use Rattle.sm_statements.proofs.formula.negated.Goals as goal

pub loop-place-preserved : goal.loop-place-preserved
loop-place-preserved c =
    let ps = c.args.negations.now in
    let rest = drop (c.loop-place._place-index + 1) ps in
    let inner = c.loop-place.inner in
    let nowhere : Place = record { line = 0; column = 0 } in
    ap (λ (x : Formula). behind rest (meaning (f.Not x))) c.in_ok-new.ensures
    ∙ ap (behind rest) (not_means inner)
    ∙ one_more rest (meaning inner)
    ∙ ap (λ (qs : List Place). behind qs (meaning inner)) (sym (split_or ps c.loop-place._place-index nowhere c.loop-place-test.true))
    ∙ c.loop-place.invariant

use Rattle.std.proofs.Common.{rules, subst, ap, ◌∙◌, sym, FitsSigned}
use Rattle.std.specs.Prelude.{unsigned_abs}
use Rattle.std.specs.Int.{w128}
use Rattle.std.proofs.lemmas.Int.{to_z-of_z}
use Rattle.sm_meaning.specs.declared.refusal.ExpandRefusal.{ExpandRefusal}
use Rattle.sm_meaning.specs.Trials.{IsStopped}
use Rattle.sm_meaning.specs.Worths.{whole}
use Rattle.sm_meaning.specs.ExpressionTrials.{value_tried}
use Rattle.sm_expressions.proofs.Values.{number_stops}
use Rattle.sm_expressions.proofs.value.within.Goals as goal

pub returns-then-found-clause-large : goal.returns-then-found-clause-large
returns-then-found-clause-large c = λ s count.
    let fits : FitsSigned w128 c.args.number = search rules in
    subst (λ (e : ExpandRefusal). IsStopped e (value_tried s (whole c.args.number) count)) (sym c.refusal_for.ensures)
    (number_stops s c.args.number c.unsigned_abs-found.result count (c.unsigned_abs-found.ensures.value ∙ ap unsigned_abs (to_z-of_z w128 c.args.number fits)) c.if-found.true)

use Rattle.std.proofs.Common.{arith, ◌≡◌, ◌∙◌, ap, sym}
use Rattle.sm_clausify.specs.declared.formula.Formula.{Formula, size-Formula}
use Rattle.sm_clausify.specs.declared.formula.Formula.TheVariants as f
use Rattle.sm_clausify.specs.Propositions.{meaning}
use Rattle.sm_clausify.proofs.Chains.{not_means, not_deeper}
use Rattle.sm_meaning.specs.Limits.{literal_bounds}
use Rattle.sm_drafts.proofs.literals.behind_nots.Goals as goal

pub loop-inner-preserved : goal.loop-inner-preserved
loop-inner-preserved c =
    let rest = c.get-inner.result.now in
    let known = c.loop-inner.invariant in
    let is : c.loop-inner.inner.now ≡ f.Not rest = c.in-Not.is ∙ ap (λ (p : Formula). f.Not p) (sym c.get-inner.ensures) in
    record {
      under = (let same = ap size-Formula is in omega (arith, same, not_deeper rest, known.under));
      bounds = ap literal_bounds (sym (ap meaning is ∙ not_means rest)) ∙ known.bounds;
    }

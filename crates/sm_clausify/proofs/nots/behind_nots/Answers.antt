use Rattle.std.proofs.Common.{arith, ◌≡◌, ◌∙◌, ap, sym, subst}
use Rattle.sm_clausify.specs.declared.formula.Formula.{Formula, size-Formula}
use Rattle.sm_clausify.specs.declared.formula.Formula.TheVariants as f
use Rattle.sm_clausify.specs.Propositions.{Proposition, meaning, EachLiteral, HasSmallBound}
use Rattle.sm_clausify.specs.Clauses.{clauses_of}
use Rattle.sm_clausify.specs.Counting.{flipped_counts}
use Rattle.sm_clausify.specs.Tallies.{counts_in, parts_in, flipped_if, tally_of, turned}
use Rattle.sm_clausify.proofs.Chains.{not_means, not_tallied, not_deeper, not-turned, flipped_twice, parts_in-tally_with}
use Rattle.sm_clausify.proofs.nots.behind_nots.Goals as goal

pub loop-inner-preserved : goal.loop-inner-preserved
loop-inner-preserved c =
    let rest = c.get-inner.result.now in
    let odd = c.loop-inner.is_odd in
    let known = c.loop-inner.invariant in
    let is : c.loop-inner.inner.now ≡ f.Not rest = c.in-Not.is ∙ ap (λ (p : Formula). f.Not p) (sym c.get-inner.ensures) in
    let tallied = ap tally_of is ∙ not_tallied rest in
    let means = ap meaning is ∙ not_means rest in
    record {
      under = (let same = ap size-Formula is in omega (arith, same, not_deeper rest, known.under));
      parts = known.parts ∙ ap parts_in tallied ∙ parts_in-tally_with (flipped_counts (counts_in (tally_of rest))) (parts_in (tally_of rest));
      tally = known.tally ∙ ap (flipped_if odd) tallied ∙ flipped_twice odd (tally_of rest);
      clauses = λ negated. known.clauses negated ∙ ap (λ (p : Proposition). clauses_of p (turned odd negated)) means ∙ ap (clauses_of (meaning rest)) (not-turned odd negated);
      small = subst (λ (p : Proposition). (EachLiteral HasSmallBound (meaning c.args.formula.now) → EachLiteral HasSmallBound p) × (EachLiteral HasSmallBound p → EachLiteral HasSmallBound (meaning c.args.formula.now))) means known.small;
    }

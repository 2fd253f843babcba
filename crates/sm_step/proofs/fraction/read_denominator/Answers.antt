use Rattle.std.proofs.Common.{◌≡◌, ◌∙◌, sym, rules, arith, pos, None, []}
use Rattle.std.specs.Int.{w128}
use mir.Val.{SFits}
use Rattle.std.proofs.lemmas.Int.{to_z-of_z}
use Rattle.sm_step.specs.Fractions.{fraction_of}
use Rattle.sm_step.proofs.FracParts.{at_most_one, small_denominator, no_proper_fraction}
use Rattle.sm_step.proofs.Takings.{out_of_range, ends}
use Rattle.sm_step.proofs.fraction.read_denominator.Goals as goal

pub returns-then-d-lt2 : goal.returns-then-d-lt2
returns-then-d-lt2 c =
    let fits : SFits w128 c.whole-d.result = search rules in
    let small = rw (to_z-of_z w128 c.whole-d.result fits) at c.if-d-lt2.true in
    record {
      others = [];
      same = λ ok. absurd (ends _ _ c.refused.ensures ok);
      taken = out_of_range _ c.whole-d.ensures (λ bytes. small_denominator c.args.n c.whole-d.result bytes (at_most_one c.whole-d.result small)) c.refused.ensures;
    }

pub returns-in-None : goal.returns-in-None
returns-in-None c =
    let under : SFits w128 c.whole-d.result = search rules in
    let over : SFits w128 c.args.n = search rules in
    let value = rw (to_z-of_z w128 c.args.n over, to_z-of_z w128 c.whole-d.result under) at c.proper_fraction.ensures.value in
    let none : fraction_of c.args.n c.whole-d.result ≡ None = sym value ∙ c.in-None.is in
    record {
      others = [];
      same = λ ok. absurd (ends _ _ c.refused-in-None.ensures ok);
      taken = out_of_range _ c.whole-d.ensures (λ bytes. no_proper_fraction c.args.n c.whole-d.result bytes none) c.refused-in-None.ensures;
    }

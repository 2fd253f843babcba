use Rattle.std.proofs.Common.{arith, rules, subst, sym}
use Rattle.std.specs.Int.{w128}
use Rattle.std.proofs.lemmas.Int.{ints, to_z-of_z}
use Rattle.sm_kinds.specs.Choices.{AddUpTo}
use Rattle.sm_kinds.proofs.Adding.{step_over, none_over}
use Rattle.sm_kinds.proofs.choice.adds_up.Goals as goal

pub returns-in-None : goal.returns-in-None
returns-in-None g c =
    let none = none_over (g.V.Values.point c.args.a.now) c.args.picks.now c.loop-pick.pick-index c.pick-item.result c.as_slice.result.now _ c.loop-pick-test.true c.pick-item.is c.as_slice.ensures in
    ((λ f. absurd (cc)), (λ whole. c.in-None.ensures.variant.1 (none (c.loop-pick.invariant.so_far.1 (subst (λ x. AddUpTo (g.V.Values.point c.args.a.now) c.args.picks.now x) (sym (to_z-of_z w128 c.args.total c.ranges.total)) whole)))))

pub loop-pick-preserved : goal.loop-pick-preserved
loop-pick-preserved g c =
    let step = step_over (g.V.Values.point c.args.a.now) c.args.picks.now c.loop-pick.pick-index c.pick-item.result c.as_slice.result.now _ c.in-Some.left _ c.loop-pick-test.true c.pick-item.is c.as_slice.ensures (to_z-of_z w128 c.in-Some.left (search rules)) c.in-Some.ensures.value in
    record {
      so_far = ((λ k. c.loop-pick.invariant.so_far.0 (step.0 k)), (λ k. step.1 (c.loop-pick.invariant.so_far.1 k)));
      bound = omega (arith, ints, c.loop-pick.invariant.bound, c.in-Some.ensures.bound);
    }

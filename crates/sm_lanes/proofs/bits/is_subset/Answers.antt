use Rattle.std.proofs.Common.{rules}
use Rattle.sm_lanes.proofs.BitPlaces.{all_covered, not_covered}
use Rattle.sm_lanes.proofs.bits.is_subset.Goals as goal

pub returns-then-inner-at-ne0 : goal.returns-then-inner-at-ne0
returns-then-inner-at-ne0 c =
    let a = c.args.inner.now in
    let b = c.args.outer.now in
    (λ no. search rules, λ subset. absurd (not_covered a b c.loop-at-2.at (c.type_inv.inner c.loop-at-2.at).fits (c.type_inv.outer c.loop-at-2.at).fits c.if-inner-at-ne0.true subset))

pub returns : goal.returns
returns c =
    (λ _. all_covered c.args.inner.now c.args.outer.now c.loop-at-2.at c.loop-at-2-test.false (λ k. (c.type_inv.outer k).fits) c.loop-at-2.invariant.covered, λ _. search rules)

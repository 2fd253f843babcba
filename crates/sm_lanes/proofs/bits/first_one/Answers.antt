use Rattle.sm_lanes.proofs.BitPlaces.{first_in, has_one}
use Rattle.sm_lanes.proofs.bits.first_one.Goals as goal

pub returns-then-word-ne0-clause-found : goal.returns-then-word-ne0-clause-found
returns-then-word-ne0-clause-found c =
    first_in c.args.words.now c.loop-at-2.at c.loop-at-2-test.true c.loop-at-2.invariant.zero_before c.if-word-ne0.true (c.type_inv.words c.loop-at-2.at).fits

pub returns-then-word-ne0-clause-none : goal.returns-then-word-ne0-clause-none
returns-then-word-ne0-clause-none c =
    let first = first_in c.args.words.now c.loop-at-2.at c.loop-at-2-test.true c.loop-at-2.invariant.zero_before c.if-word-ne0.true (c.type_inv.words c.loop-at-2.at).fits in
    (λ e. cc, λ none. absurd (has_one c.args.words.now _ first.one none))

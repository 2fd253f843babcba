use Rattle.std.proofs.Common.{◌-◌, arith}
use Rattle.sm_lanes.proofs.BitPlaces.{last_in, has_one}
use Rattle.sm_lanes.proofs.bits.last_one.Goals as goal

pub returns-then-word-ne0-clause-found : goal.returns-then-word-ne0-clause-found
returns-then-word-ne0-clause-found c =
    last_in c.args.words.now (c.loop-end-2.end - 1) (omega arith) (λ k l. c.loop-end-2.invariant.zero_after k (omega arith)) c.if-word-ne0.true (c.type_inv.words (c.loop-end-2.end - 1)).fits

pub returns-then-word-ne0-clause-none : goal.returns-then-word-ne0-clause-none
returns-then-word-ne0-clause-none c =
    let last = last_in c.args.words.now (c.loop-end-2.end - 1) (omega arith) (λ k l. c.loop-end-2.invariant.zero_after k (omega arith)) c.if-word-ne0.true (c.type_inv.words (c.loop-end-2.end - 1)).fits in
    (λ e. cc, λ none. absurd (has_one c.args.words.now _ last.one none))

use Rattle.std.proofs.Common.{◌+◌, arith}
use Rattle.sm_lanes.proofs.CountedOnes.{words_ones, block_more, rest_more, ones_below, part_below}
use Rattle.sm_lanes.proofs.bits.count_ones.Goals as goal

pub overflow_add-total : goal.overflow_add-total
overflow_add-total c =
    let more = block_more c.loop-at.at 8 c.args.words.now in
    let few = part_below (c.loop-at.at + 8) c.args.words.now (λ k. (c.type_inv.words k).fits) in
    record { fits = omega arith }

pub loop-at-preserved : goal.loop-at-preserved
loop-at-preserved c =
    let more = block_more c.loop-at.at 8 c.args.words.now in
    record { low = omega arith; long = c.loop-at.invariant.long; counted = omega arith }

pub overflow_add-result : goal.overflow_add-result
overflow_add-result c =
    let rest = rest_more c.loop-at.at c.args.words.now in
    let few = ones_below c.args.words.now (λ k. (c.type_inv.words k).fits) in
    record { fits = omega arith }

pub returns : goal.returns
returns c =
    let rest = rest_more c.loop-at.at c.args.words.now in
    let all = words_ones c.args.words.now (λ k. (c.type_inv.words k).fits) in
    omega arith

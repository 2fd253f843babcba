use Rattle.std.proofs.Common.{pos, arith}
use Rattle.std.proofs.lemmas.Int.{ints}
use Rattle.sm_rules.proofs.Sums.{least_sum_more}
use Rattle.sm_rules.proofs.objectives.least_sum.Goals as goal

pub loop-term-preserved : goal.loop-term-preserved
loop-term-preserved c =
    let step = least_sum_more c.args.sense c.args.store.now c.args.terms.now c.loop-term.term-index (0, pos 0) c.loop-term-test.true in
    record {
      so_far = omega (arith, ints, step, c.loop-term.invariant.so_far, c.least_term-total.ensures.value);
      bound = omega (arith, ints, c.loop-term.invariant.bound, c.least_term-total.ensures.bound);
    }

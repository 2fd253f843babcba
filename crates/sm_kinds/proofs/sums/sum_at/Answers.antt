use Rattle.std.proofs.Common.{pos, arith}
use Rattle.std.proofs.lemmas.Int.{ints}
use Rattle.sm_kinds.proofs.Steps.{sum_at_more}
use Rattle.sm_kinds.proofs.sums.sum_at.Goals as goal

pub loop-term-preserved : goal.loop-term-preserved
loop-term-preserved g c =
    let step = sum_at_more (g.V.Values.point c.args.a.now).numerator c.args.terms.now c.loop-term.term-index (0, pos 0) c.loop-term-test.true in
    record {
      so_far = omega (arith, ints, step, c.loop-term.invariant.so_far, c.term_at-total.ensures.value);
      bound = omega (arith, ints, c.loop-term.invariant.bound, c.term_at-total.ensures.bound);
    }

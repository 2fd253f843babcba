use Rattle.std.proofs.Common.{pos, arith}
use Rattle.std.proofs.lemmas.Int.{ints}
use Rattle.sm_rows.proofs.Greatest.{greatest_more}
use Rattle.sm_rows.proofs.half.Half.greatest.Goals as goal

pub loop-place-preserved : goal.loop-place-preserved
loop-place-preserved c =
    let step = greatest_more c.args.store.now c.args.self.now.terms c.loop-place.place (0, pos 0) (omega (arith, c.loop-place-test.true, c.len-place-end.ensures)) in
    record {
      so_far = omega (arith, ints, step, c.loop-place.invariant.so_far, c.greatest_term-total.ensures.value);
      bound = omega (arith, ints, c.loop-place.invariant.bound, c.greatest_term-total.ensures.bound);
      end = c.loop-place.invariant.end;
    }

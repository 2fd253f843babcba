use Rattle.std.proofs.Common.{sym, arith, length}
use Rattle.std.specs.Prelude.{slice_index_or}
use Rattle.sm_lp.proofs.EndingLemmas.{place_at, place_none}
use Rattle.sm_lp.proofs.ending.place_of.Goals as goal

pub returns-then-x-number : goal.returns-then-x-number
returns-then-x-number c = sym (place_at (λ i. slice_index_or c.args.numbers.now i 0) c.args.number (length c.args.numbers.now) c.loop-i.i c.loop-i-test.true c.if-x-number.true c.loop-i.invariant)

pub returns : goal.returns
returns c = sym (place_none (λ i. slice_index_or c.args.numbers.now i 0) c.args.number (length c.args.numbers.now) (λ i l. c.loop-i.invariant i (omega arith)))

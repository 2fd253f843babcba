use Rattle.std.proofs.Common.{arith}
use Rattle.std.proofs.lemmas.Int.{ints, to_z-of_z}
use Rattle.sm_frac.proofs.FracLemmas.{lowest_whole}
use Rattle.sm_frac.proofs.CommonDenominator.{whole_value}
use Rattle.sm_certificate.proofs.number.whole.Goals as goal

pub unreachable-requires : goal.unreachable-requires
unreachable-requires c =
    let f = c.ranges.number in
    let some = c.in-None.ensures.some.1 (omega (arith, ints), omega (arith, ints), simp to_z-of_z (lowest_whole c.args.number)) in
    absurd (cc)

pub returns : goal.returns
returns c =
    let f = c.ranges.number in
    whole_value c.in-Some.fraction c.args.number (simp to_z-of_z at c.in-Some.ensures.parts.0) c.in-Some.ensures.parts.1

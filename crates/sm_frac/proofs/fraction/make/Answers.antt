use Rattle.std.proofs.Common.{arith, unsigned_abs, ◌<◌, ◌^◌}
use Rattle.std.proofs.lemmas.Int.{to_z-of_z, ints}
use Rattle.sm_frac.proofs.fraction.make.Goals as goal

pub invariant_of-result : goal.invariant_of-result
invariant_of-result c =
    let f = c.ranges.n in let g = c.ranges.d in
    let small : unsigned_abs c.args.d < 2 ^ 127 = omega (arith, ints) in
    simp to_z-of_z (record { positive = c.requires.positive; bounded = c.requires.bounded; small = small; lowest = c.requires.lowest })

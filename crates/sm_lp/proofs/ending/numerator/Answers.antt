use Rattle.std.proofs.Common.{arith, ◌*ℤ◌, SFits, w64, rules, unsigned_abs}
use Rattle.std.specs.Prelude.{int_div}
use Rattle.std.proofs.lemmas.Int.{ints, to_z-of_z}
use Rattle.std.specs.Int.{w128}
use Rattle.sm_frac.specs.Rational.{fraction}
use Rattle.sm_lp.proofs.CommonLemmas.{numerator_small, numerator_value, numerator_read, quotient_small}
use Rattle.sm_lp.proofs.ending.numerator.Goals as goal

pub overflow_mul-result : goal.overflow_mul-result
overflow_mul-result c =
    let a : SFits w64 c.args.common = c.ranges.common in
    let v = c.args.value in
    let n : SFits w128 v.n = search rules in
    let d : SFits w128 v.d = search rules in
    let e : SFits w128 c.args.common = omega (arith, ints) in
    let small = numerator_small v.n v.d c.args.common v.positive c.requires.common.0 c.requires.common.1 c.requires.divides c.requires.boxed in
    let part = quotient_small v.d c.args.common v.positive c.requires.common.0 c.requires.common.1 in
    let q : SFits w128 (int_div c.args.common v.d) = omega (arith, ints) in
    rw (c.n.ensures, c.d.ensures) (simp to_z-of_z (omega (arith, ints)))

pub returns : goal.returns
returns c =
    let a : SFits w64 c.args.common = c.ranges.common in
    let v = c.args.value in
    let n : SFits w128 v.n = search rules in
    let d : SFits w128 v.d = search rules in
    let e : SFits w128 c.args.common = omega (arith, ints) in
    let small = numerator_small v.n v.d c.args.common v.positive c.requires.common.0 c.requires.common.1 c.requires.divides c.requires.boxed in
    let part = quotient_small v.d c.args.common v.positive c.requires.common.0 c.requires.common.1 in
    let q : SFits w128 (int_div c.args.common v.d) = omega (arith, ints) in
    let p : SFits w128 (v.n *ℤ int_div c.args.common v.d) = omega (arith, ints) in
    rw (c.n.ensures, c.d.ensures) (simp to_z-of_z (numerator_read v (fraction (v.n *ℤ int_div c.args.common v.d) (unsigned_abs c.args.common)) (numerator_value v.n v.d c.args.common v.positive c.requires.common.0 c.requires.divides)))

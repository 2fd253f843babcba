use Rattle.std.proofs.Common.{arith}
use Rattle.std.specs.Prelude.{◌*ℤ◌, ◌+ℤ◌}
use Rattle.std.proofs.lemmas.Int.{ints, to_z-of_z}
use mir.Val.{SFits}
use mir.Syntax.{w64, w128}
use Rattle.sm_lp.proofs.WritingLemmas.{product_small}
use Rattle.sm_lp.proofs.first.with_product.Goals as goal

pub overflow_add-result : goal.overflow_add-result
overflow_add-result c =
    let p = product_small c.args.number c.args.end c.requires.number c.requires.end in
    let h = c.requires.shift in
    let a : SFits w64 c.args.number = omega (arith, ints) in
    let b : SFits w64 c.args.end = omega (arith, ints) in
    let d : SFits w128 c.args.shift = omega (arith, ints) in
    let e : SFits w128 c.args.number = omega (arith, ints) in
    let f : SFits w128 c.args.end = omega (arith, ints) in
    let g : SFits w128 (c.args.number *ℤ c.args.end) = omega (arith, ints) in
    simp to_z-of_z (omega (arith, ints))

pub returns : goal.returns
returns c =
    let p = product_small c.args.number c.args.end c.requires.number c.requires.end in
    let h = c.requires.shift in
    let a : SFits w64 c.args.number = omega (arith, ints) in
    let b : SFits w64 c.args.end = omega (arith, ints) in
    let d : SFits w128 c.args.shift = omega (arith, ints) in
    let e : SFits w128 c.args.number = omega (arith, ints) in
    let f : SFits w128 c.args.end = omega (arith, ints) in
    let g : SFits w128 (c.args.number *ℤ c.args.end) = omega (arith, ints) in
    let t : SFits w128 (c.args.shift +ℤ c.args.number *ℤ c.args.end) = omega (arith, ints) in
    simp to_z-of_z

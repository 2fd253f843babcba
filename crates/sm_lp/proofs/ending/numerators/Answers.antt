use Rattle.std.proofs.Common.{SFits, w64, rules, unsigned_abs}
use Rattle.std.proofs.lemmas.Int.{to_z-of_z}
use Rattle.std.specs.Int.{w128}
use Rattle.sm_lp.proofs.CommonLemmas.{numerators_more, numerators_long, divides_common}
use Rattle.sm_lp.proofs.ending.numerators.Goals as goal

pub numerator-requires-clause-divides : goal.numerator-requires-clause-divides
numerator-requires-clause-divides c =
    let a : SFits w64 c.args.common = c.ranges.common in
    simp to_z-of_z (divides_common c.args.values.now c.loop-value.value-index c.value-item.result (unsigned_abs c.args.common) c.loop-value-test.true c.value-item.is c.requires.common.common)

pub loop-value-preserved : goal.loop-value-preserved
loop-value-preserved c =
    let a : SFits w64 c.args.common = c.ranges.common in
    let x : SFits w128 c.numerator.result = search rules in
    let old = c.loop-value.point.items in
    let items = simp to_z-of_z at c.in_ok-push.ensures.items in
    let exact = numerators_more c.args.values.now c.loop-value.value-index c.value-item.result c.args.common c.numerator.result old c.push.new.self.items c.loop-value-test.true c.value-item.is c.loop-value.invariant.long items (simp to_z-of_z at c.numerator.ensures) (simp to_z-of_z at c.loop-value.invariant.exact) in
    simp to_z-of_z (record { long = numerators_long old c.push.new.self.items c.numerator.result c.loop-value.value-index items c.loop-value.invariant.long; exact = exact })

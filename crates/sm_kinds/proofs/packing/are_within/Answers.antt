use Rattle.std.proofs.Common.{pos, get_or, arith, rules}
use Rattle.std.specs.Prelude.{◌<ℤ◌}
use Rattle.std.proofs.lemmas.Int.{ints}
use Rattle.sm_kinds.proofs.Packs.{within_from_each, each_from_within}
use Rattle.sm_kinds.specs.Packing.{load_of}
use Rattle.sm_kinds.proofs.packing.are_within.Goals as goal

pub returns-then-load_of-capacities : goal.returns-then-load_of-capacities
returns-then-load_of-capacities g c =
    let load = load_of (g.V.Values.point c.args.a.now) c.loop-g.g c.args.items.now in
    let over : (get_or c.args.capacities.now c.loop-g.g (pos 0)) <ℤ load = grind (arith, ints, c.if-load_of-capacities.true, c.load_of.ensures) in
    ((λ e. search rules), (λ h. let here = each_from_within c.args.capacities.now (λ k. load_of (g.V.Values.point c.args.a.now) k c.args.items.now) h c.loop-g.g c.loop-g-test.true in absurd (omega (arith, ints, here, over))))

pub returns : goal.returns
returns g c = ((λ e. within_from_each c.args.capacities.now (λ k. load_of (g.V.Values.point c.args.a.now) k c.args.items.now) (λ k lt. c.loop-g.invariant k (search rules))), (λ h. search rules))

use Rattle.std.proofs.Common.{rules, arith, map, to_z, of_z, ◌≡◌, subst, sym, unsigned_abs, ◌≤◌, ◌+◌, ◌^◌, ◌*◌}
use Rattle.std.proofs.lemmas.Int.{ints}
use Rattle.std.specs.Int.{w128}
use Rattle.sm_kinds.proofs.Packs.{after_item, no_item}
use Rattle.sm_kinds.specs.Choices.{AddUpTo}
use Rattle.sm_kinds.specs.Packing.{item_pick}
use Rattle.sm_kinds.proofs.packing.costs_add_up.Goals as goal

pub returns-in-None : goal.returns-in-None
returns-in-None g c =
    let never = no_item (g.V.Values.point c.args.a.now) c.args.items.now c.loop-item.item-index c.item-item.result c.loop-item.rest (AddUpTo (g.V.Values.point c.args.a.now) (map item_pick c.args.items.now) c.args.total) c.loop-item-test.true c.item-item.is (search rules) (search rules) in
    search (rules, never)

pub loop-item-preserved : goal.loop-item-preserved
loop-item-preserved g c =
    let bound : unsigned_abs c.in-Some.left ≤ 2 ^ 120 + (c.loop-item.item-index + 1) * 2 ^ 115 = omega (arith, ints, c.loop-item.invariant.bound, c.in-Some.ensures.bound) in
    let same : to_z w128 (of_z w128 c.in-Some.left) ≡ c.in-Some.left = omega (arith, ints, bound, c.requires.few, c.loop-item-test.true) in
    record {
      so_far = after_item (g.V.Values.point c.args.a.now) c.args.items.now c.loop-item.item-index c.item-item.result _ c.in-Some.left _ _ c.loop-item-test.true c.item-item.is c.in-Some.ensures.value same c.loop-item.invariant.so_far;
      bound = subst (λ n. unsigned_abs n ≤ 2 ^ 120 + (c.loop-item.item-index + 1) * 2 ^ 115) (sym same) bound;
    }

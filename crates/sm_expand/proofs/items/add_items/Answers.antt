use Rattle.std.proofs.Common.{ap, subst, map, drop, ◌+◌, List}
use Rattle.std.proofs.lemmas.Result.{err_from_is_err_and}
use Rattle.sm_syntax.specs.Trees.{Item, item_of}
use Rattle.sm_drafts.proofs.Parts.{split_item}
use Rattle.sm_expand.proofs.ItemSteps.{ItemsLeft, items_first, items_more, items_stop, items_end}
use Rattle.sm_expand.proofs.items.add_items.Goals as goal

pub loop-item-init : goal.loop-item-init
loop-item-init c = record {
  some = c.requires;
  left = λ e h. items_first (map item_of c.args.items.now) e c.args.visited.now c.args.made.now h;
}

pub returns-in_err-add_item : goal.returns-in_err-add_item
returns-in_err-add_item c =
    let all = map item_of c.args.items.now in
    let split = ap (map item_of) (split_item c.args.items.now c.loop-item.item-index c.item-item.result c.loop-item-test.true c.item-item.is) in
    let p = err_from_is_err_and c.from_residual.result c.from_residual.ensures.1 in
    rw (p.1, p.2) (λ e h.
    let left = subst (λ (rest : List Item). ItemsLeft all e c.args.visited.now rest c.loop-item.visited c.loop-item.made) split (c.loop-item.invariant.left e h) in
    items_stop all e c.args.visited.now (item_of c.item-item.result) (map item_of (drop (c.loop-item.item-index + 1) c.args.items.now)) c.loop-item.visited c.loop-item.made left
    c.in_err-add_item.field-0.0 (c.in_err-add_item.ensures left.front left.making))

pub loop-item-preserved : goal.loop-item-preserved
loop-item-preserved c =
    let all = map item_of c.args.items.now in
    let split = ap (map item_of) (split_item c.args.items.now c.loop-item.item-index c.item-item.result c.loop-item-test.true c.item-item.is) in
    let some = c.loop-item.invariant.some in
    record {
      some = record { expansion = _; making = (c.in_ok-add_item.ensures some.expansion some.making).1 };
      left = λ e h.
          let left = subst (λ (rest : List Item). ItemsLeft all e c.args.visited.now rest c.loop-item.visited c.loop-item.made) split (c.loop-item.invariant.left e h) in
          let goes = c.in_ok-add_item.ensures left.front left.making in
          items_more all e c.args.visited.now (item_of c.item-item.result) (map item_of (drop (c.loop-item.item-index + 1) c.args.items.now)) c.loop-item.visited c.loop-item.made left
          c.add_item.new.visited c.add_item.new.made goes.0 goes.1;
    }

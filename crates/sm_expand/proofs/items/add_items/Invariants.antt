use Rattle.std.proofs.Common.{map, drop}
use Rattle.sm_syntax.specs.Trees.{item_of}
use Rattle.sm_meaning.specs.Expansions.{Expansion}
use Rattle.sm_declarations.specs.Making.{IsMakingOf, IsOfSome}
use Rattle.sm_expand.proofs.ItemSteps.{ItemsLeft}
use Rattle.sm_expand.proofs.items.add_items.Given as goal

abbrev pub invariant-loop-item : goal.invariant-loop-item
invariant-loop-item l = record {
  some : IsOfSome l.made;
  left : (e : Expansion) → IsMakingOf e l.fn.made → ItemsLeft (map item_of l.fn.items) e l.fn.visited (map item_of (drop l.item-index l.items)) l.visited l.made;
}

use Rattle.sm_syntax.specs.TreeSteps.{item_step, item_then}
use Rattle.sm_syntax.specs.Trees.{item_of}
use Rattle.std.proofs.Common.{◌∷◌, [], map, length}
use Rattle.sm_syntax.specs.Grammar as g
use Rattle.sm_syntax.specs.Reading.{Leads, each}
use Rattle.sm_syntax.proofs.read_model.ItemsItemPart.read.Given as goal

abbrev pub invariant-items : goal.invariant-items
invariant-items l = Leads l.initial.reader (g.items ∷ []) (each (item_step g.items (g.item ∷ g.items ∷ []) item_then) (map item_of l.items)) l.reader (g.items ∷ [])

abbrev pub decreases-items : goal.decreases-items
decreases-items l = length l.reader.later

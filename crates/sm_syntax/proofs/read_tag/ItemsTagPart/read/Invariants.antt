use Rattle.sm_syntax.specs.TreeSteps.{item_step, tag_then}
use Rattle.sm_syntax.specs.Trees.{tag_of}
use Rattle.std.proofs.Common.{◌∷◌, [], map, length}
use Rattle.sm_syntax.specs.Grammar as g
use Rattle.sm_syntax.specs.Reading.{Leads, each}
use Rattle.sm_syntax.proofs.read_tag.ItemsTagPart.read.Given as goal

abbrev pub invariant-tags : goal.invariant-tags
invariant-tags l = Leads l.initial.reader (g.tags ∷ []) (each (item_step g.tags (g.tag ∷ g.tags ∷ []) tag_then) (map tag_of l.tags)) l.reader (g.tags ∷ [])

abbrev pub decreases-tags : goal.decreases-tags
decreases-tags l = length l.reader.later

use Rattle.std.proofs.Common.{◌∷◌, ◌++◌, [], length}
use Rattle.sm_syntax.specs.Grammars.{leaf, node}
use Rattle.sm_syntax.specs.Terminals.{code_of}
use Rattle.sm_syntax.specs.Reading.{Leads, each}
use Rattle.sm_syntax.specs.TreeSteps.{item_step}
use Rattle.sm_syntax.proofs.group.read_repeated.Given as goal

abbrev pub invariant-items : goal.invariant-items
invariant-items g l = Leads l.initial.reader (node g.T.Grouped.group ∷ [])
    (each (item_step (node g.T.Grouped.group) (leaf (code_of g.W.Word.terminal) ∷ (g.T.Part.symbols ++ node g.T.Grouped.group ∷ [])) g.T.Part.steps) l.items) l.reader (node g.T.Grouped.group ∷ [])

abbrev pub decreases-items : goal.decreases-items
decreases-items g l = length l.reader.later

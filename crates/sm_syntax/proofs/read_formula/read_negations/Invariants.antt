use Rattle.std.proofs.Common.{◌∷◌, [], length}
use Rattle.sm_syntax.specs.Grammar as g
use Rattle.sm_syntax.specs.Reading.{Leads, each}
use Rattle.sm_syntax.specs.TreeSteps.{negation_then}
use Rattle.sm_syntax.proofs.read_formula.read_negations.Given as goal

abbrev pub invariant-negations : goal.invariant-negations
invariant-negations l = Leads l.initial.reader (g.unit ∷ []) (each negation_then l.negations) l.reader (g.unit ∷ [])

abbrev pub decreases-negations : goal.decreases-negations
decreases-negations l = length l.reader.later

use Rattle.std.proofs.Common.{◌∷◌, [], length, map, ◌+◌, ◌*◌}
use Rattle.sm_syntax.specs.Grammar as g
use Rattle.sm_syntax.specs.Formulas.{conj_of, unit_of}
use Rattle.sm_syntax.specs.Reading.{Leads, each}
use Rattle.sm_syntax.proofs.Lists.{conj_step, unit_step}
use Rattle.sm_syntax.proofs.read_formula.+formula.Given as goal

abbrev pub decreases-read_formula : goal.decreases-read_formula
decreases-read_formula l = 8 * length l.reader.now.later + 7

abbrev pub decreases-read_conclusion : goal.decreases-read_conclusion
decreases-read_conclusion l = 8 * length l.reader.now.later + 6

abbrev pub decreases-read_disj : goal.decreases-read_disj
decreases-read_disj l = 8 * length l.reader.now.later + 5

abbrev pub decreases-read_conj : goal.decreases-read_conj
decreases-read_conj l = 8 * length l.reader.now.later + 4

abbrev pub decreases-read_unit : goal.decreases-read_unit
decreases-read_unit l = 8 * length l.reader.now.later + 3

abbrev pub decreases-read_atom : goal.decreases-read_atom
decreases-read_atom l = 8 * length l.reader.now.later + 2

abbrev pub decreases-read_formula_group : goal.decreases-read_formula_group
decreases-read_formula_group l = 8 * length l.reader.now.later + 1

abbrev pub decreases-read_quantified : goal.decreases-read_quantified
decreases-read_quantified l = 8 * length l.reader.now.later + 1

abbrev pub decreases-read_inner : goal.decreases-read_inner
decreases-read_inner l = 8 * length l.reader.now.later + 0

abbrev pub decreases-read_more_conjs : goal.decreases-read_more_conjs
decreases-read_more_conjs l = 8 * length l.reader.now.later

abbrev pub decreases-read_more_units : goal.decreases-read_more_units
decreases-read_more_units l = 8 * length l.reader.now.later

abbrev pub invariant-read_more_conjs-conjs : goal.invariant-read_more_conjs-conjs
invariant-read_more_conjs-conjs l = Leads l.initial.reader (g.more_conjs ∷ []) (each conj_step (map conj_of l.conjs)) l.reader (g.more_conjs ∷ [])

abbrev pub decreases-read_more_conjs-conjs : goal.decreases-read_more_conjs-conjs
decreases-read_more_conjs-conjs l = length l.reader.later

abbrev pub invariant-read_more_units-units : goal.invariant-read_more_units-units
invariant-read_more_units-units l = Leads l.initial.reader (g.more_units ∷ []) (each unit_step (map unit_of l.units)) l.reader (g.more_units ∷ [])

abbrev pub decreases-read_more_units-units : goal.decreases-read_more_units-units
decreases-read_more_units-units l = length l.reader.later

-- Negations of propositions.
use Rattle.std.specs.Prelude.{List, [], ◌∷◌}
use Rattle.sm_syntax.specs.declared.place.Place.{Place}
use Rattle.sm_clausify.specs.Propositions.{Proposition, negation}

-- one negation for each place
abbrev pub behind : List Place → Proposition → Proposition
behind [] q = q
behind (p ∷ ps) q = negation (behind ps q)

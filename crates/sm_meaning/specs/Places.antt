-- The places of parts: those of their first tokens.
use Rattle.sm_syntax.specs.declared.place.Place.{Place}
use Rattle.sm_syntax.specs.Expressions.{Expression, expression}

abbrev pub place_of : Expression → Place
place_of (expression p is_negated x xs) = p

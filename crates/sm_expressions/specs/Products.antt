-- Products, factor by factor.
use Rattle.std.specs.Prelude.{ℕ, ◌+◌, List, [], ◌∷◌}
use Rattle.sm_forms.specs.Meanings.{Meaning}
use Rattle.sm_syntax.specs.Expressions.{Operands, no_operands, times}
use Rattle.sm_meaning.specs.Trials.{Trial, ◌▸◌, nothing_tried}
use Rattle.sm_meaning.specs.Scopes.{Tuple, Scope}
use Rattle.sm_meaning.specs.Worths.{times_of, operand_worth}
use Rattle.sm_meaning.specs.ExpressionTrials.{value_tried, one_if_varying}

-- what the factors mean
abbrev pub worths_of : Operands → Scope → Tuple → List Meaning
worths_of no_operands s b = []
worths_of (times x xs) s b = operand_worth x s.names b ∷ worths_of xs s b

-- in how many of them some variable matters
abbrev pub varying_in : Scope → List Meaning → ℕ
varying_in s [] = 0
varying_in s (g ∷ gs) = one_if_varying s g + varying_in s gs

-- what is so far, times the others
abbrev pub times_all : Meaning → List Meaning → Meaning
times_all g [] = g
times_all g (h ∷ hs) = times_all (times_of g h) hs

-- each of the products on the way
abbrev pub products_tried : Scope → Meaning → List Meaning → Trial
products_tried s g [] = nothing_tried
products_tried s g (h ∷ hs) = value_tried s (times_of g h) ▸ products_tried s (times_of g h) hs

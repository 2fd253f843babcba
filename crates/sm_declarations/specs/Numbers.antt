-- The numbers that stand in a kind.
use Rattle.std.specs.Prelude.{◌≡◌, List, [], ℤ, map}
use Rattle.sm_syntax.specs.Trees.{Values, Kind}
use Rattle.sm_meaning.specs.Scopes.{Scope}
use Rattle.sm_meaning.specs.Cases.{number_of}
use Rattle.sm_meaning.specs.Declarations.{value_parts, kind_parts}

-- these are the numbers of the expressions of a set, in order
abbrev pub AreValues : Scope → Values → List ℤ → Type 0
AreValues s vs zs = zs ≡ map (λ x. number_of s x []) (value_parts vs)

-- these are the numbers of the expressions of a kind, in order
abbrev pub AreNumbers : Scope → Kind → List ℤ → Type 0
AreNumbers s k zs = zs ≡ map (λ x. number_of s x []) (kind_parts k)

-- What becomes of a making as variables come.
use Rattle.std.specs.Prelude.{◌≡◌, ◌++◌, ◌∷◌, [], ◌+◌, ◌≤◌, List, map, length, is_some, false}
use Rattle.sm_kinds.specs.declared.var.Var.{Var}
use Rattle.sm_kinds.specs.Limits.{most_variables}
use Rattle.sm_syntax.specs.declared.place.Place.{Place}
use Rattle.sm_syntax.specs.declared.tree.Name.{Name}
use Rattle.sm_syntax.specs.Trees.{Kind}
use Rattle.sm_meaning.specs.declared.range.Range.{Range}
use Rattle.sm_meaning.specs.Scopes.{Scope, found, count_of}
use Rattle.sm_meaning.specs.Tuples.{member_count}
use Rattle.sm_meaning.specs.Expansions.{Declared}
use Rattle.sm_meaning.specs.Declarations.{ranges_of, index_tuples, declared_as, thing_of}
use Rattle.sm_declarations.specs.declared.making.Making.{Making}

-- these variables have come, of one declaration whose name stands there
pub record Grows (old new : Making) (p : Place) (vs : List Var) : Type 0 where
  pub kinds : new.scope.kinds ≡ old.scope.kinds ++ map (λ (v : Var). v.kind) vs
  pub vars : new.vars.items ≡ old.vars.items ++ vs
  pub places : new.places.items ≡ old.places.items ++ map (λ (v : Var). p) vs
  pub constraints : new.constraints.items ≡ old.constraints.items
  pub totals : new.totals ≡ old.totals

-- variables over these sets may come by this name
pub record HasRoom (m : Making) (name : Name) (sets : List Name) : Type 0 where
  pub new : is_some (found m.scope.names name.text) ≡ false
  pub few : length m.vars.items + member_count (ranges_of m.scope.names sets) ≤ most_variables
  pub kinds : count_of m.scope ≡ length m.vars.items

-- the members of a family over these sets, in order
abbrev pub family_vars : Name → List Range → Kind → Scope → List Var
family_vars name ranges k s = map (λ (d : Declared). d.var) (map (declared_as name k s) (index_tuples ranges))

-- the variables of a declaration have come, and its name
pub record HasDeclared (old new : Making) (name : Name) (sets : List Name) (k : Kind) (s : Scope) : Type 0 where
  pub names : new.scope.names ≡ old.scope.names ++ (name.text, thing_of (length old.vars.items) (ranges_of old.scope.names sets)) ∷ []
  pub grows : Grows old new name.place (family_vars name (ranges_of old.scope.names sets) k s)

-- Which front of a text is in the making.
use Rattle.std.specs.Prelude.{◌≡◌, map}
use Rattle.sm_meaning.specs.Expansions.{Declared, Expansion, scope_of}
use Rattle.sm_flattening.specs.FlatParts.{AreFlatParts}
use Rattle.sm_drafts.specs.Sums.{AreTotals}
use Rattle.sm_declarations.specs.declared.making.Making.{Making}

-- the names, places, flat parts and totals are those of the expansion
pub record IsMakingOf (e : Expansion) (m : Making) : Type 0 where
  pub scope : m.scope ≡ scope_of e
  pub places : m.places.items ≡ map (λ (d : Declared). d.place) e.variables
  pub parts : AreFlatParts e m.vars.items m.constraints.items
  pub totals : AreTotals e m.totals

-- the making is of some expansion
pub record IsOfSome (m : Making) : Type 0 where
  pub expansion : Expansion
  pub making : IsMakingOf expansion m

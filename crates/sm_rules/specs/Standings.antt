-- How a floor stands to the best at one level.
use Rattle.sm_frac.specs.Rational.{ℚ, ◌<ℚ◌}
use Rattle.sm_rules.specs.Floors.{Level, Reaches}
use Rattle.sm_rules.specs.declared.objectives.Standing.{Standing}
use Rattle.sm_rules.specs.declared.objectives.Standing.TheVariants as standing

-- above the best; or not above it, and reaches it or doesn't
abbrev pub Stands : Standing → ℚ → Level → Type 0
Stands standing.Ends g l = l.best <ℚ g
Stands standing.Reaches g l = (l.best <ℚ g → ⊥) × Reaches g l
Stands standing.Fails g l = (l.best <ℚ g → ⊥) × (Reaches g l → ⊥)

-- What stays of a tableau while its numbers change.
use Rattle.std.specs.Prelude.{◌≡◌}
use Rattle.sm_quick.specs.declared.tableau.Tableau.{Tableau}

pub record IsSameShape (old new : Tableau) : Type 0 where
  pub goal : new.goal ≡ old.goal
  pub constant : new.constant ≡ old.constant

-- What the code keeps of names, as the definitions see it.
use Rattle.std.specs.Prelude.{ℕ, ◌+◌, ◌≤◌, ◌<◌, List, length, All}
use Rattle.sm_kinds.specs.declared.var.VarKind.{VarKind}
use Rattle.sm_kinds.specs.Limits.{most_variables}
use Rattle.sm_meaning.specs.Scopes as s
use Rattle.sm_meaning.specs.Scopes.{Names}
use Rattle.sm_meaning.specs.Tuples.{member_count}
use Rattle.sm_scopes.specs.declared.scope.Thing.{Thing}
use Rattle.sm_scopes.specs.declared.scope.Thing.TheVariants as thing

abbrev pub thing_of : Thing → s.Thing
thing_of (thing.Table t) = s.table t.now
thing_of (thing.IndexSet r) = s.index_set r
thing_of (thing.Variable v) = s.variable v
thing_of (thing.Family v sets) = s.family v sets

-- what stands beside a name has its variables among the first n
abbrev pub HasVariables : ℕ → s.Thing → Type 0
HasVariables n (s.table t) = Unit {0}
HasVariables n (s.index_set r) = Unit {0}
HasVariables n (s.variable v) = v < n
HasVariables n (s.family v sets) = v + member_count sets ≤ n

-- each name stands for something of the variables that there are, and these are within their limit
pub record IsKept (names : Names) (kinds : List VarKind) : Type 0 where
  pub things : All (λ (e : List ℕ × s.Thing). HasVariables (length kinds) e.1) names
  pub few : length kinds ≤ most_variables

use Rattle.std.proofs.Common.{◌≡◌, drop}
use Rattle.sm_meaning.specs.Models.{is_torn}
use Rattle.sm_expand.specs.Subproblems.{subs_in}
use Rattle.sm_expand.proofs.Torn.{torn_behind}
use Rattle.sm_expand.proofs.subproblems.is_torn.Given as goal

abbrev pub invariant-loop-constraint : goal.invariant-loop-constraint
invariant-loop-constraint l = torn_behind l.first (subs_in l.var (drop l.constraint-index l.constraints)) ≡ is_torn (subs_in l.var l.constraints)

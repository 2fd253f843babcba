use Rattle.std.proofs.Common.{◌≡◌, drop}
use Rattle.std.specs.List.{list_all}
use Rattle.sm_kinds.specs.Vars.{var_at}
use Rattle.sm_rules.specs.Objectives.{is_discrete, is_whole}
use Rattle.sm_rules.proofs.objectives.is_whole.Given as goal

abbrev pub invariant-loop-term : goal.invariant-loop-term
invariant-loop-term l = list_all (λ t. is_discrete (var_at l.flat.vars t.0).kind) (drop l.term-index l.goal.terms) ≡ is_whole l.flat l.goal

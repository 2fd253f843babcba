use Rattle.std.proofs.Common.{drop, ◌≤◌, ◌^◌}
use Rattle.sm_step.specs.Grammar.{RisesFrom, IsList}
use Rattle.sm_step.proofs.Rising.{Alike}
use Rattle.sm_step.proofs.row_range.is_list.Given as goal

abbrev pub invariant-loop-number : goal.invariant-loop-number
invariant-loop-number l = record {
  same : Alike (RisesFrom l.least (drop l.number-index l.numbers)) (IsList l.numbers);
  small : l.least ≤ 2 ^ 32;
}

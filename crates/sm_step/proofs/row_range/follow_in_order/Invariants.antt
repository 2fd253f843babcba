use Rattle.std.proofs.Common.{drop}
use Rattle.sm_step.specs.Grammar.{FollowInOrder}
use Rattle.sm_step.proofs.Rising.{Alike}
use Rattle.sm_step.proofs.row_range.follow_in_order.Given as goal

abbrev pub invariant-loop-column : goal.invariant-loop-column
invariant-loop-column l = Alike (FollowInOrder l.before (drop l.column-index l.columns)) (FollowInOrder l.fn.first l.columns)

use Rattle.std.proofs.Common.{length, ◌-◌}
use Rattle.sm_expressions.proofs.name.+member_at.Given as goal

abbrev pub decreases-member_at : goal.decreases-member_at
decreases-member_at l = length l.sets.now - l.at

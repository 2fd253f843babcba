use Rattle.std.proofs.Common.{length}
use Rattle.sm_declarations.proofs.counts.+member_count.Given as goal

abbrev pub decreases-member_count : goal.decreases-member_count
decreases-member_count l = length l.ranges.now

use Rattle.std.proofs.Common.{length}
use Rattle.sm_drafts.proofs.groups.+greatest_end.Given as goal

abbrev pub decreases-greatest_end : goal.decreases-greatest_end
decreases-greatest_end l = length l.tasks.now

use Rattle.std.proofs.Common.{length}
use Rattle.sm_meaning.specs.Tuples.{member_count}
use Rattle.sm_declarations.proofs.LimitTrials.{members_few, members_pass}
use Rattle.sm_declarations.proofs.limits.try_members.Goals as goal

pub returns-clause-tried : goal.returns-clause-tried
returns-clause-tried c = λ e is. members_pass c.args.vars.now e c.member_count-members.result (member_count c.args.ranges.now) is c.member_count-members.ensures.value c.in_ok-try_large_count.ensures

pub returns-clause-few : goal.returns-clause-few
returns-clause-few c = members_few (length c.args.vars.now) c.member_count-members.result c.in_ok-try_large_count.ensures

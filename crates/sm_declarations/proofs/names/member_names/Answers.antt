use Rattle.std.proofs.Common.{◌∙◌}
use Rattle.sm_declarations.proofs.Members.{no_names}
use Rattle.sm_declarations.proofs.names.member_names.Goals as goal

pub returns-then-member_count-eq0 : goal.returns-then-member_count-eq0
returns-then-member_count-eq0 c = c.new-names.ensures.items ∙ no_names c.args.name.now c.args.ranges.now c.member_count.result c.member_count.ensures.value c.if-member_count-eq0.true

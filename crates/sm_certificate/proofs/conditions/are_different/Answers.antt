use Rattle.std.proofs.Common.{pos}
use Rattle.sm_certificate.proofs.conditions.are_different.Goals as goal

pub returns-in-Some : goal.returns-in-Some
returns-in-Some c = (λ e. absurd (cc), λ all. absurd (all c.in-Some.field-0 c.loop-j.j (0, pos 0) c.in-Some.ensures.inside c.loop-j-test.true (c.in-Some.ensures.names (0, pos 0))))

use Rattle.std.proofs.Common.{◌≡◌, ◌+◌, take, sym, ap, ◌∙◌}
use Rattle.sm_step.specs.Text.{text_of}
use Rattle.sm_check.proofs.Readings.{refused_line}
use Rattle.sm_check.proofs.checking.Reading.apply.Goals as goal

pub returns-in-Err-Refused-clause-cause : goal.returns-in-Err-Refused-clause-cause
returns-in-Err-Refused-clause-cause c =
    let read : take c.args.count c.left.result.now ≡ text_of c.in-Ok.line = c.in-Ok.ensures.found.1 in
    let text = ap (take c.args.count) (sym c.left.ensures) ∙ read in
    rw (← c.self.view_is) (refused_line c.args.flat.now c.self.inside.state (take c.args.count c.self.inside.feed.left) (c.self.inside.lines + 1) c.in-Ok.line c.in-Err-Refused.cause c.in-Err-Refused.field-0 c.refused-in-Err-Refused.result c.in-Ok.ensures.found.0 text c.in-Err-Refused.ensures.refused c.in-Err-Refused.field-0-is c.refused-in-Err-Refused.ensures)

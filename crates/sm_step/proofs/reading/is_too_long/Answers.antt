use Rattle.std.proofs.Common.{◌≡◌, ◌<◌, ◌^◌, length, rules}
use Rattle.std.specs.Prelude.{codes, None}
use Rattle.sm_step.specs.Reading.{rest_behind}
use Rattle.sm_step.proofs.Lines.{begins_none}
use Rattle.sm_step.proofs.reading.is_too_long.Goals as goal

pub returns-then-bytes-gt-LENGTHS-clause-begins : goal.returns-then-bytes-gt-LENGTHS-clause-begins
returns-then-bytes-gt-LENGTHS-clause-begins c = λ e.
    let long : 2 ^ 24 < length c.args.bytes.now = search rules in
    let other : rest_behind (codes "norange ") c.args.bytes.now ≡ None = search rules in
    begins_none c.args.bytes.now long other

use Rattle.std.proofs.Common.{◌<◌, length, rules}
use Rattle.sm_rules.proofs.Violating.{some_at, not_from, not_both}
use Rattle.sm_rules.proofs.violation.is_violated.Goals as goal

pub returns-then-every_var : goal.returns-then-every_var
returns-then-every_var c =
    let within : c.args.k < length c.args.flat.now.constraints = search rules in
    let at = some_at c.args.flat.now.constraints c.args.k within in (
      (λ t. record {
        constraint = at.0;
        is = at.1;
        fixed = (c.every_var.ensures at.0 at.1).0 c.if-every_var.true;
        fails = λ sat. not_both c.holds.result t ((c.holds.ensures at.0 at.1).1 sat);
      }),
      (λ v. not_from c.holds.result (λ t. v.fails ((c.holds.ensures v.constraint v.is).0 t))),
    )

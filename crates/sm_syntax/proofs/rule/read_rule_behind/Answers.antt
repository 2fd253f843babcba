use Rattle.std.proofs.lemmas.Result.{err_from_is_err_and}
use Rattle.sm_syntax.proofs.Readings.{rule_builds, rule_fails}
use Rattle.sm_syntax.proofs.rule.read_rule_behind.Goals as goal

pub returns-in_err-parts-clause-read : goal.returns-in_err-parts-clause-read
returns-in_err-parts-clause-read g c =
    let p = err_from_is_err_and c.from_residual.result c.from_residual.ensures.1 in
    rw (p.1, p.2) (rule_fails c.args.reader.now c.read_behind.new.reader c.in_err-parts.field-0.0 g.T.Rule.number c.requires c.in_err-parts.ensures.read)

pub returns-clause-read : goal.returns-clause-read
returns-clause-read g c = rule_builds g.T.Rule.number c.place-place.result (g.T.Rule.listed c.build.result) c.place-place.ensures c.requires c.in_ok-parts.ensures.read c.build.ensures

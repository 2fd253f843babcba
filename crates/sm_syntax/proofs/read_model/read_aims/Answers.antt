use Rattle.std.proofs.Common.{ap, sym, refl, map}
use Rattle.std.proofs.lemmas.Result.{err_from_is_err_and}
use Rattle.sm_syntax.proofs.Readings.{restep, rule_reads, rule_fails}
use Rattle.sm_syntax.specs.TreeSteps.{goal_then}
use Rattle.sm_syntax.specs.Trees.{aims, aim_of}
use Rattle.sm_syntax.proofs.read_model.read_aims.Goals as goal

pub returns-in_err-first : goal.returns-in_err-first
returns-in_err-first c =
    let p = err_from_is_err_and c.from_residual.result c.from_residual.ensures.1 in
    rw (p.1, p.2) (rule_fails c.args.reader.now c.read.new.reader c.in_err-first.field-0.0 3 c.requires c.in_err-first.ensures)

pub returns : goal.returns
returns c = restep (goal_then (aims c.place-place.result (aim_of c.in_ok-first.first) (map aim_of c.new-more.result))) (λ r. ap (λ xs. goal_then (aims c.place-place.result (aim_of c.in_ok-first.first) (map aim_of xs)) r) (sym c.new-more.ensures))
    (rule_reads 3 c.place-place.result refl c.place-place.ensures c.requires c.in_ok-first.ensures)

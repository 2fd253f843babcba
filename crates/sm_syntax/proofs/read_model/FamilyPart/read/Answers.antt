use Rattle.std.proofs.Common.{◌∙◌, ap, sym, refl, []}
use Rattle.std.proofs.lemmas.Result.{err_from_is_err_and}
use Rattle.sm_syntax.proofs.Readings.{restep, opened_group, group_reads, rule_fails}
use Rattle.sm_syntax.proofs.Predictions as predict
use Rattle.sm_syntax.specs.TreeSteps.{family_then}
use Rattle.sm_syntax.proofs.read_model.FamilyPart.read.Goals as goal

pub returns-then-not-is : goal.returns-then-not-is
returns-then-not-is c = restep (family_then c.new.result) (λ r. ap (λ ns. family_then ns r) (sym c.new.ensures)) (opened_group c.args.reader.now 25 [] refl (predict.family_none c.args.reader.now (sym c.is.ensures ∙ c.if-not-is.true)))

pub returns-in_err-parts : goal.returns-in_err-parts
returns-in_err-parts c =
    let p = err_from_is_err_and c.from_residual.result c.from_residual.ensures.1 in
    rw (p.1, p.2) (rule_fails c.args.reader.now c.read.new.reader c.in_err-parts.field-0.0 25 (predict.family_some c.args.reader.now (sym c.is.ensures ∙ c.if-not-is.false)) c.in_err-parts.ensures)

pub returns : goal.returns
returns c =
    restep (family_then c.in_ok-sets.sets) (λ r. ap (λ ns. family_then ns r) (sym c.in_ok-sets.ensures)) (group_reads 25 refl (predict.family_some c.args.reader.now (sym c.is.ensures ∙ c.if-not-is.false)) c.in_ok-parts.ensures)

use Rattle.std.proofs.Common.{◌∙◌, sym, refl, arith, ◌<◌, length}
use Rattle.std.proofs.lemmas.Result.{err_from_is_err_and}
use Rattle.sm_frac.specs.declared.operation.Op.TheVariants.{Over}
use Rattle.sm_lp.specs.Table.{dictionary_of}
use Rattle.sm_certificate.proofs.FineLemmas.{value_of_zero}
use Rattle.sm_lp.proofs.PivotSteps.{quotient_more, quotient_passed}
use Rattle.sm_lp.proofs.pivot.quotients_of.Goals as goal

pub over-requires : goal.over-requires
over-requires c e = c.requires.some (sym c.entry-divisor.ensures ∙ value_of_zero c.entry-divisor.result e)

pub loop-j-preserved : goal.loop-j-preserved
loop-j-preserved c =
    let d = dictionary_of c.args.table.now in
    let inside : c.loop-j.j < length c.loop-j.blank.items = omega (arith, c.loop-j.blank.ok.0) in
    let more = quotient_more Over d c.args.row c.args.column c.loop-j.j c.loop-j.blank.items c.dividend_at.result c.entry-divisor.result c.in_ok-blank.field-0 inside c.dividend_at.ensures c.entry-divisor.ensures c.in_ok-blank.ensures.exact (λ p. absurd (let e = c.in_ok-blank.ensures.passed.1 p in cc)) c.loop-j.invariant.exact c.loop-j.invariant.fine in
    record { long = c.loop-j.invariant.long; exact = more.0; fine = more.1 }

pub returns-in_err-blank-clause-passed : goal.returns-in_err-blank-clause-passed
returns-in_err-blank-clause-passed c =
    let p = err_from_is_err_and c.from_residual.result c.from_residual.ensures.1 in
    rw (p.1, p.2) (quotient_passed (dictionary_of c.args.table.now) c.args.row c.args.column c.loop-j.j c.dividend_at.result c.entry-divisor.result c.in_err-blank.field-0.0 (let w = c.loop-j-test.true in omega arith) c.dividend_at.ensures c.entry-divisor.ensures c.in_err-blank.ensures.carried (c.in_err-blank.ensures.passed.0 refl))

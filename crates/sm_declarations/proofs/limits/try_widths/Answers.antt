use Rattle.std.proofs.Common.{arith}
use Rattle.std.proofs.lemmas.Result.{err_from_is_err_and}
use Rattle.sm_declarations.proofs.LimitTrials.{widths_stop, widths_go}
use Rattle.sm_declarations.proofs.limits.try_widths.Goals as goal

pub returns-in_err-try_amount : goal.returns-in_err-try_amount
returns-in_err-try_amount c =
    let p = err_from_is_err_and c.from_residual.result c.from_residual.ensures.1 in
    rw (p.1, p.2) (widths_stop c.in_err-try_amount.field-0.0 c.args.members c.loop-member._member c.args.width c.loop-member.total c.args.so_far c.loop-member-test.true c.loop-member.invariant.tried c.in_err-try_amount.ensures.tried)

pub loop-member-preserved : goal.loop-member-preserved
loop-member-preserved c = record {
  tried = widths_go c.args.members c.loop-member._member c.args.width c.loop-member.total c.args.so_far c.loop-member-test.true c.loop-member.invariant.tried c.in_ok-try_amount.ensures.tried;
  bound = omega (arith, c.in_ok-try_amount.ensures.small);
}

use Rattle.std.proofs.Common.{length, ap, arith, length-drop}
use Rattle.std.proofs.lemmas.List.{take_rest}
use Rattle.std.proofs.KnownBytes.{Appends-nil}
use Rattle.sm_base.proofs.Progress.{appends_more}
use Rattle.sm_base.proofs.transfers.put_all.Goals as goal

pub loop-at-init : goal.loop-at-init
loop-at-init g c = record { within = omega arith; appended = Appends-nil _; later = omega arith }

pub loop-at-preserved : goal.loop-at-preserved
loop-at-preserved g c = record {
  within = omega (arith, c.in-Ok.ensures.bound, length-drop c.loop-at.at c.args.piece.now, ap length (take_rest c.args.piece.now c.loop-at.at));
  appended = appends_more _ _ _ c.args.piece.now c.loop-at.at c.in-Ok.n c.loop-at.invariant.appended (rw take_rest at c.in-Ok.ensures.bytes);
  later = omega (arith, c.loop-at.invariant.later, c.put.ensures.cause.later);
}

use Rattle.std.proofs.Common.{sym, subst}
use Rattle.sm_run.specs.declared.ending.Ending.TheVariants as ending
use Rattle.sm_run.specs.declared.ending.Outcome.{Outcome}
use Rattle.sm_run.specs.Telling.{device}
use Rattle.sm_run.specs.Searching.{EndsLog}
use Rattle.sm_run.proofs.Searches.{log_put, log_halted}
use Rattle.sm_run.proofs.solving.put_log.Goals as goal

pub returns-in-Ok : goal.returns-in-Ok
returns-in-Ok g c = λ whole tables is.
    let out = device (g.S.Sink.faults c.args.out.now) (g.S.Sink.faults c.solve.new.sink) (g.S.Sink.written c.args.out.now) (g.S.Sink.written c.solve.new.sink) in
    subst (λ (o : Outcome). EndsLog whole tables c.args.flat.now out (ending.Solved o)) (sym c.of.ensures) (log_put whole tables c.args.flat.now out c.in-Ok.solved c.in-Ok.ensures.solved is)

pub returns-in-Err-Halted : goal.returns-in-Err-Halted
returns-in-Err-Halted g c = λ whole tables is.
    let stopped = rw c.in-Err-Halted.field-0-is at c.in-Err-Halted.ensures.stopped in
    let unput = rw c.in-Err-Halted.field-0-is at c.in-Err-Halted.ensures.unput in
    log_halted whole tables c.args.flat.now (g.S.Sink.faults c.args.out.now) (g.S.Sink.faults c.solve.new.sink) (g.S.Sink.faults c.stopped.new.out)
    (g.S.Sink.written c.args.out.now) (g.S.Sink.written c.solve.new.sink) (g.S.Sink.written c.stopped.new.out) c.in-Err-Halted.halt c.stopped.result c.in-Err-Halted.ensures.later stopped unput c.stopped.ensures

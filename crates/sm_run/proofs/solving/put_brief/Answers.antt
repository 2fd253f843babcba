use Rattle.sm_run.specs.Telling.{device}
use Rattle.sm_run.proofs.Searches.{brief_put, brief_halted}
use Rattle.sm_run.proofs.solving.put_brief.Goals as goal

pub returns-in-Ok : goal.returns-in-Ok
returns-in-Ok g c = λ whole tables is.
    let out = device (g.S.Sink.faults c.args.out.now) (g.S.Sink.faults c.put_solution.new.out) (g.S.Sink.written c.args.out.now) (g.S.Sink.written c.put_solution.new.out) in
    let aside = device (g.D.Sink.faults c.args.aside.now) (g.D.Sink.faults c.solve.new.sink) (g.D.Sink.written c.args.aside.now) (g.D.Sink.written c.solve.new.sink) in
    brief_put whole tables c.args.flat.now out aside c.in-Ok.solved c.put_solution.result c.in-Ok.ensures.solved is c.put_solution.ensures

pub returns-in-Err-Halted : goal.returns-in-Err-Halted
returns-in-Err-Halted g c = λ whole tables is.
    let out = device (g.S.Sink.faults c.args.out.now) (g.S.Sink.faults c.stopped_aside.new.out) (g.S.Sink.written c.args.out.now) (g.S.Sink.written c.stopped_aside.new.out) in
    let aside = device (g.D.Sink.faults c.args.aside.now) (g.D.Sink.faults c.solve.new.sink) (g.D.Sink.written c.args.aside.now) (g.D.Sink.written c.solve.new.sink) in
    let stopped = rw c.in-Err-Halted.field-0-is at c.in-Err-Halted.ensures.stopped in
    brief_halted whole tables c.args.flat.now out aside c.in-Err-Halted.halt.refusal c.stopped_aside.result stopped c.stopped_aside.ensures

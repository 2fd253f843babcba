use Rattle.sm_run.specs.Telling.{device}
use Rattle.sm_run.proofs.Checks.{check_accepted, check_refused}
use Rattle.sm_run.proofs.checking.put_check.Goals as goal

pub returns-in-Ok-clause-says : goal.returns-in-Ok-clause-says
returns-in-Ok-clause-says g c = λ whole tables is.
    let out = device (g.S.Sink.faults c.args.out.now) (g.S.Sink.faults c.tell_verdict.new.out) (g.S.Sink.written c.args.out.now) (g.S.Sink.written c.tell_verdict.new.out) in
    check_accepted whole tables c.args.flat.now (g.F.Shelf.held c.args.shelf.now c.args.log.now) (g.F.Shelf.faults c.args.shelf.now) (g.F.Shelf.faults c.check.new.shelf) out c.tell_verdict.result
    c.in-Ok.verdict is c.in-Ok.ensures.accepted c.tell_verdict.ensures

pub returns-in-Err-clause-says : goal.returns-in-Err-clause-says
returns-in-Err-clause-says g c = λ whole tables is.
    let out = device (g.S.Sink.faults c.args.out.now) (g.S.Sink.faults c.tell_refusal.new.out) (g.S.Sink.written c.args.out.now) (g.S.Sink.written c.tell_refusal.new.out) in
    check_refused whole tables c.args.flat.now (g.F.Shelf.held c.args.shelf.now c.args.log.now) (g.F.Shelf.faults c.args.shelf.now) (g.F.Shelf.faults c.check.new.shelf) out c.tell_refusal.result
    c.in-Err.refusal c.in-Err.ensures.refused c.tell_refusal.ensures

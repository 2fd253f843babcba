use Rattle.std.proofs.Common.{◌∙◌, sym}
use Rattle.sm_run.specs.Devices.{Device, Effects}
use Rattle.sm_run.specs.Telling.{device}
use Rattle.sm_run.proofs.Told.{appends_none}
use Rattle.sm_run.proofs.Whole.{log_ends, brief_ends, early_solve}
use Rattle.sm_run.proofs.solving.put_search.Goals as goal

pub returns-then-is_early : goal.returns-then-is_early
returns-then-is_early g c = λ held model files read_before read_now h.
    let e : Effects = record {
      read_before = read_before;
      read_now = read_now;
      out = device (g.S.Sink.faults c.args.out.now) (g.S.Sink.faults c.tell_early.new.out) (g.S.Sink.written c.args.out.now) (g.S.Sink.written c.tell_early.new.out);
      aside = device (g.D.Sink.faults c.args.aside.now) (g.D.Sink.faults c.args.aside.now) (g.D.Sink.written c.args.aside.now) (g.D.Sink.written c.args.aside.now);
    } in
    early_solve held model files e c.args.flat.now h c.args.brief c.tell_early.result (sym c.is_early.ensures ∙ c.if-is_early.true) (appends_none (g.D.Sink.written c.args.aside.now)) c.tell_early.ensures

pub returns-then-brief : goal.returns-then-brief
returns-then-brief g c = rw c.if-brief.true (λ held model files read_before read_now h.
    let e : Effects = record {
      read_before = read_before;
      read_now = read_now;
      out = device (g.S.Sink.faults c.args.out.now) (g.S.Sink.faults c.put_brief.new.out) (g.S.Sink.written c.args.out.now) (g.S.Sink.written c.put_brief.new.out);
      aside = device (g.D.Sink.faults c.args.aside.now) (g.D.Sink.faults c.put_brief.new.aside) (g.D.Sink.written c.args.aside.now) (g.D.Sink.written c.put_brief.new.aside);
    } in
    brief_ends held model files e c.args.flat.now h c.put_brief.result (c.put_brief.ensures h.whole h.tables h.holds))

pub returns-else-brief : goal.returns-else-brief
returns-else-brief g c = rw c.if-brief.false (λ held model files read_before read_now h.
    let e : Effects = record {
      read_before = read_before;
      read_now = read_now;
      out = device (g.S.Sink.faults c.args.out.now) (g.S.Sink.faults c.put_log.new.out) (g.S.Sink.written c.args.out.now) (g.S.Sink.written c.put_log.new.out);
      aside = device (g.D.Sink.faults c.args.aside.now) (g.D.Sink.faults c.args.aside.now) (g.D.Sink.written c.args.aside.now) (g.D.Sink.written c.args.aside.now);
    } in
    log_ends held model files e c.args.flat.now h c.put_log.result (appends_none (g.D.Sink.written c.args.aside.now)) (c.put_log.ensures h.whole h.tables h.holds))

use Rattle.std.proofs.Common.{map, List, ℕ, Bor}
use Rattle.sm_run.specs.Devices.{Effects}
use Rattle.sm_run.specs.Telling.{device}
use Rattle.sm_run.proofs.Told.{appends_none}
use Rattle.sm_run.proofs.Whole.{refused_solve}
use Rattle.sm_run.proofs.solving.solved.Goals as goal

pub returns-in-Ok : goal.returns-in-Ok
returns-in-Ok g c =
    c.put_search.ensures (g.F.Shelf.held c.args.shelf.now) c.args.model.now (map (λ (f : Bor (List ℕ)). f.now) c.args.files.now) (g.F.Shelf.faults c.args.shelf.now) (g.F.Shelf.faults c.flat_of_files.new.shelf)
    c.in-Ok.ensures.flat

pub returns-in-Err : goal.returns-in-Err
returns-in-Err g c =
    let e : Effects = record {
      read_before = g.F.Shelf.faults c.args.shelf.now;
      read_now = g.F.Shelf.faults c.flat_of_files.new.shelf;
      out = device (g.S.Sink.faults c.args.out.now) (g.S.Sink.faults c.refuse.new.out) (g.S.Sink.written c.args.out.now) (g.S.Sink.written c.refuse.new.out);
      aside = device (g.D.Sink.faults c.args.aside.now) (g.D.Sink.faults c.args.aside.now) (g.D.Sink.written c.args.aside.now) (g.D.Sink.written c.args.aside.now);
    } in
    refused_solve (g.F.Shelf.held c.args.shelf.now) c.args.model.now (map (λ (f : Bor (List ℕ)). f.now) c.args.files.now) e c.args.brief c.in-Err.error c.refuse.result c.in-Err.ensures.cause
    (appends_none (g.D.Sink.written c.args.aside.now)) c.refuse.ensures

use Rattle.std.proofs.Common.{map, List, ℕ, Bor}
use Rattle.sm_run.specs.Devices.{Effects}
use Rattle.sm_run.specs.Telling.{device}
use Rattle.sm_run.proofs.Whole.{refused_check}
use Rattle.sm_run.proofs.checking.checked.Goals as goal

pub returns-in-Err : goal.returns-in-Err
returns-in-Err g c = λ aside none.
    let e : Effects = record {
      read_before = g.F.Shelf.faults c.args.shelf.now;
      read_now = g.F.Shelf.faults c.flat_of_files.new.shelf;
      out = device (g.S.Sink.faults c.args.out.now) (g.S.Sink.faults c.refuse.new.out) (g.S.Sink.written c.args.out.now) (g.S.Sink.written c.refuse.new.out);
      aside = aside;
    } in
    refused_check (g.F.Shelf.held c.args.shelf.now) c.args.model.now (map (λ (f : Bor (List ℕ)). f.now) c.args.files.now) e c.args.log.now c.in-Err.error c.refuse.result c.in-Err.ensures.cause none c.refuse.ensures

use Rattle.std.proofs.Common.{◌∙◌, sym, subst, Option, List, ℕ}
use Rattle.sm_run.specs.Devices.{Effects}
use Rattle.sm_run.specs.Telling.{device}
use Rattle.sm_run.specs.Searching.{EndsCheck}
use Rattle.sm_run.proofs.Whole.{early_check, check_ends}
use Rattle.sm_run.proofs.checking.put_answer.Goals as goal

pub returns-then-is_early-clause-says : goal.returns-then-is_early-clause-says
returns-then-is_early-clause-says g c = λ held model files read_before aside h same le none.
    let e : Effects = record {
      read_before = read_before;
      read_now = g.F.Shelf.faults c.args.shelf.now;
      out = device (g.S.Sink.faults c.args.out.now) (g.S.Sink.faults c.tell_early.new.out) (g.S.Sink.written c.args.out.now) (g.S.Sink.written c.tell_early.new.out);
      aside = aside;
    } in
    early_check held model files e c.args.log.now c.args.flat.now h c.tell_early.result (sym c.is_early.ensures ∙ c.if-is_early.true) none c.tell_early.ensures

pub returns-clause-says : goal.returns-clause-says
returns-clause-says g c = λ held model files read_before aside h same le none.
    let e : Effects = record {
      read_before = read_before;
      read_now = g.F.Shelf.faults c.put_check.new.shelf;
      out = device (g.S.Sink.faults c.args.out.now) (g.S.Sink.faults c.put_check.new.out) (g.S.Sink.written c.args.out.now) (g.S.Sink.written c.put_check.new.out);
      aside = aside;
    } in
    check_ends held model files e c.args.log.now c.args.flat.now h (g.F.Shelf.faults c.args.shelf.now) c.put_check.result le none
    (subst (λ (log : Option (List ℕ)). EndsCheck h.whole h.tables c.args.flat.now log (g.F.Shelf.faults c.args.shelf.now) e.read_now e.out c.put_check.result) same
    (c.put_check.ensures.says h.whole h.tables h.holds))

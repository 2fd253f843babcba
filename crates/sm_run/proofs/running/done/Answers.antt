use Rattle.std.proofs.Common.{◌≡◌, sym, subst, map, string_bytes, List, ℕ, Bor}
use Rattle.sm_run.specs.Devices.{Given, Effects}
use Rattle.sm_run.specs.Endings.{DueOfSolve, StopsOfSolve, DueOfCheck, EndsBy}
use Rattle.sm_run.specs.Telling.{device}
use Rattle.sm_run.proofs.Told.{appends_none}
use Rattle.sm_run.proofs.Whole.{ends_solve, ends_check, ends_usage, ends_memory}
use Rattle.sm_run.proofs.running.done.Goals as goal

pub returns-in-Ok-Solve : goal.returns-in-Ok-Solve
returns-in-Ok-Solve g c =
    let given : Given = record { words = map string_bytes c.args.words.now; held = g.F.Shelf.held c.args.shelf.now } in
    let e : Effects = record {
      read_before = g.F.Shelf.faults c.args.shelf.now;
      read_now = g.F.Shelf.faults c.solved.new.shelf;
      out = device (g.S.Sink.faults c.args.out.now) (g.S.Sink.faults c.solved.new.out) (g.S.Sink.written c.args.out.now) (g.S.Sink.written c.solved.new.out);
      aside = device (g.D.Sink.faults c.args.aside.now) (g.D.Sink.faults c.solved.new.aside) (g.D.Sink.written c.args.aside.now) (g.D.Sink.written c.solved.new.aside);
    } in
    let ends = subst (λ (files : List (Bor (List ℕ))). EndsBy (DueOfSolve given.held c.in-Ok-Solve.model.now (map (λ (f : Bor (List ℕ)). f.now) files) c.in-Ok-Solve.brief e)
    (StopsOfSolve given.held c.in-Ok-Solve.model.now (map (λ (f : Bor (List ℕ)). f.now) files) c.in-Ok-Solve.brief e) e.out c.solved.result) c.as_slice.ensures.value c.solved.ensures in
    let asked = rw c.in-Ok-Solve.field-0-is at c.in-Ok-Solve.ensures in
    ends_solve given e c.in-Ok-Solve.model.now (map (λ (f : Bor (List ℕ)). f.now) c.in-Ok-Solve.data_files.items) c.in-Ok-Solve.brief c.solved.result asked ends

pub returns-in-Ok-Check : goal.returns-in-Ok-Check
returns-in-Ok-Check g c =
    let given : Given = record { words = map string_bytes c.args.words.now; held = g.F.Shelf.held c.args.shelf.now } in
    let e : Effects = record {
      read_before = g.F.Shelf.faults c.args.shelf.now;
      read_now = g.F.Shelf.faults c.checked.new.shelf;
      out = device (g.S.Sink.faults c.args.out.now) (g.S.Sink.faults c.checked.new.out) (g.S.Sink.written c.args.out.now) (g.S.Sink.written c.checked.new.out);
      aside = device (g.D.Sink.faults c.args.aside.now) (g.D.Sink.faults c.args.aside.now) (g.D.Sink.written c.args.aside.now) (g.D.Sink.written c.args.aside.now);
    } in
    let ends = subst (λ (files : List (Bor (List ℕ))). EndsBy (DueOfCheck given.held c.in-Ok-Check.model.now (map (λ (f : Bor (List ℕ)). f.now) files) c.in-Ok-Check.log.now e) (λ r. ⊥) e.out c.checked.result)
    c.as_slice-in-Ok-Check.ensures.value (c.checked.ensures e.aside (appends_none (g.D.Sink.written c.args.aside.now))) in
    let asked = rw c.in-Ok-Check.field-0-is at c.in-Ok-Check.ensures in
    ends_check given e c.in-Ok-Check.model.now (map (λ (f : Bor (List ℕ)). f.now) c.in-Ok-Check.data_files.items) c.in-Ok-Check.log.now c.checked.result asked ends

pub returns-in-Err-Usage : goal.returns-in-Err-Usage
returns-in-Err-Usage g c =
    let given : Given = record { words = map string_bytes c.args.words.now; held = g.F.Shelf.held c.args.shelf.now } in
    let e : Effects = record {
      read_before = g.F.Shelf.faults c.args.shelf.now;
      read_now = g.F.Shelf.faults c.args.shelf.now;
      out = device (g.S.Sink.faults c.args.out.now) (g.S.Sink.faults c.refuse.new.out) (g.S.Sink.written c.args.out.now) (g.S.Sink.written c.refuse.new.out);
      aside = device (g.D.Sink.faults c.args.aside.now) (g.D.Sink.faults c.args.aside.now) (g.D.Sink.written c.args.aside.now) (g.D.Sink.written c.args.aside.now);
    } in
    let none = rw c.in-Err-Usage.field-0-is at c.in-Err-Usage.ensures in
    ends_usage given e c.refuse.result none (appends_none (g.D.Sink.written c.args.aside.now)) c.refuse.ensures

pub returns-in-Err-OutOfMemory : goal.returns-in-Err-OutOfMemory
returns-in-Err-OutOfMemory g c =
    let given : Given = record { words = map string_bytes c.args.words.now; held = g.F.Shelf.held c.args.shelf.now } in
    let e : Effects = record {
      read_before = g.F.Shelf.faults c.args.shelf.now;
      read_now = g.F.Shelf.faults c.args.shelf.now;
      out = device (g.S.Sink.faults c.args.out.now) (g.S.Sink.faults c.refuse-in-Err-OutOfMemory.new.out) (g.S.Sink.written c.args.out.now) (g.S.Sink.written c.refuse-in-Err-OutOfMemory.new.out);
      aside = device (g.D.Sink.faults c.args.aside.now) (g.D.Sink.faults c.args.aside.now) (g.D.Sink.written c.args.aside.now) (g.D.Sink.written c.args.aside.now);
    } in
    ends_memory given e c.refuse-in-Err-OutOfMemory.result (appends_none (g.D.Sink.written c.args.aside.now)) c.refuse-in-Err-OutOfMemory.ensures

use Rattle.std.proofs.Common.{refl, inl, inr, sym, subst}
use Rattle.sm_search.specs.declared.refusal.WorkRefusal.TheVariants as work
use Rattle.sm_reports.specs.declared.error.ErrorLine.{ErrorLine}
use Rattle.sm_reports.specs.declared.error.ErrorLine.TheVariants as error
use Rattle.sm_run.specs.Endings.{log_limit}
use Rattle.sm_run.specs.Telling.{device, TellsError}
use Rattle.sm_run.proofs.Told.{halts_told}
use Rattle.sm_run.proofs.solving.stopped_aside.Goals as goal

pub returns-in-OutOfMemory : goal.returns-in-OutOfMemory
returns-in-OutOfMemory g c = rw c.in-OutOfMemory.is (
    halts_told work.OutOfMemory error.Memory (device (g.S.Sink.faults c.args.out.now) (g.S.Sink.faults c.refuse.new.out) (g.S.Sink.written c.args.out.now) (g.S.Sink.written c.refuse.new.out)) c.refuse.result refl refl
    c.refuse.ensures)

pub returns-in-LogTooLong : goal.returns-in-LogTooLong
returns-in-LogTooLong g c =
    let out = device (g.S.Sink.faults c.args.out.now) (g.S.Sink.faults c.refuse-in-LogTooLong.new.out) (g.S.Sink.written c.args.out.now) (g.S.Sink.written c.refuse-in-LogTooLong.new.out) in
    rw c.in-LogTooLong.is (halts_told work.LogTooLong log_limit out c.refuse-in-LogTooLong.result (inl refl) (inr refl)
    (subst (λ (line : ErrorLine). TellsError line out c.refuse-in-LogTooLong.result) c.log_limit.ensures c.refuse-in-LogTooLong.ensures))

-- What comes of putting what is due.
use Rattle.std.specs.Prelude.{◌≡◌, ◌⊎◌, ℕ, List, Option, Result, Ok, Err, Vec}
use Rattle.std.specs.declared.alloc.Global.{Global}
use Rattle.sm_base.specs.declared.devices.OutOfMemory.{OutOfMemory}
use Rattle.sm_step.specs.declared.verdict.Verdict.{Verdict}
use Rattle.sm_check.specs.declared.refusal.CheckRefusal.{CheckRefusal}
use Rattle.sm_check.specs.declared.refusal.CheckRefusal.TheVariants as check
use Rattle.sm_reports.specs.declared.error.ErrorLine.{ErrorLine}
use Rattle.sm_reports.specs.declared.error.ErrorLine.TheVariants.{Read, Memory}
use Rattle.sm_reports.specs.Errors.{error_text}
use Rattle.sm_reports.specs.Checks.{accepted_line, refused_line}
use Rattle.sm_run.specs.declared.ending.Ending.{Ending}
use Rattle.sm_run.specs.declared.ending.Ending.TheVariants.{Refused, Accepted, LogRefused, Untold}
use Rattle.sm_run.specs.Endings.{log_limit}
use Rattle.sm_run.specs.Devices.{Device, Puts, Fails}

abbrev pub device : ℕ → ℕ → Option (List ℕ) → Option (List ℕ) → Device
device faults_before faults_now before now = record { faults_before = faults_before; faults_now = faults_now; before = before; now = now }

-- it was put and this is the ending, or a front of it was put and then a put failed
abbrev pub IsTold : Device → List ℕ → Ending → Ending → Type 0
IsTold d text own end = ((end ≡ own) × Puts d text) ⊎ ((end ≡ Untold) × Fails d text)

-- this error is told, or that memory ran out
abbrev pub TellsError : ErrorLine → Device → Ending → Type 0
TellsError line d end = IsTold d (error_text line) (Refused line) end ⊎ IsTold d (error_text Memory) (Refused Memory) end

-- the line is told, if there was memory for it
abbrev pub TellsLine : Result (Vec ℕ Global) OutOfMemory → Ending → Device → Ending → Type 0
TellsLine (Ok line) own d end = IsTold d line.items own end
TellsLine (Err e) own d end = TellsError Memory d end

-- what a check is told by
abbrev pub TellsVerdict : Verdict → Device → Ending → Type 0
TellsVerdict v d end = IsTold d (accepted_line v) Accepted end ⊎ TellsError Memory d end

abbrev pub TellsRefusal : CheckRefusal → Device → Ending → Type 0
TellsRefusal (check.Refused line cause) d end = IsTold d (refused_line line cause) LogRefused end ⊎ TellsError Memory d end
TellsRefusal check.ReadFault d end = TellsError Read d end
TellsRefusal check.LogTooLong d end = TellsError log_limit d end
TellsRefusal check.OutOfMemory d end = TellsError Memory d end

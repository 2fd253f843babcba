-- What is due of a search, and of a check, of a flat model.
use Rattle.std.specs.Prelude.{◌≡◌, ◌⊎◌, ℕ, List, [], true, false, Option}
use Rattle.sm_flat.specs.Models.{FlatModel}
use Rattle.sm_data.specs.Documents.{Entry}
use Rattle.sm_syntax.specs.Trees.{Tree}
use Rattle.sm_step.specs.declared.verdict.Verdict.{Verdict}
use Rattle.sm_rules.specs.declared.cause.Cause.{Cause}
use Rattle.sm_check.specs.Replays.{FailsAt}
use Rattle.sm_check.specs.Checks.{OfFile}
use Rattle.sm_search.specs.declared.refusal.WorkRefusal.{WorkRefusal}
use Rattle.sm_search.specs.declared.refusal.WorkRefusal.TheVariants as work
use Rattle.sm_search.specs.Turns.{IsDecided}
use Rattle.sm_search.specs.Went.{begin, Stopped}
use Rattle.sm_search.specs.declared.running.Halt.{Halt}
use Rattle.sm_search.specs.declared.solved.Solved.{Solved}
use Rattle.sm_base.specs.Causes.{Rose}
use Rattle.sm_reports.specs.declared.error.ErrorLine.{ErrorLine}
use Rattle.sm_reports.specs.declared.error.ErrorLine.TheVariants as error
use Rattle.sm_reports.specs.Errors.{error_text}
use Rattle.sm_reports.specs.Briefs.{brief_text}
use Rattle.sm_reports.specs.Checks.{accepted_line, refused_line}
use Rattle.sm_run.specs.declared.ending.Ending.{Ending}
use Rattle.sm_run.specs.declared.ending.Ending.TheVariants as ending
use Rattle.sm_run.specs.Devices.{Device, Puts, Fails, Keeps}
use Rattle.sm_run.specs.Telling.{IsTold, TellsError}
use Rattle.sm_run.specs.Endings.{outcome_of, ProvesText, IsSolution, IsWorkLine, StopsAside, EndsAside, IsLogCause, EndsBy}

-- a search whose log goes to the output
abbrev pub DueOfLog : Tree → List Entry → FlatModel → Ending → List ℕ → Type 0
DueOfLog whole tables m (ending.Solved o) text = (v : Verdict) × IsDecided v × (o ≡ outcome_of v) × ProvesText whole tables m text v
DueOfLog whole tables m (ending.Refused line) text = (text ≡ error_text line) × (line ≡ error.Memory)
DueOfLog whole tables m _ text = ⊥

abbrev pub EndsLog : Tree → List Entry → FlatModel → Device → Ending → Type 0
EndsLog whole tables m out = EndsBy (DueOfLog whole tables m) (Stopped m (begin m) out.before out.now out.faults_before out.faults_now) out

-- a search whose log goes aside
abbrev pub DueOfBrief : Tree → List Entry → FlatModel → Device → Ending → List ℕ → Type 0
DueOfBrief whole tables m aside (ending.Solved o) text = (v : Verdict) × IsDecided v × (o ≡ outcome_of v) × IsSolution true aside whole tables m v text
DueOfBrief whole tables m aside (ending.Refused line) text = (text ≡ error_text line) × (StopsAside aside m line ⊎ EndsAside aside whole tables m line)
DueOfBrief whole tables m aside _ text = ⊥

-- a put failed aside, and nothing is told
abbrev pub BreaksAside : FlatModel → Device → Device → WorkRefusal → Type 0
BreaksAside m out aside r = (r ≡ work.WriteFault) × Stopped m (begin m) aside.before aside.now aside.faults_before aside.faults_now r × Puts out []

abbrev pub EndsBrief : Tree → List Entry → FlatModel → Device → Device → Ending → Type 0
EndsBrief whole tables m out aside = EndsBy (DueOfBrief whole tables m aside) (BreaksAside m out aside) out

-- a check of a log
abbrev pub DueOfLogCheck : Tree → List Entry → FlatModel → Option (List ℕ) → ℕ → ℕ → Ending → List ℕ → Type 0
DueOfLogCheck whole tables m held before now ending.Accepted text = (v : Verdict) × OfFile held (λ bytes. ProvesText whole tables m bytes v) × (text ≡ accepted_line v)
DueOfLogCheck whole tables m held before now ending.LogRefused text = (k : ℕ) × (c : Cause) × OfFile held (λ bytes. FailsAt m bytes k c) × (text ≡ refused_line k c)
DueOfLogCheck whole tables m held before now (ending.Refused line) text = (text ≡ error_text line) × (((line ≡ error.Read) × Rose before now) ⊎ ((line ≡ error.Memory) ⊎ IsLogCause held line))
DueOfLogCheck whole tables m held before now _ text = ⊥

abbrev pub EndsCheck : Tree → List Entry → FlatModel → Option (List ℕ) → ℕ → ℕ → Device → Ending → Type 0
EndsCheck whole tables m held before now out = EndsBy (DueOfLogCheck whole tables m held before now) (λ r. ⊥) out

-- ---- on the way

-- how a run ends whose search halted, where its log goes to the output: memory that ran out before anything was put is told
abbrev pub HaltsLog : Halt → Device → Ending → Type 0
HaltsLog h out ending.Untold = (h.begun ≡ false) × (h.refusal ≡ work.OutOfMemory) × Fails out (error_text error.Memory)
HaltsLog h out (ending.Stopped r) = (r ≡ h.refusal) × Keeps out
HaltsLog h out (ending.Refused line) = (h.begun ≡ false) × (h.refusal ≡ work.OutOfMemory) × (line ≡ error.Memory) × Puts out (error_text error.Memory)
HaltsLog h out _ = ⊥

-- how a run ends whose search stopped, where its log goes aside
abbrev pub HaltsAside : WorkRefusal → Device → Ending → Type 0
HaltsAside r out ending.Untold = (line : ErrorLine) × IsWorkLine r line × Fails out (error_text line)
HaltsAside r out (ending.Stopped q) = (r ≡ work.WriteFault) × (q ≡ r) × Keeps out
HaltsAside r out (ending.Refused line) = IsWorkLine r line × Puts out (error_text line)
HaltsAside r out _ = ⊥

-- the best solution is told with its verdict, or that memory ran out
abbrev pub TellsSolution : FlatModel → Solved → Device → Ending → Type 0
TellsSolution m s out end =
    IsTold out (brief_text m.vars s.best s.verdict) (ending.Solved (outcome_of s.verdict)) end ⊎ TellsError error.Memory out end

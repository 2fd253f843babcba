-- How a run ends: what was put, why, and which status it answers.
use Rattle.std.specs.Prelude.{◌≡◌, ◌⊎◌, ◌<◌, ◌^◌, ◌+◌, ℕ, pos, List, [], length, codes, Bool, true, false, Option, IfSome, MatchOption}
use Rattle.sm_flat.specs.Models.{FlatModel}
use Rattle.sm_data.specs.Documents.{Entry}
use Rattle.sm_data.specs.declared.refusal.Counted.TheVariants as counted
use Rattle.sm_syntax.specs.Trees.{Tree}
use Rattle.sm_step.specs.declared.verdict.Verdict.{Verdict}
use Rattle.sm_step.specs.declared.verdict.Verdict.TheVariants as verdict
use Rattle.sm_rules.specs.declared.cause.Cause.{Cause}
use Rattle.sm_check.specs.Replays.{FailsAt}
use Rattle.sm_check.specs.Checks.{Proves, OfFile}
use Rattle.sm_search.specs.declared.refusal.WorkRefusal.{WorkRefusal}
use Rattle.sm_search.specs.declared.refusal.WorkRefusal.TheVariants as work
use Rattle.sm_search.specs.Turns.{IsDecided}
use Rattle.sm_search.specs.Went.{begin, Stopped}
use Rattle.sm_arguments.specs.Request.{Asked, solve, check, asked_by}
use Rattle.sm_loading.specs.Loading.{Held}
use Rattle.sm_answers.specs.Answers.{IsTrueOfText}
use Rattle.sm_reports.specs.declared.error.ErrorLine.{ErrorLine}
use Rattle.sm_reports.specs.declared.error.ErrorLine.TheVariants as error
use Rattle.sm_reports.specs.Errors.{error_text}
use Rattle.sm_reports.specs.Briefs.{brief_text}
use Rattle.sm_reports.specs.Checks.{accepted_line, refused_line}
use Rattle.sm_run.specs.declared.ending.Ending.{Ending}
use Rattle.sm_run.specs.declared.ending.Ending.TheVariants as ending
use Rattle.sm_run.specs.declared.ending.Outcome.{Outcome}
use Rattle.sm_run.specs.declared.ending.Outcome.TheVariants as outcome
use Rattle.sm_run.specs.Devices.{Given, Device, Effects, Puts, Fails}
use Rattle.sm_run.specs.Causes.{OfModel, IsEarly, IsRefusal}

-- ---- statuses

abbrev pub outcome_of : Verdict → Outcome
outcome_of (verdict.Optimal values) = outcome.Found
outcome_of verdict.Satisfied = outcome.Found
outcome_of verdict.Infeasible = outcome.Infeasible
outcome_of (verdict.Limit nodes bound best) = outcome.Limit
outcome_of (verdict.Range bound best) = outcome.Range

abbrev pub outcome_status : Outcome → ℕ
outcome_status outcome.Found = 0
outcome_status outcome.Infeasible = 1
outcome_status outcome.Limit = 2
outcome_status outcome.Range = 3

abbrev pub error_status : ErrorLine → ℕ
error_status error.Usage = 5
error_status (error.Syntax line column) = 6
error_status (error.Model line column what) = 6
error_status (error.Data file cause) = 7
error_status (error.Limit what found bound) = 8
error_status error.Read = 10
error_status error.Memory = 12

abbrev pub work_status : WorkRefusal → ℕ
work_status work.LogTooLong = 8
work_status work.WriteFault = 11
work_status work.OutOfMemory = 12

abbrev pub status_of : Ending → ℕ
status_of (ending.Solved o) = outcome_status o
status_of ending.Accepted = 0
status_of ending.LogRefused = 4
status_of (ending.Refused line) = error_status line
status_of ending.Early = 13
status_of (ending.Stopped r) = work_status r
status_of ending.Untold = 11

-- ---- what is told

-- the log would have more than 2^40 bytes
abbrev pub log_limit : ErrorLine
log_limit = error.Limit counted.Log (pos (2 ^ 40 + 1)) (pos (2 ^ 40))

abbrev pub early_text : List ℕ
early_text = codes "error early\n"

-- the log proves the verdict of the flat model, and the verdict is true of the text
pub record ProvesText (whole : Tree) (tables : List Entry) (m : FlatModel) (log : List ℕ) (v : Verdict) : Type 0 where
  pub proves : Proves m log v
  pub holds : IsTrueOfText whole tables proves.ends.state.best v

-- The text is a log that proves the verdict, and nothing is put aside. With `--brief` it is the best solution of such a log with the
-- verdict, and the log is put aside.
abbrev pub IsSolution : Bool → Device → Tree → List Entry → FlatModel → Verdict → List ℕ → Type 0
IsSolution false aside whole tables m v text = ProvesText whole tables m text v × Puts aside []
IsSolution true aside whole tables m v text =
    (log : List ℕ) × (proved : ProvesText whole tables m log v) × Puts aside log × (text ≡ brief_text m.vars proved.proves.ends.state.best v)

-- why a search has no verdict, as it is told where its log lies aside
abbrev pub IsWorkLine : WorkRefusal → ErrorLine → Type 0
IsWorkLine work.LogTooLong line = (line ≡ log_limit) ⊎ (line ≡ error.Memory)
IsWorkLine work.OutOfMemory line = line ≡ error.Memory
IsWorkLine work.WriteFault line = ⊥

-- a search of the model stopped after some lines that were put aside, each allowed in its turn, and nothing or a front of one more; this is told of it
pub record StopsAside (aside : Device) (m : FlatModel) (line : ErrorLine) : Type 0 where
  pub refusal : WorkRefusal
  pub stopped : Stopped m (begin m) aside.before aside.now aside.faults_before aside.faults_now refusal
  pub told : IsWorkLine refusal line

-- the log of a search lies aside whole, and then memory ran out
pub record EndsAside (aside : Device) (whole : Tree) (tables : List Entry) (m : FlatModel) (line : ErrorLine) : Type 0 where
  pub verdict : Verdict
  pub log : List ℕ
  pub proved : ProvesText whole tables m log verdict
  pub put : Puts aside log
  pub told : line ≡ error.Memory

-- this is due in the end, and how the run ends with it
abbrev pub DueOfSolve : Held → List ℕ → List (List ℕ) → Bool → Effects → Ending → List ℕ → Type 0
DueOfSolve held model files brief e (ending.Solved o) text =
    OfModel held model files (λ whole tables m. (v : Verdict) × IsDecided v × (o ≡ outcome_of v) × IsSolution brief e.aside whole tables m v text)
DueOfSolve held model files brief e (ending.Refused line) text =
    (text ≡ error_text line)
    × ((IsRefusal held model files e.read_before e.read_now line × Puts e.aside [])
    ⊎ ((brief ≡ true) × OfModel held model files (λ whole tables m. StopsAside e.aside m line ⊎ EndsAside e.aside whole tables m line)))
DueOfSolve held model files brief e ending.Early text = (text ≡ early_text) × OfModel held model files (λ whole tables m. IsEarly m) × Puts e.aside []
DueOfSolve held model files brief e _ text = ⊥

-- why a log isn't checked to its end, as it is told
abbrev pub IsLogCause : Option (List ℕ) → ErrorLine → Type 0
IsLogCause held line = (line ≡ log_limit) × IfSome held (λ log. 2 ^ 40 < length log)

abbrev pub DueOfCheck : Held → List ℕ → List (List ℕ) → List ℕ → Effects → Ending → List ℕ → Type 0
DueOfCheck held model files log e ending.Accepted text =
    OfModel held model files (λ whole tables m. (v : Verdict) × OfFile (held log) (λ bytes. ProvesText whole tables m bytes v) × (text ≡ accepted_line v)) × Puts e.aside []
DueOfCheck held model files log e ending.LogRefused text =
    OfModel held model files (λ whole tables m. (k : ℕ) × (c : Cause) × OfFile (held log) (λ bytes. FailsAt m bytes k c) × (text ≡ refused_line k c)) × Puts e.aside []
DueOfCheck held model files log e (ending.Refused line) text =
    (text ≡ error_text line)
    × (IsRefusal held model files e.read_before e.read_now line ⊎ OfModel held model files (λ whole tables m. IsLogCause (held log) line))
    × Puts e.aside []
DueOfCheck held model files log e ending.Early text = (text ≡ early_text) × OfModel held model files (λ whole tables m. IsEarly m) × Puts e.aside []
DueOfCheck held model files log e _ text = ⊥

-- the words ask for nothing, or memory ran out
abbrev pub DueOfNothing : Effects → Ending → List ℕ → Type 0
DueOfNothing e (ending.Refused error.Usage) text = (text ≡ error_text error.Usage) × Puts e.aside []
DueOfNothing e (ending.Refused error.Memory) text = (text ≡ error_text error.Memory) × Puts e.aside []
DueOfNothing e _ text = ⊥

abbrev pub DueOf : Held → Asked → Effects → Ending → List ℕ → Type 0
DueOf held (solve model files brief) = DueOfSolve held model files brief
DueOf held (check model files log) = DueOfCheck held model files log

abbrev pub Due : Given → Effects → Ending → List ℕ → Type 0
Due given e end text = MatchOption (asked_by given.words) (DueOfNothing e end text) (λ asked. DueOf given.held asked e end text)

-- ---- how a run ends

-- A search stopped: some lines were put, each allowed in its turn, and nothing or a front of one more. Where its log lies aside, that is told
-- but for a put that failed.
abbrev pub StopsOfSolve : Held → List ℕ → List (List ℕ) → Bool → Effects → WorkRefusal → Type 0
StopsOfSolve held model files false e r =
    OfModel held model files (λ whole tables m. Stopped m (begin m) e.out.before e.out.now e.out.faults_before e.out.faults_now r) × Puts e.aside []
StopsOfSolve held model files true e r =
    (r ≡ work.WriteFault) × OfModel held model files (λ whole tables m. Stopped m (begin m) e.aside.before e.aside.now e.aside.faults_before e.aside.faults_now r) × Puts e.out []

abbrev pub StopsOf : Held → Asked → Effects → WorkRefusal → Type 0
StopsOf held (solve model files brief) e r = StopsOfSolve held model files brief e r
StopsOf held (check model files log) e r = ⊥

abbrev pub Stops : Given → Effects → WorkRefusal → Type 0
Stops given e r = MatchOption (asked_by given.words) ⊥ (λ asked. StopsOf given.held asked e r)

-- what was due was put, or a front of it and then a put failed; or a search stopped
abbrev pub EndsBy : (Ending → List ℕ → Type 0) → (WorkRefusal → Type 0) → Device → Ending → Type 0
EndsBy due stops out ending.Untold = (end : Ending) × (text : List ℕ) × due end text × Fails out text
EndsBy due stops out (ending.Stopped r) = stops r
EndsBy due stops out end = (text : List ℕ) × due end text × Puts out text

abbrev pub Ends : Given → Effects → Ending → Type 0
Ends given e = EndsBy (Due given e) (Stops given e) e.out

-- the status is that of an ending
pub record Says (given : Given) (e : Effects) (status : ℕ) : Type 0 where
  pub end : Ending
  pub answers : status ≡ status_of end
  pub ends : Ends given e end

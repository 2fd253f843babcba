-- What a call put: lines, each allowed in its turn.
use Rattle.std.specs.Prelude.{◌≡◌, ◌++◌, ◌+◌, ◌⊎◌, ◌^◌, ◌<◌, ℕ, ◌≤◌, List, [], length, take, All, Option}
use Rattle.std.specs.List.{flat_map}
use Rattle.std.specs.Io.KnownBytes.{Appends}
use Rattle.sm_base.specs.Causes.{Rose}
use Rattle.sm_flat.specs.Models.{FlatModel}
use Rattle.sm_step.specs.declared.line.Line.{Line}
use Rattle.sm_step.specs.Text.{text_of}
use Rattle.sm_step.specs.Grammar.{IsLine}
use Rattle.sm_rules.specs.States.{State}
use Rattle.sm_rules.specs.Laws.{Allowed}
use Rattle.sm_rules.specs.Transitions.{Replays, start}
use Rattle.sm_search.specs.declared.refusal.WorkRefusal.{WorkRefusal}
use Rattle.sm_search.specs.declared.refusal.WorkRefusal.TheVariants.{WriteFault, LogTooLong, OutOfMemory}

-- where a search stands: the state of its log, and how many bytes that has
pub record Place : Type 0 where
  pub state : State
  pub bytes : ℕ

-- a log has at most 2^40 bytes, and each node but the root has a line of at least one
pub record IsCounted (p : Place) : Type 0 where
  pub limit : p.bytes ≤ 2 ^ 40
  pub nodes : p.state.main.count ≤ p.bytes + 1

abbrev pub begin : FlatModel → Place
begin m = record { state = start m; bytes = 0 }

-- the text of a log
abbrev pub texts : List Line → List ℕ
texts lines = flat_map text_of lines

-- from one place to another by lines of the grammar whose text was put
pub record Went (m : FlatModel) (old new : Place) (before now : Option (List ℕ)) : Type 0 where
  pub put : List Line
  pub each : All IsLine put
  pub told : Appends before now (texts put)
  pub runs : Replays m old.state put new.state
  pub bytes : new.bytes ≡ old.bytes + length (texts put)

-- some front of the text of a line of the grammar that the state allows
pub record IsFrontOfNext (m : FlatModel) (s : State) (rest : List ℕ) : Type 0 where
  pub next : Line
  pub good : IsLine next
  pub allowed : Allowed m s next
  pub count : ℕ
  pub within : count ≤ length (text_of next)
  pub is : rest ≡ take count (text_of next)

-- a line is due that would bring the log above 2^40 bytes
pub record PassesLimit (m : FlatModel) (s : State) (bytes : ℕ) : Type 0 where
  pub next : Line
  pub allowed : Allowed m s next
  pub passes : 2 ^ 40 < bytes + length (text_of next)

-- why a call stopped, at a state and a number of bytes put so far: a put failed, the log would grow too long, or memory ran out
abbrev pub IsStopCause : FlatModel → State → ℕ → ℕ → ℕ → WorkRefusal → Type 0
IsStopCause m s bytes before now WriteFault = Rose before now
IsStopCause m s bytes before now LogTooLong = PassesLimit m s bytes
IsStopCause m s bytes before now OutOfMemory = Unit {0}

-- the call stopped: some lines were put, each allowed in its turn, and then nothing or some front of one more allowed line's text
pub record Stopped (m : FlatModel) (old : Place) (before now : Option (List ℕ)) (faults_before faults_now : ℕ) (refusal : WorkRefusal) : Type 0 where
  pub put : List Line
  pub each : All IsLine put
  pub reached : State
  pub runs : Replays m old.state put reached
  pub rest : List ℕ
  pub front : (rest ≡ []) ⊎ IsFrontOfNext m reached rest
  pub told : Appends before now (texts put ++ rest)
  pub cause : IsStopCause m reached (old.bytes + length (texts put)) faults_before faults_now refusal

-- Where a check stands in a log.
use Rattle.std.specs.Prelude.{◌≡◌, ◌++◌, ◌+◌, ◌-◌, ◌≤◌, ◌^◌, ℕ, List, [], length, map, take, drop, All, Option, IfSome}
use Rattle.sm_flat.specs.Models.{FlatModel}
use Rattle.sm_step.specs.declared.line.Line.{Line}
use Rattle.sm_step.specs.Text.{text_of}
use Rattle.sm_step.specs.Grammar.{IsLine}
use Rattle.sm_rules.specs.States.{State}
use Rattle.sm_rules.specs.Laws.{Allowed}
use Rattle.sm_rules.specs.Transitions.{start, after, Replays}
use Rattle.sm_rules.specs.Sound.{IsOf}
use Rattle.sm_check.specs.declared.refusal.CheckRefusal.{CheckRefusal}
use Rattle.sm_check.specs.declared.refusal.CheckRefusal.TheVariants.{Refused, OutOfMemory}
use Rattle.sm_check.specs.Replays.{cut, IsRefusedPiece}
use Rattle.sm_check.specs.Feeds.{Fed}

pub record Sight : Type 0 where
  pub state : State
  pub fed : Fed
  -- how many lines were read
  pub count : ℕ

-- before the first byte
abbrev pub first_sight : FlatModel → Sight
first_sight m = record { state = start m; fed = record { left = []; place = 0 }; count = 0 }

-- these bytes were read, the text of lines that are each allowed in its turn, and what was fetched lies behind them
pub record IsAt (m : FlatModel) (held : Option (List ℕ)) (r : Sight) : Type 0 where
  pub of : IsOf m r.state
  pub lines : List Line
  pub each : All IsLine lines
  pub runs : Replays m (start m) lines r.state
  pub bytes : List ℕ
  pub cuts : (rest : List ℕ) → cut (bytes ++ rest) ≡ map text_of lines ++ cut rest
  pub count : r.count ≡ length lines
  pub few : length lines ≤ length bytes
  pub size : length bytes + length r.fed.left ≡ r.fed.place
  pub limit : r.fed.place ≤ 2 ^ 40
  pub told : IfSome held (λ file. take r.fed.place file ≡ bytes ++ r.fed.left)

-- nothing is left, and the file is at its end
pub record IsAtEnd (held : Option (List ℕ)) (fed : Fed) : Type 0 where
  pub none : fed.left ≡ []
  pub ends : IfSome held (λ file. length file ≤ fed.place)

-- how many bytes a log may still have
abbrev pub unread : Fed → ℕ
unread f = (2 ^ 40 + length f.left) - f.place

-- the piece is an allowed line, and was taken
pub record IsApplied (m : FlatModel) (piece : List ℕ) (old new : Sight) : Type 0 where
  pub line : Line
  pub good : IsLine line
  pub text : piece ≡ text_of line
  pub allowed : Allowed m old.state line
  pub state : new.state ≡ after m old.state line
  pub fed : new.fed ≡ record { left = drop (length piece) old.fed.left; place = old.fed.place }
  pub count : new.count ≡ old.count + 1

-- why a piece isn't applied as line k
abbrev pub IsApplyCause : FlatModel → State → List ℕ → ℕ → CheckRefusal → Type 0
IsApplyCause m s piece k (Refused line cause) = (line ≡ k) × IsRefusedPiece m s piece cause
IsApplyCause m s piece k OutOfMemory = Unit {0}
IsApplyCause m s piece k _ = ⊥

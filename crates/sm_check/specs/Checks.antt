-- What a check answers of a log.
use Rattle.std.specs.Prelude.{◌≡◌, ◌<◌, ◌^◌, ℕ, Bool, List, length, Option, IfSome}
use Rattle.sm_base.specs.Causes.{Rose}
use Rattle.sm_flat.specs.Models.{FlatModel}
use Rattle.sm_step.specs.declared.verdict.Verdict.{Verdict}
use Rattle.sm_step.specs.declared.verdict.Verdict.TheVariants.{Optimal, Infeasible}
use Rattle.sm_step.specs.Verdicts.{IsTrueOf}
use Rattle.sm_rules.specs.Sound.{NamesWithin, IsTrueOn}
use Rattle.sm_check.specs.declared.refusal.CheckRefusal.{CheckRefusal}
use Rattle.sm_check.specs.declared.refusal.CheckRefusal.TheVariants.{Refused, ReadFault, LogTooLong, OutOfMemory}
use Rattle.sm_check.specs.Replays.{EndsIn, FailsAt}

-- the verdict says that nothing better exists
abbrev pub IsFinal : Verdict → Type 0
IsFinal (Optimal values) = Unit {0}
IsFinal Infeasible = Unit {0}
IsFinal _ = ⊥

-- the bytes are a log that ends in this verdict, and it is true of the model; of what constraints the lines name it holds by itself
pub record Proves (m : FlatModel) (log : List ℕ) (v : Verdict) : Type 0 where
  pub ends : EndsIn m log v
  pub holds : IsTrueOf m ends.state.best v
  pub named : (s : ℕ → Bool) → NamesWithin s ends.lines → IsFinal v → IsTrueOn m s ends.state.best

-- the bytes that were read: the file's, where the shelf tells them
pub record OfFile (held : Option (List ℕ)) (P : List ℕ → Type 0) : Type 0 where
  pub log : List ℕ
  pub told : IfSome held (λ file. file ≡ log)
  pub holds : P log

-- why a log isn't accepted
abbrev pub IsCheckCause : FlatModel → Option (List ℕ) → ℕ → ℕ → CheckRefusal → Type 0
IsCheckCause m held before now (Refused line cause) = OfFile held (λ log. FailsAt m log line cause)
IsCheckCause m held before now ReadFault = Rose before now
IsCheckCause m held before now LogTooLong = IfSome held (λ log. 2 ^ 40 < length log)
IsCheckCause m held before now OutOfMemory = Unit {0}

-- why no more of a log is read
abbrev pub IsFeedCause : Option (List ℕ) → ℕ → ℕ → CheckRefusal → Type 0
IsFeedCause held before now (Refused line cause) = ⊥
IsFeedCause held before now ReadFault = Rose before now
IsFeedCause held before now LogTooLong = IfSome held (λ log. 2 ^ 40 < length log)
IsFeedCause held before now OutOfMemory = Unit {0}

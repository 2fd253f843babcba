-- What the parts of a turn come to.
use Rattle.std.specs.Prelude.{◌≡◌, ℕ, ◌<◌, ◌≤◌, List, Some, Option, Result, OnOk, IfErr}
use Rattle.sm_flat.specs.Models.{FlatModel}
use Rattle.sm_flat.specs.Limits.{IsFlat}
use Rattle.sm_step.specs.declared.verdict.Verdict.{Verdict}
use Rattle.sm_step.specs.declared.verdict.Verdict.TheVariants.{Optimal, Satisfied, Infeasible}
use Rattle.sm_step.specs.Verdicts.{IsTrueOf}
use Rattle.sm_rules.specs.States.{State}
use Rattle.sm_rules.specs.Trees.{focus_of}
use Rattle.sm_rules.specs.Laws.{BeatsBest}
use Rattle.sm_search.specs.declared.solved.Solved.{Solved}
use Rattle.sm_search.specs.declared.turn.Turn.{Turn}
use Rattle.sm_search.specs.declared.turn.Turn.TheVariants as turn
use Rattle.sm_search.specs.declared.refusal.WorkRefusal.{WorkRefusal}
use Rattle.sm_search.specs.Fits.{IsFit, IsRunning, IsAtOpen}
use Rattle.sm_search.specs.Weights.{weight}
use Rattle.sm_search.specs.Went.{Place, begin, Went, Stopped}

-- what a call that is lent the sink came to: it went on to the new place, or it stopped on the way; the search stays fit, and no
-- fault is forgotten
pub record Moves {R : Type 0} (m : FlatModel) (result : Result R WorkRefusal) (old new : Place) (before now : Option (List ℕ)) (faults_before faults_now : ℕ) : Type 0 where
  pub fit : IsFit m new.state
  pub went : OnOk result (Went m old new before now)
  pub stopped : IfErr result (Stopped m old before now faults_before faults_now)
  pub later : faults_before ≤ faults_now

-- the verdict says how the model is answered, and not why the search gave up
abbrev pub IsDecided : Verdict → Type 0
IsDecided (Optimal values) = Unit {0}
IsDecided Satisfied = Unit {0}
IsDecided Infeasible = Unit {0}
IsDecided _ = ⊥

-- the log ends in such a verdict
pub record HasEnded (s : State) : Type 0 where
  pub verdict : Verdict
  pub stands : s.verdict ≡ Some verdict
  pub decided : IsDecided verdict

-- the search goes on with less to do
pub record GoesOn (old new : State) : Type 0 where
  pub going : IsRunning new
  pub falls : weight new < weight old

abbrev pub HasTurned : State → State → Turn → Type 0
HasTurned old new turn.Again = GoesOn old new
HasTurned old new turn.Ended = HasEnded new

-- the search is where it was, and the focus's floors end it
pub record IsReached (m : FlatModel) (old new : State) : Type 0 where
  pub at : IsAtOpen new
  pub same : new.main ≡ old.main
  pub beats : BeatsBest m (focus_of new.main).floors new.best

-- some lines of the grammar were put, each allowed in its turn, that end in this verdict, which is true of the model and of the
-- last solution that they give
pub record HasSolved (m : FlatModel) (before now : Option (List ℕ)) (solved : Solved) : Type 0 where
  pub flat : IsFlat m
  pub place : Place
  pub went : Went m (begin m) place before now
  pub stands : place.state.verdict ≡ Some solved.verdict
  pub best : place.state.best ≡ solved.best
  pub decided : IsDecided solved.verdict
  pub holds : IsTrueOf m solved.best solved.verdict

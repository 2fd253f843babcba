-- What allowed lines come to: what is sound, and which verdict is true.
use Rattle.std.proofs.Common.{◌≡◌, ℕ, Bool, true, List, [], ◌∷◌, Option, Some, None, refl, subst}
use Rattle.std.specs.Prelude.{All}
use Rattle.std.proofs.lemmas.List.Elements.{All-head, All-tail, All-cons, All-nil}
use Rattle.sm_flat.specs.Models.{FlatModel}
use Rattle.sm_step.specs.declared.line.Line.{Line}
use Rattle.sm_step.specs.declared.line.Line.TheVariants as line
use Rattle.sm_step.specs.declared.verdict.Verdict.{Verdict}
use Rattle.sm_step.specs.declared.verdict.Verdict.TheVariants as verdict
use Rattle.sm_step.specs.Verdicts.{IsTrueOf}
use Rattle.sm_rules.specs.States.{State}
use Rattle.sm_rules.specs.Trees.{IsRefuted}
use Rattle.sm_rules.specs.Laws.{Allowed, LawfulVerdict}
use Rattle.sm_rules.specs.Transitions.{after, start, Replays}
use Rattle.sm_rules.specs.Sound.{IsOf, Sound, NamesWithin, IsTrueOn, named}
use Rattle.sm_rules.proofs.Kept.{of_after}
use Rattle.sm_rules.proofs.Keeping.{sound_after, sound_start, verdict_is_true, refuted_means}
use Rattle.sm_check.specs.Checks.{IsFinal}

-- what holds of a state all along: it is sound on the test's constraints, and a verdict is true
record Tells (m : FlatModel) (s : ℕ → Bool) (v : Verdict) (state : State) : Type 0 where
  of : IsOf m state
  sound : Sound m s state
  holds : state.verdict ≡ Some v → IsTrueOf m state.best v
  final : state.verdict ≡ Some v → IsFinal v → IsRefuted state.main

none_some : (v : Verdict) (o : Option Verdict) → o ≡ None → o ≡ Some v → ⊥
none_some v o e f = cc

lawful_final : (m : FlatModel) (state : State) (v : Verdict) → LawfulVerdict m state v → IsFinal v → IsRefuted state.main
lawful_final m state (verdict.Optimal values) law final = law.2
lawful_final m state verdict.Satisfied law final = absurd final
lawful_final m state verdict.Infeasible law final = law.1
lawful_final m state (verdict.Limit nodes bound best) law final = absurd law
lawful_final m state (verdict.Range bound best) law final = absurd law

holds_after : (m : FlatModel) (s : ℕ → Bool) (v : Verdict) (state : State) (l : Line) → Allowed m state l → Sound m s state → (after m state l).verdict ≡ Some v → IsTrueOf m (after m state l).best v × (IsFinal v → IsRefuted (after m state l).main)
holds_after m s v state (line.Verdict w) ok sound e =
    let same : w ≡ v = cc in
    let P : Verdict → Type 0 = λ x. IsTrueOf m state.best x × (IsFinal x → IsRefuted state.main) in
    subst P same (verdict_is_true m s state w sound ok.law, lawful_final m state w ok.law)
holds_after m s v state (line.Header version) ok sound e = absurd (none_some v state.verdict ok.due.running e)
holds_after m s v state (line.Node id parent literal) ok sound e = absurd (none_some v state.verdict ok.due.running e)
holds_after m s v state line.CloseFloor ok sound e = absurd (none_some v state.verdict ok.due.running e)
holds_after m s v state (line.Violated k) ok sound e = absurd (none_some v state.verdict ok.due.running e)
holds_after m s v state (line.Sol denominator values) ok sound e = absurd (none_some v state.verdict ok.due.running e)
holds_after m s v state _ ok sound e = absurd (none_some v state.verdict ok.due.running e)

tells_after : (m : FlatModel) (s : ℕ → Bool) (v : Verdict) (state : State) (l : Line) → Allowed m state l → All (λ k. s k ≡ true) (named l) → Tells m s v state → Tells m s v (after m state l)
tells_after m s v state l ok within tells = record {
  of = of_after m state l tells.of ok;
  sound = sound_after m s state l tells.of ok within tells.sound;
  holds = λ e. (holds_after m s v state l ok tells.sound e).0;
  final = λ e. (holds_after m s v state l ok tells.sound e).1;
}

tells_along : (m : FlatModel) (s : ℕ → Bool) (v : Verdict) (lines : List Line) (old new : State) → NamesWithin s lines → Replays m old lines new → Tells m s v old → Tells m s v new
tells_along m s v [] old new within runs tells = rw runs tells
tells_along m s v (l ∷ ls) old new within runs tells =
    tells_along m s v ls (after m old l) new (All-tail (λ l. All (λ k. s k ≡ true) (named l)) l ls within) runs.1
    (tells_after m s v old l runs.0 (All-head (λ l. All (λ k. s k ≡ true) (named l)) l ls within) tells)

tells_start : (m : FlatModel) (s : ℕ → Bool) (v : Verdict) → IsOf m (start m) → Tells m s v (start m)
tells_start m s v of = record {
  of = of;
  sound = sound_start m s of.flat;
  holds = λ e. absurd (none_some v None refl e);
  final = λ e. absurd (none_some v None refl e);
}

every : {X : Type 0} (P : X → Type 0) → ((x : X) → P x) → (xs : List X) → All P xs
every P f [] = All-nil P
every P f (x ∷ xs) = All-cons P x xs (f x) (every P f xs)

all_named : (lines : List Line) → NamesWithin (λ _. true) lines
all_named lines = every (λ l. All (λ (k : ℕ). true ≡ true) (named l)) (λ l. every (λ (k : ℕ). true ≡ true) (λ k. refl) (named l)) lines

-- the verdict of allowed lines is true of the model
pub log_is_true : (m : FlatModel) (lines : List Line) (state : State) (v : Verdict) → IsOf m (start m) → Replays m (start m) lines state → state.verdict ≡ Some v → IsTrueOf m state.best v
log_is_true m lines state v of runs e = (tells_along m (λ _. true) v lines (start m) state (all_named lines) runs (tells_start m (λ _. true) v of)).holds e

-- on the constraints that the lines name, nothing is better than the best
pub log_is_true_on : (m : FlatModel) (s : ℕ → Bool) (lines : List Line) (state : State) (v : Verdict) → IsOf m (start m) → NamesWithin s lines → Replays m (start m) lines state → state.verdict ≡ Some v → IsFinal v → IsTrueOn m s state.best
log_is_true_on m s lines state v of within runs e final =
    let tells : Tells m s v state = tells_along m s v lines (start m) state within runs (tells_start m s v of) in
    refuted_means m s state tells.sound (tells.final e final)

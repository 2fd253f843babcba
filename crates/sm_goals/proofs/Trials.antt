-- What is tried of the aims of a goal.
use Rattle.std.proofs.Common.{◌≡◌, ◌∙◌, ap, ap₂, refl, ℕ, ℤ, List, [], ◌∷◌, map, length}
use Rattle.std.proofs.lemmas.List.{length-map}
use Rattle.std.specs.Prelude.{Result, Ok, Err}
use Rattle.sm_kinds.specs.Limits.{greatest_number, most_goals}
use Rattle.sm_data.specs.declared.refusal.Counted.TheVariants as counted
use Rattle.sm_syntax.specs.Trees.{Aim}
use Rattle.sm_forms.specs.Meanings.{constant_of}
use Rattle.sm_meaning.specs.declared.refusal.ExpandRefusal.{ExpandRefusal}
use Rattle.sm_meaning.specs.Scopes.{Scope, count_of}
use Rattle.sm_meaning.specs.Trials.{Trial, reached, resumed, ◌▸◌, each_tried, IsStopped}
use Rattle.sm_meaning.specs.Limits.{coefficients_tried, numbers_tried, count_tried}
use Rattle.sm_meaning.specs.Goals.{aim_worth, aims_tried}
use Rattle.sm_meaning.proofs.Steps.{goes_on, stops_later}
use Rattle.sm_drafts.specs.Drafts.{Passes}
use Rattle.sm_drafts.proofs.Parts.{passes_same, resumed_same}
use Rattle.sm_goals.specs.Goals.{limits_tried}

map_twice : {X Y Z : Type 0} (f : Y → Z) (h : X → Y) (xs : List X) → map f (map h xs) ≡ map (λ x. f (h x)) xs
map_twice f h [] = refl
map_twice f h (x ∷ xs) = ap (λ zs. f (h x) ∷ zs) (map_twice f h xs)

each_map : {X Y : Type 0} (f : Y → Trial) (h : X → Y) (xs : List X) (count : ℕ) → each_tried f (map h xs) count ≡ each_tried (λ x. f (h x)) xs count
each_map f h [] count = refl
each_map f h (x ∷ xs) count = resumed_same (f (h x) count) (each_tried f (map h xs)) (each_tried (λ y. f (h y)) xs) (each_map f h xs)

module _ (s : Scope) (xs : List Aim) where
  -- the limits of aims
  abbrev aim_limits_tried : Trial
  aim_limits_tried =
      each_tried (λ x. coefficients_tried (count_of s) (aim_worth s x)) xs
      ▸ numbers_tried counted.Bound greatest_number (map (λ x. constant_of (aim_worth s x)) xs)
      ▸ count_tried counted.Objectives most_goals (length xs)

  limits_same : (count : ℕ) → limits_tried (count_of s) (map (aim_worth s) xs) count ≡ aim_limits_tried count
  limits_same count =
      ap (λ o. resumed o (numbers_tried counted.Bound greatest_number (map constant_of (map (aim_worth s) xs)) ▸ count_tried counted.Objectives most_goals (length (map (aim_worth s) xs))))
      (each_map (coefficients_tried (count_of s)) (aim_worth s) xs count)
      ∙ ap₂ (λ (zs : List ℤ) (k : ℕ). (each_tried (λ x. coefficients_tried (count_of s) (aim_worth s x)) xs ▸ numbers_tried counted.Bound greatest_number zs ▸ count_tried counted.Objectives most_goals k) count)
      (map_twice constant_of (aim_worth s) xs) (length-map xs (aim_worth s))

  limits_pass : (r : Result (Unit {0}) ExpandRefusal) → Passes (limits_tried (count_of s) (map (aim_worth s) xs)) r → Passes aim_limits_tried r
  limits_pass r h = passes_same (limits_tried (count_of s) (map (aim_worth s) xs)) aim_limits_tried r limits_same h

  pub aims_stop : (e : ExpandRefusal) (start now : ℕ) → aims_tried s xs start ≡ reached now → Passes (limits_tried (count_of s) (map (aim_worth s) xs)) (Err e)
      → IsStopped e ((aims_tried s xs ▸ aim_limits_tried) start)
  aims_stop e start now goes h = stops_later e (aims_tried s xs) aim_limits_tried start now goes (limits_pass (Err e) h now)

  pub aims_go : (u : Unit {0}) (start now : ℕ) → aims_tried s xs start ≡ reached now → Passes (limits_tried (count_of s) (map (aim_worth s) xs)) (Ok u)
      → (aims_tried s xs ▸ aim_limits_tried) start ≡ reached now
  aims_go u start now goes h = goes_on (aims_tried s xs) aim_limits_tried start now goes ∙ (limits_pass (Ok u) h now).0

-- Goals with the numbers of what the aims of a text are worth, and the forms on the way.
use Rattle.std.specs.Prelude.{◌≡◌, ℕ, List, [], ◌∷◌, map, length, ℤ, All, Bool, true, false}
use Rattle.std.specs.List.{list_any}
use Rattle.sm_kinds.specs.Vars.{is_real_kind}
use Rattle.sm_kinds.specs.Limits.{greatest_number, most_goals}
use Rattle.sm_flat.specs.declared.goal.Goal.{Goal as FlatGoal}
use Rattle.sm_data.specs.declared.refusal.Counted.TheVariants as counted
use Rattle.sm_syntax.specs.declared.place.Place.{Place}
use Rattle.sm_syntax.specs.Expressions.{Expression}
use Rattle.sm_syntax.specs.Trees.{Aim, Goal}
use Rattle.sm_forms.specs.Meanings.{Meaning, constant_of}
use Rattle.sm_forms.specs.Forms.{IsFormOf}
use Rattle.sm_meaning.specs.declared.refusal.Wrong.TheVariants.{Kind}
use Rattle.sm_meaning.specs.Refusals.{wrong_if}
use Rattle.sm_meaning.specs.Trials.{Trial, ◌▸◌, tried, each_tried}
use Rattle.sm_meaning.specs.Scopes.{Scope, count_of}
use Rattle.sm_meaning.specs.Cases.{kind_at}
use Rattle.sm_meaning.specs.Worths.{worth}
use Rattle.sm_meaning.specs.Places.{place_of}
use Rattle.sm_meaning.specs.ExpressionTrials.{expression_tried}
use Rattle.sm_meaning.specs.Limits.{has_real, coefficients_tried, numbers_tried, count_tried}
use Rattle.sm_meaning.specs.Goals.{aim_part, aim_sense, aim_worth, goal_worths, senses_of}
use Rattle.sm_flattening.specs.Flattening.{goal_numbers, meaning_numbers}
use Rattle.sm_flattening.specs.Regularity.{IsAffine}
use Rattle.sm_goals.specs.declared.aim.AimForm.{AimForm}

-- the goals have the numbers of what they are worth, which is affine, and the senses of the text
pub record AreGoalsOf (s : Scope) (g : Goal) (goals : List FlatGoal) : Type 0 where
  pub numbers : map goal_numbers goals ≡ map (meaning_numbers (count_of s)) (goal_worths s g)
  pub senses : map (λ (x : FlatGoal). x.sense) goals ≡ senses_of g
  pub affine : All (IsAffine (count_of s)) (goal_worths s g)

-- ---- forms of aims

-- the goal with the form's numbers
abbrev pub goal_in : AimForm → FlatGoal
goal_in x = record { sense = x.sense; terms = x.form.terms; constant = x.form.constant }

-- each form is that of its meaning
abbrev pub AreFormsOf : ℕ → List Meaning → List AimForm → Type 0
AreFormsOf n [] [] = Unit {0}
AreFormsOf n [] (x ∷ xs) = ⊥
AreFormsOf n (g ∷ gs) [] = ⊥
AreFormsOf n (g ∷ gs) (x ∷ xs) = IsFormOf n g x.form × AreFormsOf n gs xs

pub record IsAimForm (s : Scope) (a : Aim) (x : AimForm) : Type 0 where
  pub form : IsFormOf (count_of s) (aim_worth s a) x.form
  pub sense : x.sense ≡ aim_sense a

pub record AreAimForms (s : Scope) (ys : List Aim) (xs : List AimForm) : Type 0 where
  pub forms : AreFormsOf (count_of s) (map (aim_worth s) ys) xs
  pub senses : map (λ (x : AimForm). x.sense) xs ≡ map aim_sense ys

-- ---- what is tried

-- some term is of a real variable
abbrev pub has_real_term : Scope → List (ℕ × ℤ) → Bool
has_real_term s terms = list_any (λ (t : ℕ × ℤ). is_real_kind (kind_at s t.0)) terms

-- no real variable matters to an expression at this place
abbrev pub no_real_tried : Scope → Place → Meaning → Trial
no_real_tried s p g = tried (wrong_if (has_real s (count_of s) g) p Kind)

-- the part of an aim, the last or another
abbrev pub part_tried : Scope → Expression → Bool → Trial
part_tried s x true = expression_tried x s []
part_tried s x false = expression_tried x s [] ▸ no_real_tried s (place_of x) (worth x s.names [])

abbrev pub aim_tried : Scope → Aim → Bool → Trial
aim_tried s a is_last = part_tried s (aim_part a) is_last

-- coefficients, constants, and how many there are
abbrev pub limits_tried : ℕ → List Meaning → Trial
limits_tried n gs =
    each_tried (coefficients_tried n) gs
    ▸ numbers_tried counted.Bound greatest_number (map constant_of gs)
    ▸ count_tried counted.Objectives most_goals (length gs)

-- Goals: their meanings and senses, and what is tried of them.
use Rattle.std.specs.Prelude.{List, [], ◌∷◌, map, length, pos}
use Rattle.sm_kinds.specs.Limits.{greatest_number, most_goals}
use Rattle.sm_flat.specs.declared.goal.Sense.{Sense}
use Rattle.sm_flat.specs.declared.goal.Sense.TheVariants as sense
use Rattle.sm_data.specs.declared.refusal.Counted.TheVariants as counted
use Rattle.sm_syntax.specs.Expressions.{Expression}
use Rattle.sm_syntax.specs.Trees.{Aim, minimise, maximise, Goal, satisfy, aims}
use Rattle.sm_forms.specs.Meanings.{Meaning, constant_of}
use Rattle.sm_meaning.specs.declared.refusal.Wrong.TheVariants.{Kind}
use Rattle.sm_meaning.specs.Refusals.{wrong_if}
use Rattle.sm_meaning.specs.Trials.{Trial, ◌▸◌, nothing_tried, tried, each_tried}
use Rattle.sm_meaning.specs.Scopes.{Scope, count_of}
use Rattle.sm_meaning.specs.Worths.{worth, whole}
use Rattle.sm_meaning.specs.Places.{place_of}
use Rattle.sm_meaning.specs.ExpressionTrials.{expression_tried}
use Rattle.sm_meaning.specs.Limits.{coefficients_tried, numbers_tried, count_tried, has_real}

abbrev pub aim_part : Aim → Expression
aim_part (minimise p x) = x
aim_part (maximise p x) = x

abbrev pub aim_sense : Aim → Sense
aim_sense (minimise p x) = sense.Minimise
aim_sense (maximise p x) = sense.Maximise

abbrev pub aim_worth : Scope → Aim → Meaning
aim_worth s x = worth (aim_part x) s.names []

abbrev pub aims_of : Goal → List Aim
aims_of (satisfy p) = []
aims_of (aims p x xs) = x ∷ xs

-- what the goals are worth, in the order of the text; where any solution will do, that is 0
abbrev pub goal_worths : Scope → Goal → List Meaning
goal_worths s (satisfy p) = whole (pos 0) ∷ []
goal_worths s (aims p x xs) = map (aim_worth s) (x ∷ xs)

abbrev pub senses_of : Goal → List Sense
senses_of (satisfy p) = sense.Satisfy ∷ []
senses_of (aims p x xs) = map aim_sense (x ∷ xs)

-- a real variable stands in the last aim alone
abbrev pub aims_tried : Scope → List Aim → Trial
aims_tried s [] = nothing_tried
aims_tried s (x ∷ []) = expression_tried (aim_part x) s []
aims_tried s (x ∷ y ∷ ys) =
    expression_tried (aim_part x) s []
    ▸ tried (wrong_if (has_real s (count_of s) (aim_worth s x)) (place_of (aim_part x)) Kind)
    ▸ aims_tried s (y ∷ ys)

-- each aim, then the limits: coefficients, constants, and how many aims there are
abbrev pub goal_tried : Scope → Goal → Trial
goal_tried s g =
    aims_tried s (aims_of g)
    ▸ each_tried (λ x. coefficients_tried (count_of s) (aim_worth s x)) (aims_of g)
    ▸ numbers_tried counted.Bound greatest_number (map (λ x. constant_of (aim_worth s x)) (aims_of g))
    ▸ count_tried counted.Objectives most_goals (length (aims_of g))

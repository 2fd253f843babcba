-- Parts of a text that stand once, or once for each tuple that passes; and the roles in which an expression stands.
use Rattle.std.specs.Prelude.{ℕ, List, [], ◌∷◌, map, ℤ, pos, int_lt, Bool, true, false, not, is_none, Option, Some, None, slice_index_or, if◌then◌else◌}
use Rattle.std.specs.List.{flat_map}
use Rattle.sm_kinds.specs.declared.var.VarKind.{VarKind}
use Rattle.sm_kinds.specs.declared.var.VarKind.TheVariants.{Set, Int, Real}
use Rattle.sm_kinds.specs.declared.element.Entry.{Entry}
use Rattle.sm_kinds.specs.declared.element.Entry.TheVariants as entry
use Rattle.sm_kinds.specs.Vars.{is_real_kind}
use Rattle.sm_syntax.specs.declared.place.Place.{Place}
use Rattle.sm_syntax.specs.Expressions.{Expression, Binding, binding, Comparisons}
use Rattle.sm_syntax.specs.Trees.{Listing, listing}
use Rattle.sm_forms.specs.Meanings.{nowhere, is_constant, variable_of}
use Rattle.sm_meaning.specs.declared.refusal.Wrong.TheVariants as wrong
use Rattle.sm_meaning.specs.Refusals.{wrong_if}
use Rattle.sm_meaning.specs.Trials.{Trial, ◌▸◌, nothing_tried, tried, visit, each_tried}
use Rattle.sm_meaning.specs.Scopes.{Tuple, Scope, Names, count_of}
use Rattle.sm_meaning.specs.Tuples.{span_of, tuples}
use Rattle.sm_meaning.specs.Worths.{worth, cases, all_pass}
use Rattle.sm_meaning.specs.Places.{place_of}
use Rattle.sm_meaning.specs.ExpressionTrials.{expression_tried, tests_tried, binds_tried, whole_tried}

-- ---- tuples

-- once, or for each tuple that passes
abbrev pub over_cases : Option Binding → Names → Tuple → List Tuple
over_cases None names b = b ∷ []
over_cases (Some bs) names b = cases bs names b

abbrev pub case_tried : Comparisons → Scope → (Tuple → Trial) → Tuple → Trial
case_tried tests s part c = visit ▸ tests_tried tests s c ▸ (if all_pass tests s.names c then part c else nothing_tried)

-- binders first, then the tuples in their order
abbrev pub cases_tried : Binding → Scope → Tuple → (Tuple → Trial) → Trial
cases_tried (binding p x xs tests) s b part = binds_tried (x ∷ xs) s b ▸ each_tried (case_tried tests s part) (tuples (map (span_of s.names) (x ∷ xs)) b)

abbrev pub over_cases_tried : Option Binding → Scope → Tuple → (Tuple → Trial) → Trial
over_cases_tried None s b part = part b
over_cases_tried (Some bs) s b part = cases_tried bs s b part

-- what the expressions of a list are, for each tuple in its turn
abbrev pub listed : {X : Type 0} → (Expression → Tuple → X) → Listing → Names → Tuple → List X
listed f (listing p x xs bs) names b = flat_map (λ c. map (λ e. f e c) (x ∷ xs)) (over_cases bs names b)

abbrev pub listed_tried : (Expression → Tuple → Trial) → Listing → Scope → Tuple → Trial
listed_tried f (listing p x xs bs) s b = over_cases_tried bs s b (λ c. each_tried (λ e. f e c) (x ∷ xs))

-- the place of the first expression of a list
abbrev pub list_place : Listing → Place
list_place (listing p x xs bs) = place_of x

-- ---- whole numbers

abbrev pub number_of : Scope → Expression → Tuple → ℤ
number_of s x b = worth x s.names b nowhere

abbrev pub number_tried : Scope → Expression → Tuple → Trial
number_tried s x b = expression_tried x s b ▸ whole_tried s (place_of x) (worth x s.names b)

-- a whole number that isn't below 0
abbrev pub amount_tried : Scope → Expression → Tuple → Trial
amount_tried s x b = number_tried s x b ▸ tried (wrong_if (int_lt (number_of s x b) (pos 0)) (place_of x) wrong.Value)

-- ---- single variables

abbrev pub or_zero : Option ℕ → ℕ
or_zero (Some v) = v
or_zero None = 0

-- the variable that the expression is
abbrev pub variable_at : Scope → Expression → Tuple → ℕ
variable_at s x b = or_zero (variable_of (count_of s) (worth x s.names b))

abbrev pub kind_at : Scope → ℕ → VarKind
kind_at s v = slice_index_or s.kinds v Set

abbrev pub is_set_kind : VarKind → Bool
is_set_kind Set = true
is_set_kind Int = false
is_set_kind Real = false

abbrev pub single_tried : Scope → Expression → Tuple → Trial
single_tried s x b = expression_tried x s b ▸ tried (wrong_if (is_none (variable_of (count_of s) (worth x s.names b))) (place_of x) wrong.Variable)

-- a variable with whole values
abbrev pub discrete_tried : Scope → Expression → Tuple → Trial
discrete_tried s x b = single_tried s x b ▸ tried (wrong_if (is_real_kind (kind_at s (variable_at s x b))) (place_of x) wrong.Kind)

-- a variable with a set of values
abbrev pub set_variable_tried : Scope → Expression → Tuple → Trial
set_variable_tried s x b = single_tried s x b ▸ tried (wrong_if (not (is_set_kind (kind_at s (variable_at s x b)))) (place_of x) wrong.Kind)

-- ---- entries: whole numbers or variables with whole values

abbrev pub entry_from : Bool → ℤ → ℕ → Entry
entry_from is_number z v = if is_number then entry.Number z else entry.Variable v

abbrev pub entry_of : Scope → Expression → Tuple → Entry
entry_of s x b = entry_from (is_constant (count_of s) (worth x s.names b)) (number_of s x b) (variable_at s x b)

abbrev pub entry_tried : Scope → Expression → Tuple → Trial
entry_tried s x b = if is_constant (count_of s) (worth x s.names b) then expression_tried x s b else discrete_tried s x b

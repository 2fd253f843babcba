-- What a constraint of a text demands at one tuple, and when that holds.
use Rattle.std.specs.Prelude.{◌≡◌, ℕ, List, ◌∷◌, map, ℤ, pos, ◌-ℤ◌, true, option_map}
use Rattle.std.specs.List.{flat_map}
use Rattle.sm_kinds.specs.declared.linear.Cmp.{Cmp as Compare}
use Rattle.sm_kinds.specs.declared.linear.Cmp.TheVariants as compare
use Rattle.sm_kinds.specs.declared.literal.Literal.{Literal as Condition}
use Rattle.sm_kinds.specs.declared.choice.Choice.{Choice as Chosen}
use Rattle.sm_kinds.specs.declared.tasks.Task.{Task}
use Rattle.sm_kinds.specs.declared.packing.Item.{Item}
use Rattle.sm_kinds.specs.Linear.{Compares}
use Rattle.sm_kinds.specs.When.{all_true}
use Rattle.sm_kinds.specs.Points.{Point}
use Rattle.sm_flat.specs.declared.form.Form.{Form}
use Rattle.sm_flat.specs.declared.form.Form.TheVariants as form
use Rattle.sm_flat.specs.Forms.{Sat}
use Rattle.sm_syntax.specs.declared.tree.Cmp.{Cmp}
use Rattle.sm_syntax.specs.declared.tree.Cmp.TheVariants as cmp
use Rattle.sm_syntax.specs.declared.tree.Choosing.{Choosing}
use Rattle.sm_syntax.specs.declared.tree.Choosing.TheVariants as choosing
use Rattle.sm_syntax.specs.Expressions.{Expression}
use Rattle.sm_syntax.specs.Trees.{Choice, choice, Ctask, ctask, Dtask, dtask, Load, load, Constraint, linear, logic, conditional, alldiff, circuit, element, chosen, cumulative, disjunctive, packing}
use Rattle.sm_clausify.specs.Propositions.{Proposition}
use Rattle.sm_clausify.specs.Truth.{holds}
use Rattle.sm_forms.specs.Meanings.{Values, Meaning}
use Rattle.sm_meaning.specs.Scopes.{Tuple, Scope}
use Rattle.sm_meaning.specs.Worths.{worth}
use Rattle.sm_meaning.specs.Cases.{over_cases, listed, number_of, variable_at, entry_of}
use Rattle.sm_meaning.specs.Formulas.{condition_of, proposition_of}

-- A row compares a meaning with 0. A kind whose parts are single variables and whole numbers is that kind over these.
pub data Demand : Type 0 where
  row : Compare → Meaning → Demand
  formula : Proposition → Demand
  row_when : List Condition → Compare → Meaning → Demand
  kind : Form → Demand

-- the point of the values
abbrev pub point_of : Values → Point
point_of a = record { denominator = a.denominator; numerator = a.numerator }

abbrev pub Holds : Demand → Values → Type 0
Holds (row c g) a = Compares c (g a) (pos 0)
Holds (formula q) a = holds q (point_of a) ≡ true
Holds (row_when ls c g) a = all_true (point_of a) ls ≡ true → Compares c (g a) (pos 0)
Holds (kind f) a = Sat f (point_of a)

-- ---- rows

abbrev pub compare_of : Cmp → Compare
compare_of (cmp.AtMost p) = compare.AtMost
compare_of (cmp.AtLeast p) = compare.AtLeast
compare_of (cmp.Equal p) = compare.Equal

-- how far the left side is above the right
abbrev pub margin : Scope → Expression → Expression → Tuple → Meaning
margin s x y b a = worth x s.names b a -ℤ worth y s.names b a

-- ---- parts

abbrev pub picks_of : Scope → Tuple → Choice → List (ℕ × List ℤ)
picks_of s b (choice p x table bs) = map (λ c. (variable_at s x c, listed (number_of s) table s.names c)) (over_cases bs s.names b)

abbrev pub chosen_of : Scope → Expression → List Choice → Tuple → Chosen
chosen_of s x cs b = record { z = variable_at s x b; picks = flat_map (picks_of s b) cs }

abbrev pub form_of_choice : Choosing → Chosen → Form
form_of_choice choosing.Indexsum c = form.IndexSum c
form_of_choice choosing.Assign c = form.Assign c

abbrev pub ctasks_of : Scope → Tuple → Ctask → List Task
ctasks_of s b (ctask p x d r l bs) = map (λ c. record { start = variable_at s x c; duration = number_of s d c; demand = number_of s r c; present = option_map (λ l. condition_of s l c) l }) (over_cases bs s.names b)

-- a task that takes all there is
abbrev pub dtasks_of : Scope → Tuple → Dtask → List Task
dtasks_of s b (dtask p x d l bs) = map (λ c. record { start = variable_at s x c; duration = number_of s d c; demand = pos 1; present = option_map (λ l. condition_of s l c) l }) (over_cases bs s.names b)

abbrev pub items_of : Scope → Tuple → Load → List Item
items_of s b (load p x n costs bs) = map (λ c. record { group = variable_at s x c; size = number_of s n c; costs = listed (number_of s) costs s.names c }) (over_cases bs s.names b)

-- ---- constraints

abbrev pub demand_of : Constraint → Scope → Tuple → Demand
demand_of (linear p x c y) s b = row (compare_of c) (margin s x y b)
demand_of (logic p f) s b = formula (proposition_of f s b)
demand_of (conditional p l ls x c y) s b = row_when (map (λ l. condition_of s l b) (l ∷ ls)) (compare_of c) (margin s x y b)
demand_of (alldiff p l) s b = kind (form.Alldiff (listed (variable_at s) l s.names b))
demand_of (circuit p l) s b = kind (form.Circuit (listed (variable_at s) l s.names b))
demand_of (element p x l y) s b = kind (form.Element (variable_at s x b) (listed (entry_of s) l s.names b) (variable_at s y b))
demand_of (chosen p w x cs) s b = kind (form_of_choice w (chosen_of s x cs b))
demand_of (cumulative p x ts) s b = kind (form.Cumulative (number_of s x b) (flat_map (ctasks_of s b) ts))
demand_of (disjunctive p t ts) s b = kind (form.Disjunctive (flat_map (dtasks_of s b) (t ∷ ts)))
demand_of (packing p x cs os ls) s b = kind (form.Packing (record { z = variable_at s x b; capacities = listed (number_of s) cs s.names b; opening = listed (number_of s) os s.names b; items = flat_map (items_of s b) ls }))

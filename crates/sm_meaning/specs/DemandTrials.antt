-- What is tried of a constraint at one tuple, in the order of the text.
use Rattle.std.specs.Prelude.{ℕ, ◌∷◌, not, ◌==◌, length, Option, Some, None}
use Rattle.sm_syntax.specs.Expressions.{Expression, Literal}
use Rattle.sm_syntax.specs.Trees.{Listing, Choice, choice, Ctask, ctask, Dtask, dtask, Load, load, Constraint, linear, logic, conditional, alldiff, circuit, element, chosen, cumulative, disjunctive, packing}
use Rattle.sm_meaning.specs.declared.refusal.Wrong.TheVariants.{Value}
use Rattle.sm_meaning.specs.Refusals.{wrong_if}
use Rattle.sm_meaning.specs.Trials.{Trial, ◌▸◌, nothing_tried, tried, each_tried}
use Rattle.sm_meaning.specs.Scopes.{Tuple, Scope}
use Rattle.sm_meaning.specs.ExpressionTrials.{expression_tried, value_tried}
use Rattle.sm_meaning.specs.Cases.{over_cases_tried, listed, listed_tried, list_place, number_of, number_tried, amount_tried, discrete_tried, set_variable_tried, entry_tried}
use Rattle.sm_meaning.specs.Formulas.{condition_tried, statement_tried}
use Rattle.sm_meaning.specs.Demands.{margin}

abbrev pub row_tried : Scope → Expression → Expression → Tuple → Trial
row_tried s x y b = expression_tried x s b ▸ expression_tried y s b ▸ value_tried s (margin s x y b)

abbrev pub choice_tried : Scope → Tuple → Choice → Trial
choice_tried s b (choice p x table bs) = over_cases_tried bs s b (λ c. set_variable_tried s x c ▸ listed_tried (number_tried s) table s c)

abbrev pub presence_tried : Scope → Option Literal → Tuple → Trial
presence_tried s None b = nothing_tried
presence_tried s (Some l) b = condition_tried s l b

abbrev pub ctask_tried : Scope → Tuple → Ctask → Trial
ctask_tried s b (ctask p x d r l bs) = over_cases_tried bs s b (λ c. set_variable_tried s x c ▸ amount_tried s d c ▸ amount_tried s r c ▸ presence_tried s l c)

abbrev pub dtask_tried : Scope → Tuple → Dtask → Trial
dtask_tried s b (dtask p x d l bs) = over_cases_tried bs s b (λ c. set_variable_tried s x c ▸ amount_tried s d c ▸ presence_tried s l c)

-- the numbers of a list, and that there are so many of them
abbrev pub counted_list_tried : (Scope → Expression → Tuple → Trial) → Scope → ℕ → Listing → Tuple → Trial
counted_list_tried each s n l b = listed_tried (each s) l s b ▸ tried (wrong_if (not (length (listed (number_of s) l s.names b) == n)) (list_place l) Value)

abbrev pub load_tried : Scope → Tuple → ℕ → Load → Trial
load_tried s b groups (load p x n costs bs) = over_cases_tried bs s b (λ c. set_variable_tried s x c ▸ amount_tried s n c ▸ counted_list_tried number_tried s groups costs c)

abbrev pub demand_tried : Constraint → Scope → Tuple → Trial
demand_tried (linear p x c y) s b = row_tried s x y b
demand_tried (logic p f) s b = statement_tried f s b
demand_tried (conditional p l ls x c y) s b = each_tried (λ l. condition_tried s l b) (l ∷ ls) ▸ row_tried s x y b
demand_tried (alldiff p l) s b = listed_tried (set_variable_tried s) l s b
demand_tried (circuit p l) s b = listed_tried (set_variable_tried s) l s b
demand_tried (element p x l y) s b = set_variable_tried s x b ▸ listed_tried (entry_tried s) l s b ▸ discrete_tried s y b
demand_tried (chosen p w x cs) s b = discrete_tried s x b ▸ each_tried (choice_tried s b) cs
demand_tried (cumulative p x ts) s b = amount_tried s x b ▸ each_tried (ctask_tried s b) ts
demand_tried (disjunctive p t ts) s b = each_tried (dtask_tried s b) (t ∷ ts)
demand_tried (packing p x cs os ls) s b =
    discrete_tried s x b
    ▸ listed_tried (amount_tried s) cs s b
    ▸ counted_list_tried amount_tried s (length (listed (number_of s) cs s.names b)) os b
    ▸ each_tried (load_tried s b (length (listed (number_of s) cs s.names b))) ls

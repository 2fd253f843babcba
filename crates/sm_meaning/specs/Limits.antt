-- The limits of a constraint that is evaluated whole, in their order.
use Rattle.std.specs.Prelude.{ℕ, zero, suc, ◌+◌, List, [], ◌∷◌, ◌++◌, map, length, ℤ, pos, ◌-ℤ◌, int_lt, min, Bool, false, not, ◌&&◌, ◌||◌, nat_le, Option, Some, None, sum_by, if◌then◌else◌, option_map}
use Rattle.std.specs.List.{flat_map}
use Rattle.std.specs.Ordering.{int_eq}
use Rattle.sm_kinds.specs.declared.var.Var.{Var}
use Rattle.sm_kinds.specs.declared.literal.Literal.{Literal as Condition}
use Rattle.sm_kinds.specs.declared.tasks.Task.{Task}
use Rattle.sm_kinds.specs.declared.packing.Item.{Item}
use Rattle.sm_kinds.specs.declared.element.Entry.{Entry}
use Rattle.sm_kinds.specs.declared.element.Entry.TheVariants as entry
use Rattle.sm_kinds.specs.declared.logic.Clause.{Clause}
use Rattle.sm_kinds.specs.Limits.{greatest_number, most_constraints, most_terms, most_members, most_total, most_clauses, most_tasks, most_horizon, most_items, most_groups, most_capacity, most_real_rows, greatest_branch, greatest_sub}
use Rattle.sm_kinds.specs.Logic.{logic_size}
use Rattle.sm_kinds.specs.Tasks.{earliest_start, latest_end}
use Rattle.sm_kinds.specs.Vars.{is_real_kind}
use Rattle.sm_flat.specs.declared.form.Form.{Form}
use Rattle.sm_flat.specs.declared.form.Form.TheVariants as form
use Rattle.sm_flat.specs.declared.tags.Tags.{Tags}
use Rattle.sm_flat.specs.Forms as flat
use Rattle.sm_data.specs.declared.refusal.Counted.{Counted}
use Rattle.sm_data.specs.declared.refusal.Counted.TheVariants as counted
use Rattle.sm_clausify.specs.Propositions as prop
use Rattle.sm_clausify.specs.Propositions.{Proposition, Propositions}
use Rattle.sm_clausify.specs.Clauses.{clauses_of}
use Rattle.sm_clausify.specs.Counting.{most}
use Rattle.sm_forms.specs.Meanings.{Meaning, coefficient, constant_of, coefficient_above}
use Rattle.sm_meaning.specs.Refusals.{over, number_over, count_over}
use Rattle.sm_meaning.specs.Trials.{Trial, ◌▸◌, nothing_tried, tried, each_tried}
use Rattle.sm_meaning.specs.Scopes.{Scope, count_of}
use Rattle.sm_meaning.specs.Cases.{kind_at}
use Rattle.sm_meaning.specs.Demands.{Demand, row, formula, row_when, kind}
use Rattle.sm_meaning.specs.Expansions.{Post, Expansion, vars_of, scope_of}

-- each number in its turn
abbrev pub numbers_tried : Counted → ℕ → List ℤ → Trial
numbers_tried what bound zs = each_tried (λ z. tried (number_over what bound z)) zs

-- ---- numbers

abbrev pub presence_bounds : Option Condition → List ℤ
presence_bounds None = []
presence_bounds (Some l) = l.bound ∷ []

abbrev pub task_bounds : Task → List ℤ
task_bounds t = t.duration ∷ t.demand ∷ presence_bounds t.present

-- the bounds of literals, in the order of the text
abbrev mutual
  pub literal_bounds : Proposition → List ℤ
  literal_bounds (prop.literal l) = l.bound ∷ []
  literal_bounds (prop.negation q) = literal_bounds q
  literal_bounds (prop.conjunction qs) = all_literal_bounds qs
  literal_bounds (prop.disjunction qs) = all_literal_bounds qs

  pub all_literal_bounds : Propositions → List ℤ
  all_literal_bounds prop.no_parts = []
  all_literal_bounds (prop.part q qs) = literal_bounds q ++ all_literal_bounds qs

-- right sides, durations, demands, sizes and capacities
abbrev pub kind_bounds : Form → List ℤ
kind_bounds (form.Cumulative capacity tasks) = capacity ∷ flat_map task_bounds tasks
kind_bounds (form.Disjunctive tasks) = flat_map task_bounds tasks
kind_bounds (form.Packing p) = p.capacities ++ map (λ (i : Item). i.size) p.items
kind_bounds _ = []

abbrev pub bounds_of : Demand → List ℤ
bounds_of (row c g) = constant_of g ∷ []
bounds_of (formula q) = literal_bounds q
bounds_of (row_when ls c g) = map (λ (l : Condition). l.bound) ls ++ constant_of g ∷ []
bounds_of (kind f) = kind_bounds f

abbrev pub entry_numbers : Entry → List ℤ
entry_numbers (entry.Number z) = z ∷ []
entry_numbers (entry.Variable v) = []

-- members of tables, and costs
abbrev pub kind_entries : Form → List ℤ
kind_entries (form.Element x entries z) = flat_map entry_numbers entries
kind_entries (form.IndexSum c) = flat_map (λ (p : ℕ × List ℤ). p.1) c.picks
kind_entries (form.Assign c) = flat_map (λ (p : ℕ × List ℤ). p.1) c.picks
kind_entries (form.Packing p) = p.opening ++ flat_map (λ (i : Item). i.costs) p.items
kind_entries _ = []

abbrev pub entries_of : Demand → List ℤ
entries_of (kind f) = kind_entries f
entries_of _ = []

abbrev pub coefficients_tried : ℕ → Meaning → Trial
coefficients_tried n g = tried (option_map (over counted.Coefficient greatest_number) (coefficient_above greatest_number n g))

abbrev pub row_coefficients_tried : ℕ → Demand → Trial
row_coefficients_tried n (row c g) = coefficients_tried n g
row_coefficients_tried n (row_when ls c g) = coefficients_tried n g
row_coefficients_tried n _ = nothing_tried

-- ---- counts

abbrev pub matters : Meaning → ℕ → Bool
matters g i = not (int_eq (coefficient g i) (pos 0))

-- how many of the n variables matter
abbrev pub term_count : ℕ → Meaning → ℕ
term_count zero g = 0
term_count (suc k) g = term_count k g + (if matters g k then 1 else 0)

abbrev pub count_tried : Counted → ℕ → ℕ → Trial
count_tried what bound n = tried (count_over what bound n)

abbrev pub tables_tried : List (ℕ × List ℤ) → Trial
tables_tried picks = each_tried (λ (p : ℕ × List ℤ). count_tried counted.Terms most_members (length p.1)) picks

abbrev pub kind_terms_tried : Form → Trial
kind_terms_tried (form.Alldiff xs) = count_tried counted.Terms most_terms (length xs)
kind_terms_tried (form.Circuit xs) = count_tried counted.Terms most_terms (length xs)
kind_terms_tried (form.Element x entries z) = count_tried counted.Terms most_members (length entries)
kind_terms_tried (form.IndexSum c) = count_tried counted.Terms most_terms (length c.picks) ▸ tables_tried c.picks
kind_terms_tried (form.Assign c) = count_tried counted.Terms most_terms (length c.picks) ▸ tables_tried c.picks
kind_terms_tried _ = nothing_tried

abbrev pub terms_tried : ℕ → Demand → Trial
terms_tried n (row c g) = count_tried counted.Terms most_terms (term_count n g)
terms_tried n (row_when ls c g) = count_tried counted.Terms most_terms (term_count n g)
terms_tried n (formula q) = nothing_tried
terms_tried n (kind f) = kind_terms_tried f

-- the literals of the clauses, where these are within their limit
abbrev pub formula_size : List Clause → ℕ
formula_size cs = if nat_le (length cs) most_clauses then logic_size cs else 0

-- terms, literals and members of tables
abbrev pub size_of : ℕ → Demand → ℕ
size_of n (row c g) = term_count n g
size_of n (row_when ls c g) = length ls + term_count n g
size_of n (formula q) = formula_size (clauses_of q false)
size_of n (kind f) = flat.size_of f

abbrev pub total_of : ℕ → List Post → ℕ
total_of n ps = sum_by (λ (p : Post). size_of n p.demand) ps

abbrev pub clauses_tried : Demand → Trial
clauses_tried (formula q) = tried (number_over counted.Clauses most_clauses (pos (min (length (clauses_of q false)) most)))
clauses_tried _ = nothing_tried

-- ---- tasks, items and groups

abbrev pub least_of : ℤ → List ℤ → ℤ
least_of least [] = least
least_of least (z ∷ zs) = least_of (if int_lt z least then z else least) zs

abbrev pub greatest_of : ℤ → List ℤ → ℤ
greatest_of greatest [] = greatest
greatest_of greatest (z ∷ zs) = greatest_of (if int_lt greatest z then z else greatest) zs

-- from the least declared start to the greatest declared end
abbrev pub horizon_of : List Var → List Task → ℤ
horizon_of vars [] = pos 0
horizon_of vars (t ∷ ts) = greatest_of (latest_end vars t) (map (latest_end vars) ts) -ℤ least_of (earliest_start vars t) (map (earliest_start vars) ts)

abbrev pub tasks_limits_tried : List Var → List Task → Trial
tasks_limits_tried vars ts = count_tried counted.Tasks most_tasks (length ts) ▸ tried (number_over counted.Horizon most_horizon (horizon_of vars ts))

abbrev pub kind_limits_tried : List Var → Form → Trial
kind_limits_tried vars (form.Cumulative capacity ts) = tasks_limits_tried vars ts
kind_limits_tried vars (form.Disjunctive ts) = tasks_limits_tried vars ts
kind_limits_tried vars (form.Packing p) =
    count_tried counted.Items most_items (length p.items)
    ▸ count_tried counted.Groups most_groups (length p.capacities)
    ▸ numbers_tried counted.Capacity most_capacity p.capacities
kind_limits_tried vars _ = nothing_tried

abbrev pub groups_tried : List Var → Demand → Trial
groups_tried vars (kind f) = kind_limits_tried vars f
groups_tried vars _ = nothing_tried

-- ---- real variables

-- a real variable below n matters
abbrev pub has_real : Scope → ℕ → Meaning → Bool
has_real s zero g = false
has_real s (suc k) g = has_real s k g || (matters g k && is_real_kind (kind_at s k))

abbrev pub is_real_row : Scope → Demand → Bool
is_real_row s (row c g) = has_real s (count_of s) g
is_real_row s (row_when ls c g) = has_real s (count_of s) g
is_real_row s _ = false

abbrev pub real_rows : Scope → List Post → ℕ
real_rows s ps = sum_by (λ (p : Post). if is_real_row s p.demand then 1 else 0) ps

-- ---- all of them

abbrev pub sub_tried : Option ℕ → Trial
sub_tried None = nothing_tried
sub_tried (Some g) = tried (number_over counted.Sub greatest_sub (pos g))

abbrev pub tag_limits_tried : Tags → Trial
tag_limits_tried t = tried (number_over counted.Branch greatest_branch (pos t.branch)) ▸ sub_tried t.sub

-- the post behind those that there are
abbrev pub post_limits_tried : Expansion → Post → Trial
post_limits_tried e p =
    row_coefficients_tried (count_of (scope_of e)) p.demand
    ▸ numbers_tried counted.Bound greatest_number (bounds_of p.demand)
    ▸ numbers_tried counted.Entry greatest_number (entries_of p.demand)
    ▸ count_tried counted.Constraints most_constraints (length e.posts + 1)
    ▸ terms_tried (count_of (scope_of e)) p.demand
    ▸ count_tried counted.Total most_total (total_of (count_of (scope_of e)) (e.posts ++ p ∷ []))
    ▸ clauses_tried p.demand
    ▸ groups_tried (vars_of e) p.demand
    ▸ count_tried counted.Realrows most_real_rows (real_rows (scope_of e) (e.posts ++ p ∷ []))
    ▸ tag_limits_tried p.tags

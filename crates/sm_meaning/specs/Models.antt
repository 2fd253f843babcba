-- What a model text means with the tables of its data files: Means, Worth, Listing and Refuses.
use Rattle.std.specs.Prelude.{◌≡◌, ℕ, suc, List, [], ◌∷◌, map, ◌==◌, Bool, true, false, not, ◌&&◌, All, Option, Some, None, slice_get, if◌then◌else◌}
use Rattle.std.specs.List.{list_all, filter}
use Rattle.sm_kinds.specs.declared.var.Var.{Var}
use Rattle.sm_kinds.specs.Vars.{LiesIn, is_real_kind}
use Rattle.sm_flat.specs.declared.form.Kind.{Kind as FormKind}
use Rattle.sm_flat.specs.declared.form.Kind.TheVariants as form_kind
use Rattle.sm_flat.specs.declared.tags.Tags.{Tags}
use Rattle.sm_flat.specs.declared.goal.Sense.{Sense}
use Rattle.sm_flat.specs.Forms as flat
use Rattle.sm_data.specs.Documents.{Entry}
use Rattle.sm_syntax.specs.Expressions.{Binding, binding}
use Rattle.sm_syntax.specs.Trees.{Constraint, Tag, Item, index_item, var_item, post_item, Tree, tree}
use Rattle.sm_forms.specs.Meanings.{Values, Meaning}
use Rattle.sm_meaning.specs.declared.refusal.Wrong.TheVariants.{Benders}
use Rattle.sm_meaning.specs.declared.refusal.ExpandRefusal.{ExpandRefusal}
use Rattle.sm_meaning.specs.Refusals.{wrong_if}
use Rattle.sm_meaning.specs.Trials.{Trial, ◌▸◌, nothing_tried, tried, visit, refusal_of}
use Rattle.sm_meaning.specs.Scopes.{Tuple}
use Rattle.sm_meaning.specs.Tuples.{span_of, tuples}
use Rattle.sm_meaning.specs.Worths.{all_pass}
use Rattle.sm_meaning.specs.ExpressionTrials.{binds_tried, tests_tried}
use Rattle.sm_meaning.specs.Cases.{over_cases}
use Rattle.sm_meaning.specs.Demands.{Demand, row, formula, row_when, kind, Holds}
use Rattle.sm_meaning.specs.DemandTrials.{demand_tried}
use Rattle.sm_meaning.specs.Tags.{tags_tried}
use Rattle.sm_meaning.specs.Expansions.{Post, Declared, Expansion, beginning, vars_of, scope_of, with_posts, post_at}
use Rattle.sm_meaning.specs.Limits.{matters, post_limits_tried}
use Rattle.sm_meaning.specs.Declarations.{index_tried, with_index, var_tried, with_var}
use Rattle.sm_meaning.specs.Goals.{goal_worths, senses_of, goal_tried}

-- ---- what items add

abbrev pub with_item : Item → Expansion → Expansion
with_item (index_item p name x y) e = with_index name x y e
with_item (var_item p name sets k) e = with_var name sets k e
with_item (post_item p bs c ts) e = with_posts e (map (post_at c ts (scope_of e)) (over_cases bs e.names []))

abbrev pub with_items : List Item → Expansion → Expansion
with_items [] e = e
with_items (x ∷ xs) e = with_items xs (with_item x e)

abbrev pub expansion_of : Tree → List Entry → Expansion
expansion_of (tree p items goal) tables = with_items items (beginning tables)

-- ---- what is tried of items

-- a constraint at one tuple: its parts, its tags, and then the limits
abbrev pub post_tried : Constraint → List Tag → Expansion → Tuple → Trial
post_tried c ts e b = demand_tried c (scope_of e) b ▸ tags_tried (scope_of e) b [] ts ▸ post_limits_tried e (post_at c ts (scope_of e) b)

abbrev pub posts_tried : (Tuple → Trial) → (Tuple → Bool) → Constraint → List Tag → Expansion → List Tuple → Trial
posts_tried tests pass c ts e [] = nothing_tried
posts_tried tests pass c ts e (b ∷ bs) = visit ▸ tests b ▸ (if pass b
    then post_tried c ts e b ▸ posts_tried tests pass c ts (with_posts e (post_at c ts (scope_of e) b ∷ [])) bs
    else posts_tried tests pass c ts e bs)

abbrev pub forall_tried : Option Binding → Constraint → List Tag → Expansion → Trial
forall_tried None c ts e = post_tried c ts e []
forall_tried (Some (binding p x xs tests)) c ts e =
    binds_tried (x ∷ xs) (scope_of e) []
    ▸ posts_tried (tests_tried tests (scope_of e)) (all_pass tests e.names) c ts e (tuples (map (span_of e.names) (x ∷ xs)) [])

abbrev pub item_tried : Item → Expansion → Trial
item_tried (index_item p name x y) e = index_tried name x y e
item_tried (var_item p name sets k) e = var_tried name sets k e
item_tried (post_item p bs c ts) e = forall_tried bs c ts e

abbrev pub items_tried : List Item → Expansion → Trial
items_tried [] e = nothing_tried
items_tried (x ∷ xs) e = item_tried x e ▸ items_tried xs (with_item x e)

-- ---- real variables of subproblems

-- the variable stands in the row
abbrev pub stands_in : ℕ → Demand → Bool
stands_in i (row c g) = matters g i
stands_in i (row_when ls c g) = matters g i
stands_in i (formula q) = false
stands_in i (kind f) = false

abbrev pub same_sub : Option ℕ → Option ℕ → Bool
same_sub None None = true
same_sub (Some g) (Some h) = g == h
same_sub _ _ = false

-- the subproblem of each constraint that has the variable
abbrev pub subs_of : ℕ → List Post → List (Option ℕ)
subs_of i ps = map (λ (p : Post). p.tags.sub) (filter (λ (p : Post). stands_in i p.demand) ps)

-- it is of a subproblem, and of another or of none
abbrev pub is_torn : List (Option ℕ) → Bool
is_torn [] = false
is_torn (g ∷ gs) = not (list_all (same_sub g) gs)

-- each real variable, by number from i on
abbrev pub benders_tried : List Post → ℕ → List Declared → Trial
benders_tried ps i [] = nothing_tried
benders_tried ps i (d ∷ ds) = tried (wrong_if (is_real_kind d.var.kind && is_torn (subs_of i ps)) d.place Benders) ▸ benders_tried ps (suc i) ds

-- ---- the whole

abbrev pub tree_tried : Tree → List Entry → Trial
tree_tried (tree p items goal) tables =
    items_tried items (beginning tables)
    ▸ goal_tried (scope_of (with_items items (beginning tables))) goal
    ▸ benders_tried (with_items items (beginning tables)).posts 0 (with_items items (beginning tables)).variables

-- the first refusal in the order of the text, if there is one
abbrev pub refusal_in : Tree → List Entry → Option ExpandRefusal
refusal_in t tables = refusal_of (tree_tried t tables 0)

-- each variable has a value of its declared domain, and each constraint holds
pub record Means (t : Tree) (tables : List Entry) (a : Values) : Type 0 where
  pub fits : (i : ℕ) (v : Declared) → slice_get (expansion_of t tables).variables i ≡ Some v → LiesIn v.var.kind v.var.values (a.numerator i) a.denominator
  pub holds : All (λ (p : Post). Holds p.demand a) (expansion_of t tables).posts

-- the value of each goal, times the denominator
abbrev pub worths_of : Tree → List Entry → List Meaning
worths_of (tree p items goal) tables = goal_worths (scope_of (with_items items (beginning tables))) goal

-- ---- what it lists

abbrev pub demand_kind : Demand → FormKind
demand_kind (row c g) = form_kind.Linear
demand_kind (formula q) = form_kind.Logic
demand_kind (row_when ls c g) = form_kind.When
demand_kind (kind f) = flat.kind_of f

pub record Listing : Type 0 where
  pub variables : List Var
  pub kinds : List FormKind
  pub tags : List Tags
  pub senses : List Sense

abbrev pub listing_of : Tree → List Entry → Listing
listing_of (tree p items goal) tables = record {
  variables = vars_of (with_items items (beginning tables));
  kinds = map (λ (p : Post). demand_kind p.demand) (with_items items (beginning tables)).posts;
  tags = map (λ (p : Post). p.tags) (with_items items (beginning tables)).posts;
  senses = senses_of goal;
}

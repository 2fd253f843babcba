-- What the parts of a demand are that is not refused: its variables are of the kinds that it needs, its amounts aren't
-- below 0, and its lists are as long as each other.
use Rattle.std.proofs.Common.{◌≡◌, refl, ℕ, arith, List, ◌∷◌, map, length, get_or, ℤ, pos, All, false}
use Rattle.std.specs.Prelude.{Option, ◌≤ℤ◌, not, ◌==◌, option_map}
use Rattle.std.specs.List.{flat_map}
use Rattle.std.proofs.lemmas.Grind.{common_steps}
use Rattle.std.proofs.lemmas.Int.{ints}
use Rattle.std.proofs.lemmas.List.Elements.{All-map}
use Rattle.sm_kinds.specs.declared.var.Var.{Var}
use Rattle.sm_kinds.specs.declared.literal.Literal.{Literal as Condition}
use Rattle.sm_kinds.specs.declared.choice.Choice.{Choice as Chosen}
use Rattle.sm_kinds.specs.declared.element.Entry.{Entry}
use Rattle.sm_kinds.specs.declared.tasks.Task.{Task}
use Rattle.sm_kinds.specs.declared.packing.Item.{Item}
use Rattle.sm_kinds.specs.declared.packing.Packing.{Packing}
use Rattle.sm_kinds.specs.Element.{EachEntryVar}
use Rattle.sm_kinds.specs.Vars.{IsSet, IsDiscrete}
use Rattle.sm_flat.specs.declared.form.Form.{Form}
use Rattle.sm_flat.specs.declared.form.Form.TheVariants as form
use Rattle.sm_clausify.specs.Propositions.{EachLiteral}
use Rattle.sm_syntax.specs.declared.tree.Choosing.{Choosing}
use Rattle.sm_syntax.specs.declared.tree.Choosing.TheVariants as choosing
use Rattle.sm_syntax.specs.Expressions.{Expression, Literal}
use Rattle.sm_syntax.specs.Trees.{Listing, Choice, choice, Ctask, ctask, Dtask, dtask, Load, load, Constraint, linear, logic, conditional, alldiff, circuit, element, chosen, cumulative, disjunctive, packing}
use Rattle.sm_meaning.specs.declared.refusal.Wrong.TheVariants.{Value}
use Rattle.sm_meaning.specs.Refusals.{wrong_if}
use Rattle.sm_meaning.specs.Trials.{Trial, ◌▸◌, tried, each_tried}
use Rattle.sm_meaning.specs.Scopes.{Tuple, Scope}
use Rattle.sm_meaning.specs.Cases.{over_cases, listed, listed_tried, list_place, number_of, number_tried, amount_tried, variable_at, discrete_tried, set_variable_tried, entry_of, entry_tried}
use Rattle.sm_meaning.specs.Formulas.{condition_of, condition_tried}
use Rattle.sm_meaning.specs.Demands.{Demand, row, formula, row_when, kind, picks_of, chosen_of, form_of_choice, ctasks_of, dtasks_of, items_of, demand_of}
use Rattle.sm_meaning.specs.DemandTrials.{row_tried, choice_tried, presence_tried, ctask_tried, dtask_tried, counted_list_tried, load_tried, demand_tried}
use Rattle.sm_flattening.proofs.Reached.{Reaches, both, each_all, nothing_wrong}
use Rattle.sm_flattening.proofs.Lists.{All-flat_map}
use Rattle.sm_flattening.proofs.Tuples.{over_all, listed_all}
use Rattle.sm_flattening.proofs.Roles.{discrete_is, set_is, amount_is, entry_is, condition_is, presence_is}
use Rattle.sm_flattening.proofs.Formulas.{statement_each}
use Rattle.sm_flattening.proofs.Tasks.{HasTaskParts}

-- ---- what the parts are

-- a chosen variable has a set of values
abbrev pub HasSetVariable : List Var → ℕ × List ℤ → Type 0
HasSetVariable vars pick = IsSet vars pick.0

-- an item has a cost for each group
pub record HasItemParts (vars : List Var) (groups : ℕ) (i : Item) : Type 0 where
  pub group : IsSet vars i.group
  pub size : pos 0 ≤ℤ i.size
  pub costs : length i.costs ≡ groups

pub record HasChoiceParts (vars : List Var) (c : Chosen) : Type 0 where
  pub each : All (HasSetVariable vars) c.picks
  pub value : IsDiscrete vars c.z

pub record HasElementParts (vars : List Var) (x : ℕ) (entries : List Entry) (z : ℕ) : Type 0 where
  pub index : IsSet vars x
  pub each : All (EachEntryVar (IsDiscrete vars)) entries
  pub value : IsDiscrete vars z

pub record HasCumulativeParts (vars : List Var) (capacity : ℤ) (tasks : List Task) : Type 0 where
  pub room : pos 0 ≤ℤ capacity
  pub each : All (HasTaskParts vars) tasks

pub record HasDisjunctiveParts (vars : List Var) (tasks : List Task) : Type 0 where
  pub each : All (HasTaskParts vars) tasks
  pub demands : All (λ (t : Task). t.demand ≡ pos 1) tasks

pub record HasPackingParts (vars : List Var) (p : Packing) : Type 0 where
  pub value : IsDiscrete vars p.z
  pub capacities : All (λ n. pos 0 ≤ℤ n) p.capacities
  pub opened : length p.opening ≡ length p.capacities
  pub opening : All (λ n. pos 0 ≤ℤ n) p.opening
  pub each : All (HasItemParts vars (length p.capacities)) p.items

-- a kind of a text is none of rows or formulas
abbrev pub HasKindParts : List Var → Form → Type 0
HasKindParts vars (form.Linear r) = ⊥
HasKindParts vars (form.Logic clauses) = ⊥
HasKindParts vars (form.When literals r) = ⊥
HasKindParts vars (form.Alldiff positions) = All (IsSet vars) positions
HasKindParts vars (form.Element x entries z) = HasElementParts vars x entries z
HasKindParts vars (form.IndexSum c) = HasChoiceParts vars c
HasKindParts vars (form.Cumulative capacity tasks) = HasCumulativeParts vars capacity tasks
HasKindParts vars (form.Disjunctive tasks) = HasDisjunctiveParts vars tasks
HasKindParts vars (form.Packing p) = HasPackingParts vars p
HasKindParts vars (form.Circuit successors) = All (IsSet vars) successors
HasKindParts vars (form.Assign c) = HasChoiceParts vars c

abbrev pub HasParts : List Var → Demand → Type 0
HasParts vars (row c g) = Unit {0}
HasParts vars (formula q) = EachLiteral (λ (l : Condition). IsDiscrete vars l.var) q
HasParts vars (row_when ls c g) = All (λ (l : Condition). IsDiscrete vars l.var) ls
HasParts vars (kind f) = HasKindParts vars f

-- ---- what is tried gives them

same_count : (m n : ℕ) → not (m == n) ≡ false → m ≡ n
same_count m n h = grind (arith, common_steps)

-- the list is gone through, and has so many numbers
counted_is : (each : Scope → Expression → Tuple → Trial) (s : Scope) (n : ℕ) (l : Listing) (b : Tuple) → Reaches (counted_list_tried each s n l b)
    → Reaches (listed_tried (each s) l s b) × (length (listed (number_of s) l s.names b) ≡ n)
counted_is each s n l b h =
    let numbers = listed (number_of s) l s.names b in
    let r = both (listed_tried (each s) l s b) (tried (wrong_if (not (length numbers == n)) (list_place l) Value)) h in
    (r.0, same_count (length numbers) n (nothing_wrong (not (length numbers == n)) (list_place l) Value r.1))

-- numbers of a list that aren't below 0
amounts_are : (s : Scope) (l : Listing) (b : Tuple) → Reaches (listed_tried (amount_tried s) l s b) → All (λ n. pos 0 ≤ℤ n) (listed (number_of s) l s.names b)
amounts_are s l b h = listed_all (λ n. pos 0 ≤ℤ n) (number_of s) (amount_tried s) (amount_is s) l s b h

-- what is made at one tuple, and what is tried of it
abbrev ctask_at : Scope → Expression → Expression → Expression → Option Literal → Tuple → Task
ctask_at s x d r l c = record { start = variable_at s x c; duration = number_of s d c; demand = number_of s r c; present = option_map (λ l. condition_of s l c) l }

abbrev ctask_at_tried : Scope → Expression → Expression → Expression → Option Literal → Tuple → Trial
ctask_at_tried s x d r l c = set_variable_tried s x c ▸ amount_tried s d c ▸ amount_tried s r c ▸ presence_tried s l c

abbrev dtask_at : Scope → Expression → Expression → Option Literal → Tuple → Task
dtask_at s x d l c = record { start = variable_at s x c; duration = number_of s d c; demand = pos 1; present = option_map (λ l. condition_of s l c) l }

abbrev dtask_at_tried : Scope → Expression → Expression → Option Literal → Tuple → Trial
dtask_at_tried s x d l c = set_variable_tried s x c ▸ amount_tried s d c ▸ presence_tried s l c

abbrev item_at : Scope → Expression → Expression → Listing → Tuple → Item
item_at s x n costs c = record { group = variable_at s x c; size = number_of s n c; costs = listed (number_of s) costs s.names c }

abbrev item_at_tried : Scope → Expression → Expression → Listing → ℕ → Tuple → Trial
item_at_tried s x n costs groups c = set_variable_tried s x c ▸ amount_tried s n c ▸ counted_list_tried number_tried s groups costs c

abbrev packing_at : Scope → Expression → Listing → Listing → List Load → Tuple → Packing
packing_at s x cs os ls b = record { z = variable_at s x b; capacities = listed (number_of s) cs s.names b; opening = listed (number_of s) os s.names b; items = flat_map (items_of s b) ls }

abbrev packing_at_tried : Scope → Expression → Listing → Listing → List Load → Tuple → Trial
packing_at_tried s x cs os ls b =
    discrete_tried s x b
    ▸ listed_tried (amount_tried s) cs s b
    ▸ counted_list_tried amount_tried s (length (listed (number_of s) cs s.names b)) os b
    ▸ each_tried (load_tried s b (length (listed (number_of s) cs s.names b))) ls

module _ (vars : List Var) (s : Scope) (kinds : s.kinds ≡ map (λ (v : Var). v.kind) vars) where
  sets_are : (l : Listing) (b : Tuple) → Reaches (listed_tried (set_variable_tried s) l s b) → All (IsSet vars) (listed (variable_at s) l s.names b)
  sets_are l b h = listed_all (IsSet vars) (variable_at s) (set_variable_tried s) (set_is vars s kinds) l s b h

  conditions_are : (ls : List Literal) (b : Tuple) → Reaches (each_tried (λ l. condition_tried s l b) ls) → All (λ (l : Condition). IsDiscrete vars l.var) (map (λ l. condition_of s l b) ls)
  conditions_are ls b h =
      let P : Condition → Type 0 = λ (l : Condition). IsDiscrete vars l.var in
      All-map P (λ l. condition_of s l b) ls (each_all (λ l. P (condition_of s l b)) (λ l. condition_tried s l b) (λ l. condition_is vars s kinds l b) ls h)

  -- ---- parts that stand for each tuple

  -- At each tuple the roles are tried one after another, so each of them holds; then they hold at all tuples that pass, and of
  -- all that is made there.
  picks_are : (b : Tuple) (c : Choice) → Reaches (choice_tried s b c) → All (HasSetVariable vars) (picks_of s b c)
  picks_are b (choice p x table bs) h =
      let pick : Tuple → ℕ × List ℤ = λ c. (variable_at s x c, listed (number_of s) table s.names c) in
      let numbers = listed_tried (number_tried s) table s in
      All-map (HasSetVariable vars) pick (over_cases bs s.names b)
      (over_all (λ c. HasSetVariable vars (pick c)) (λ c. set_variable_tried s x c ▸ numbers c) (λ c r. set_is vars s kinds x c (both (set_variable_tried s x c) (numbers c) r).0) bs s b h)

  ctasks_are : (b : Tuple) (t : Ctask) → Reaches (ctask_tried s b t) → All (HasTaskParts vars) (ctasks_of s b t)
  ctasks_are b (ctask p x d r l bs) h =
      All-map (HasTaskParts vars) (ctask_at s x d r l) (over_cases bs s.names b) (over_all (λ c. HasTaskParts vars (ctask_at s x d r l c)) (ctask_at_tried s x d r l) fits bs s b h)
    where
      fits : (c : Tuple) → Reaches (ctask_at_tried s x d r l c) → HasTaskParts vars (ctask_at s x d r l c)
      fits c h =
          let start = both (set_variable_tried s x c) (amount_tried s d c ▸ amount_tried s r c ▸ presence_tried s l c) h in
          let duration = both (amount_tried s d c) (amount_tried s r c ▸ presence_tried s l c) start.1 in
          let demand = both (amount_tried s r c) (presence_tried s l c) duration.1 in
          record {
            start = set_is vars s kinds x c start.0;
            duration = amount_is s d c duration.0;
            demand = amount_is s r c demand.0;
            present = presence_is vars s kinds l c demand.1;
          }

  dtasks_are : (b : Tuple) (t : Dtask) → Reaches (dtask_tried s b t) → All (HasTaskParts vars) (dtasks_of s b t)
  dtasks_are b (dtask p x d l bs) h =
      All-map (HasTaskParts vars) (dtask_at s x d l) (over_cases bs s.names b) (over_all (λ c. HasTaskParts vars (dtask_at s x d l c)) (dtask_at_tried s x d l) fits bs s b h)
    where
      fits : (c : Tuple) → Reaches (dtask_at_tried s x d l c) → HasTaskParts vars (dtask_at s x d l c)
      fits c h =
          let start = both (set_variable_tried s x c) (amount_tried s d c ▸ presence_tried s l c) h in
          let duration = both (amount_tried s d c) (presence_tried s l c) start.1 in
          record {
            start = set_is vars s kinds x c start.0;
            duration = amount_is s d c duration.0;
            demand = omega (arith, ints);
            present = presence_is vars s kinds l c duration.1;
          }

  dtask_demands : (b : Tuple) (t : Dtask) → All (λ (u : Task). u.demand ≡ pos 1) (dtasks_of s b t)
  dtask_demands b (dtask p x d l bs) = All-map (λ (u : Task). u.demand ≡ pos 1) (dtask_at s x d l) (over_cases bs s.names b) (λ k c lt. refl)

  items_are : (b : Tuple) (groups : ℕ) (l : Load) → Reaches (load_tried s b groups l) → All (HasItemParts vars groups) (items_of s b l)
  items_are b groups (load p x n costs bs) h =
      All-map (HasItemParts vars groups) (item_at s x n costs) (over_cases bs s.names b)
      (over_all (λ c. HasItemParts vars groups (item_at s x n costs c)) (item_at_tried s x n costs groups) fits bs s b h)
    where
      fits : (c : Tuple) → Reaches (item_at_tried s x n costs groups c) → HasItemParts vars groups (item_at s x n costs c)
      fits c h =
          let group = both (set_variable_tried s x c) (amount_tried s n c ▸ counted_list_tried number_tried s groups costs c) h in
          let size = both (amount_tried s n c) (counted_list_tried number_tried s groups costs c) group.1 in
          record {
            group = set_is vars s kinds x c group.0;
            size = amount_is s n c size.0;
            costs = (counted_is number_tried s groups costs c size.1).1;
          }

  -- ---- each kind

  element_is : (x : Expression) (l : Listing) (y : Expression) (b : Tuple) → Reaches (set_variable_tried s x b ▸ listed_tried (entry_tried s) l s b ▸ discrete_tried s y b)
      → HasElementParts vars (variable_at s x b) (listed (entry_of s) l s.names b) (variable_at s y b)
  element_is x l y b h =
      let index = both (set_variable_tried s x b) (listed_tried (entry_tried s) l s b ▸ discrete_tried s y b) h in
      let others = both (listed_tried (entry_tried s) l s b) (discrete_tried s y b) index.1 in
      record {
        index = set_is vars s kinds x b index.0;
        each = listed_all (EachEntryVar (IsDiscrete vars)) (entry_of s) (entry_tried s) (entry_is vars s kinds) l s b others.0;
        value = discrete_is vars s kinds y b others.1;
      }

  choice_is : (x : Expression) (cs : List Choice) (b : Tuple) → Reaches (discrete_tried s x b ▸ each_tried (choice_tried s b) cs) → HasChoiceParts vars (chosen_of s x cs b)
  choice_is x cs b h =
      let r = both (discrete_tried s x b) (each_tried (choice_tried s b) cs) h in
      record {
        each = All-flat_map (HasSetVariable vars) (picks_of s b) cs (each_all (λ c. All (HasSetVariable vars) (picks_of s b c)) (choice_tried s b) (picks_are b) cs r.1);
        value = discrete_is vars s kinds x b r.0;
      }

  -- the value, the capacities, as many opening costs and then the items, each with as many costs
  packing_is : (x : Expression) (cs os : Listing) (ls : List Load) (b : Tuple) → Reaches (packing_at_tried s x cs os ls b) → HasPackingParts vars (packing_at s x cs os ls b)
  packing_is x cs os ls b h =
      let groups = length (listed (number_of s) cs s.names b) in
      let loads = each_tried (load_tried s b groups) ls in
      let openings = counted_list_tried amount_tried s groups os b in
      let value = both (discrete_tried s x b) (listed_tried (amount_tried s) cs s b ▸ openings ▸ loads) h in
      let capacities = both (listed_tried (amount_tried s) cs s b) (openings ▸ loads) value.1 in
      let others = both openings loads capacities.1 in
      let opened = counted_is amount_tried s groups os b others.0 in
      record {
        value = discrete_is vars s kinds x b value.0;
        capacities = amounts_are s cs b capacities.0;
        opened = opened.1;
        opening = amounts_are s os b opened.0;
        each = All-flat_map (HasItemParts vars groups) (items_of s b) ls (each_all (λ l. All (HasItemParts vars groups) (items_of s b l)) (load_tried s b groups) (items_are b groups) ls others.1);
      }

  tasks_are : {T : Type 0} (part : T → Trial) (tasks_at : T → List Task) → ((t : T) → Reaches (part t) → All (HasTaskParts vars) (tasks_at t)) → (ts : List T) → Reaches (each_tried part ts)
      → All (HasTaskParts vars) (flat_map tasks_at ts)
  tasks_are part tasks_at fits ts h = All-flat_map (HasTaskParts vars) tasks_at ts (each_all (λ t. All (HasTaskParts vars) (tasks_at t)) part fits ts h)

  form_is : (w : Choosing) (c : Chosen) → HasChoiceParts vars c → HasKindParts vars (form_of_choice w c)
  form_is choosing.Indexsum c h = h
  form_is choosing.Assign c h = h

  -- each constraint has the parts of its kind; a row has none, and its literals are those of its conditions
  pub demand_parts : (c : Constraint) (b : Tuple) → Reaches (demand_tried c s b) → HasParts vars (demand_of c s b)
  demand_parts (linear p x c y) b h = tt
  demand_parts (logic p f) b h = statement_each (λ (l : Condition). IsDiscrete vars l.var) s (condition_is vars s kinds) f b h
  demand_parts (conditional p l ls x c y) b h = conditions_are (l ∷ ls) b (both (each_tried (λ l. condition_tried s l b) (l ∷ ls)) (row_tried s x y b) h).0
  demand_parts (alldiff p l) b h = sets_are l b h
  demand_parts (circuit p l) b h = sets_are l b h
  demand_parts (element p x l y) b h = element_is x l y b h
  demand_parts (chosen p w x cs) b h = form_is w (chosen_of s x cs b) (choice_is x cs b h)
  demand_parts (cumulative p x ts) b h =
      let r = both (amount_tried s x b) (each_tried (ctask_tried s b) ts) h in
      record { room = amount_is s x b r.0; each = tasks_are (ctask_tried s b) (ctasks_of s b) (ctasks_are b) ts r.1 }
  demand_parts (disjunctive p t ts) b h = record {
    each = tasks_are (dtask_tried s b) (dtasks_of s b) (dtasks_are b) (t ∷ ts) h;
    demands = All-flat_map (λ (u : Task). u.demand ≡ pos 1) (dtasks_of s b) (t ∷ ts) (λ k d lt. dtask_demands b (get_or (t ∷ ts) k d));
  }
  demand_parts (packing p x cs os ls) b h = packing_is x cs os ls b h

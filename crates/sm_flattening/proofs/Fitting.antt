-- A constraint of a text that isn't refused is, made flat, within all limits of its kind, and fits the variables.
use Rattle.std.proofs.Common.{refl, ℕ, ◌≤◌, arith, List, [], ◌∷◌, map, length, get_or, ℤ, pos, Bool, true, false, All}
use Rattle.std.specs.Prelude.{◌≤ℤ◌, neg_ℤ, unsigned_abs}
use Rattle.std.specs.List.{flat_map}
use Rattle.std.proofs.lemmas.Int.{ints}
use Rattle.std.proofs.lemmas.List.Elements.{All-head, All-tail}
use Rattle.sm_kinds.specs.declared.linear.Cmp.{Cmp}
use Rattle.sm_kinds.specs.declared.literal.Literal.{Literal}
use Rattle.sm_kinds.specs.declared.literal.Test.{Test}
use Rattle.sm_kinds.specs.declared.literal.Test.TheVariants.{AtMost, AtLeast, Equal, Unequal}
use Rattle.sm_kinds.specs.declared.choice.Choice.{Choice}
use Rattle.sm_kinds.specs.declared.element.Entry.{Entry}
use Rattle.sm_kinds.specs.declared.element.Entry.TheVariants.{Number, Variable}
use Rattle.sm_kinds.specs.declared.tasks.Task.{Task}
use Rattle.sm_kinds.specs.declared.packing.Item.{Item}
use Rattle.sm_kinds.specs.declared.packing.Packing.{Packing}
use Rattle.sm_kinds.specs.declared.var.Var.{Var}
use Rattle.sm_kinds.specs.Choices.{IsChoice}
use Rattle.sm_kinds.specs.Element.{IsEntry, IsElement, EachEntryVar}
use Rattle.sm_kinds.specs.Limits.{IsSmall, greatest_number, greatest_clause_bound, most_terms, most_members, most_tasks, most_horizon, most_items, most_groups, most_capacity}
use Rattle.sm_kinds.specs.Linear.{IsLinear}
use Rattle.sm_kinds.specs.Literals.{IsLiteral, beyond}
use Rattle.sm_kinds.specs.Packing.{IsCapacity, IsPacking}
use Rattle.sm_kinds.specs.Tasks.{AreTasks}
use Rattle.sm_kinds.specs.Vars.{IsDiscrete}
use Rattle.sm_flat.specs.declared.tags.Tags.{Tags}
use Rattle.sm_flat.specs.declared.form.Form.{Form}
use Rattle.sm_flat.specs.declared.form.Form.TheVariants as form
use Rattle.sm_flat.specs.Forms.{IsForm, IsConstraint}
use Rattle.sm_data.specs.declared.refusal.Counted.TheVariants as counted
use Rattle.sm_clausify.specs.Propositions as prop
use Rattle.sm_clausify.specs.Propositions.{Proposition, Propositions, no_parts, part, EachLiteral, EachLiteralOfAll}
use Rattle.sm_clausify.specs.Clauses.{signed}
use Rattle.sm_forms.specs.Meanings.{Meaning, coefficient_above, constant_of}
use Rattle.sm_syntax.specs.Trees.{Constraint, Tag}
use Rattle.sm_meaning.specs.Refusals.{number_over}
use Rattle.sm_meaning.specs.Trials.{◌▸◌, tried}
use Rattle.sm_meaning.specs.Scopes.{Tuple}
use Rattle.sm_meaning.specs.Tags.{tags_tried}
use Rattle.sm_meaning.specs.Demands.{Demand, row, formula, row_when, kind}
use Rattle.sm_meaning.specs.DemandTrials.{demand_tried}
use Rattle.sm_meaning.specs.Expansions.{Post, Expansion, vars_of, scope_of, post_at}
use Rattle.sm_meaning.specs.Limits.{literal_bounds, all_literal_bounds, task_bounds, kind_bounds, entry_numbers, kind_entries, coefficients_tried, count_tried, term_count, tables_tried, kind_terms_tried, horizon_of, tasks_limits_tried, numbers_tried, kind_limits_tried, post_limits_tried}
use Rattle.sm_meaning.specs.Models.{post_tried}
use Rattle.sm_flattening.specs.Flattening.{row_of, form_of, constraint_of}
use Rattle.sm_flattening.specs.Regularity.{HasDiscreteLiterals}
use Rattle.sm_flattening.proofs.Lists.{all_map, All-parts, All-each}
use Rattle.sm_flattening.proofs.Reached.{Reaches, both, each_all, none_over, number_within, numbers_within, count_within}
use Rattle.sm_flattening.proofs.Formulas.{clauses_each}
use Rattle.sm_flattening.proofs.Counts.{terms_count}
use Rattle.sm_flattening.proofs.MeaningTerms.{terms_sum}
use Rattle.sm_flattening.proofs.Tasks.{HasTaskParts, task_fits, tasks_near}
use Rattle.sm_flattening.proofs.Parts.{HasElementParts, HasChoiceParts, HasPackingParts, HasKindParts, HasParts, demand_parts}
use Rattle.sm_flattening.proofs.PostLimits.{IsWithin, post_within}

-- ---- literals

beyond_small : (t : Test) (z : ℤ) → IsSmall z → unsigned_abs (beyond t z) ≤ greatest_clause_bound
beyond_small AtMost z h = omega (arith, ints)
beyond_small AtLeast z h = omega (arith, ints)
beyond_small Equal z h = omega arith
beyond_small Unequal z h = omega arith

module _ (vars : List Var) where
  -- a literal of a formula, or its complement, stands in a clause
  signed_fits : (negated : Bool) (l : Literal) → IsLiteral vars greatest_number l → IsLiteral vars greatest_clause_bound (signed negated l)
  signed_fits true l h = record { discrete = h.discrete; small = beyond_small l.test l.bound h.small }
  signed_fits false l h = record { discrete = h.discrete; small = omega (arith, h.small) }

  mutual
    literals_fit : (q : Proposition) → EachLiteral (λ (l : Literal). IsDiscrete vars l.var) q → All IsSmall (literal_bounds q) → EachLiteral (IsLiteral vars greatest_number) q
    literals_fit (prop.literal l) h small = record { discrete = h; small = All-head IsSmall l.bound [] small }
    literals_fit (prop.negation q) h small = literals_fit q h small
    literals_fit (prop.conjunction qs) h small = all_literals_fit qs h small
    literals_fit (prop.disjunction qs) h small = all_literals_fit qs h small

    all_literals_fit : (qs : Propositions) → EachLiteralOfAll (λ (l : Literal). IsDiscrete vars l.var) qs → All IsSmall (all_literal_bounds qs) → EachLiteralOfAll (IsLiteral vars greatest_number) qs
    all_literals_fit no_parts h small = tt
    all_literals_fit (part q qs) h small =
        let r = All-parts IsSmall (literal_bounds q) (all_literal_bounds qs) small in (literals_fit q h.0 r.0, all_literals_fit qs h.1 r.1)

  conditions_fit : (ls : List Literal) → All (λ (l : Literal). IsDiscrete vars l.var) ls → All IsSmall (map (λ (l : Literal). l.bound) ls) → All (IsLiteral vars greatest_number) ls
  conditions_fit ls h small =
      let each = (all_map IsSmall (λ (l : Literal). l.bound) ls).1 small in
      λ k d lt. record { discrete = h k d lt; small = each k d lt }

  -- ---- rows

  negated_small : (z : ℤ) → IsSmall z → IsSmall (neg_ℤ z)
  negated_small z h = omega (arith, ints)

  row_fits : (c : Cmp) (g : Meaning) → Reaches (coefficients_tried (length vars) g) → Reaches (count_tried counted.Terms most_terms (term_count (length vars) g)) → IsSmall (constant_of g)
      → IsLinear vars (row_of (length vars) c g)
  row_fits c g coefficients terms constant =
      let few = count_within counted.Terms most_terms (term_count (length vars) g) terms in
      record {
        sum = terms_sum vars g (none_over counted.Coefficient greatest_number (coefficient_above greatest_number (length vars) g) coefficients);
        few = omega (arith, few, terms_count (length vars) g);
        bound = negated_small (constant_of g) constant;
      }

  -- ---- kinds

  entry_fits : (x : Entry) → EachEntryVar (IsDiscrete vars) x → All IsSmall (entry_numbers x) → IsEntry vars x
  entry_fits (Number z) h small = All-head IsSmall z [] small
  entry_fits (Variable v) h small = h

  element_fits : (x : ℕ) (entries : List Entry) (z : ℕ) → HasElementParts vars x entries z → All IsSmall (flat_map entry_numbers entries)
      → Reaches (count_tried counted.Terms most_members (length entries)) → IsElement vars x entries z
  element_fits x entries z h small few =
      let each = All-each IsSmall entry_numbers entries small in
      record {
        index = h.index;
        few = count_within counted.Terms most_members (length entries) few;
        each = λ k d lt. entry_fits (get_or entries k d) (h.each k d lt) (each k d lt);
        value = h.value;
      }

  choice_fits : (c : Choice) → HasChoiceParts vars c → All IsSmall (flat_map (λ (p : ℕ × List ℤ). p.1) c.picks)
      → Reaches (count_tried counted.Terms most_terms (length c.picks) ▸ tables_tried c.picks) → IsChoice vars c
  choice_fits c h small few =
      let r = both (count_tried counted.Terms most_terms (length c.picks)) (tables_tried c.picks) few in
      let table = λ (p : ℕ × List ℤ). count_tried counted.Terms most_members (length p.1) in
      let members = each_all (λ p. length p.1 ≤ most_members) table (λ p. count_within counted.Terms most_members (length p.1)) c.picks r.1 in
      let each = All-each IsSmall (λ (p : ℕ × List ℤ). p.1) c.picks small in
      record {
        few = count_within counted.Terms most_terms (length c.picks) r.0;
        each = λ k d lt. record { variable = h.each k d lt; few = members k d lt; small = each k d lt };
        value = h.value;
      }

  tasks_fit : (ts : List Task) → All (HasTaskParts vars) ts → All IsSmall (flat_map task_bounds ts) → Reaches (tasks_limits_tried vars ts) → AreTasks vars ts
  tasks_fit ts h small limits =
      let r = both (count_tried counted.Tasks most_tasks (length ts)) (tried (number_over counted.Horizon most_horizon (horizon_of vars ts))) limits in
      let each = All-each IsSmall task_bounds ts small in
      record {
        few = count_within counted.Tasks most_tasks (length ts) r.0;
        each = λ k d lt. task_fits vars (get_or ts k d) (h k d lt) (each k d lt);
        near = tasks_near vars ts (number_within counted.Horizon most_horizon (horizon_of vars ts) r.1);
      }

  capacity_fits : (n : ℤ) → pos 0 ≤ℤ n → unsigned_abs n ≤ most_capacity → IsCapacity n
  capacity_fits n low high = (low, omega (arith, ints))

  -- Sizes and capacities are the bounds of a packing, and costs its entries: each list of them is one of the two, cut where it
  -- begins. How many items and groups there are, and the capacities once more, are tried one after another.
  packing_fits : (p : Packing) → HasPackingParts vars p → All IsSmall (kind_bounds (form.Packing p)) → All IsSmall (kind_entries (form.Packing p))
      → Reaches (kind_limits_tried vars (form.Packing p)) → IsPacking vars p
  packing_fits p h bounds entries limits =
      let size = λ (i : Item). i.size in
      let costs = λ (i : Item). i.costs in
      let items_tried = count_tried counted.Items most_items (length p.items) in
      let groups_tried = count_tried counted.Groups most_groups (length p.capacities) in
      let capacities_tried = numbers_tried counted.Capacity most_capacity p.capacities in
      let r = both items_tried (groups_tried ▸ capacities_tried) limits in
      let q = both groups_tried capacities_tried r.1 in
      let within = numbers_within counted.Capacity most_capacity p.capacities q.1 in
      let sizes = (all_map IsSmall size p.items).1 (All-parts IsSmall p.capacities (map size p.items) bounds).1 in
      let numbers = All-parts IsSmall p.opening (flat_map costs p.items) entries in
      let each = All-each IsSmall costs p.items numbers.1 in
      record {
        value = h.value;
        groups = count_within counted.Groups most_groups (length p.capacities) q.0;
        capacities = λ k d lt. capacity_fits (get_or p.capacities k d) (h.capacities k d lt) (within k d lt);
        opened = h.opened;
        opening = λ k d lt. record { least = h.opening k d lt; small = numbers.0 k d lt };
        few = count_within counted.Items most_items (length p.items) r.0;
        each = λ k d lt. let i = h.each k d lt in
            record { group = i.group; size = record { least = i.size; small = sizes k d lt }; costs = i.costs; small = each k d lt };
      }

  -- each kind takes what is tried of it: its bounds, its entries, its lists, or its tasks and items
  kind_fits : (f : Form) → HasKindParts vars f → All IsSmall (kind_bounds f) → All IsSmall (kind_entries f) → Reaches (kind_terms_tried f) → Reaches (kind_limits_tried vars f) → IsForm vars f
  kind_fits (form.Linear r) h bounds entries terms limits = absurd h
  kind_fits (form.Logic clauses) h bounds entries terms limits = absurd h
  kind_fits (form.When literals r) h bounds entries terms limits = absurd h
  kind_fits (form.Alldiff positions) h bounds entries terms limits = record { few = count_within counted.Terms most_terms (length positions) terms; each = h }
  kind_fits (form.Element x xs z) h bounds entries terms limits = element_fits x xs z h entries terms
  kind_fits (form.IndexSum c) h bounds entries terms limits = choice_fits c h entries terms
  kind_fits (form.Cumulative capacity tasks) h bounds entries terms limits = record {
    room = record { least = h.room; small = All-head IsSmall capacity (flat_map task_bounds tasks) bounds };
    fit = tasks_fit tasks h.each (All-tail IsSmall capacity (flat_map task_bounds tasks) bounds) limits;
  }
  kind_fits (form.Disjunctive tasks) h bounds entries terms limits = record { fit = tasks_fit tasks h.each bounds limits; demands = h.demands }
  kind_fits (form.Packing p) h bounds entries terms limits = packing_fits p h bounds entries limits
  kind_fits (form.Circuit successors) h bounds entries terms limits = record { few = count_within counted.Terms most_terms (length successors) terms; each = h }
  kind_fits (form.Assign c) h bounds entries terms limits = choice_fits c h entries terms

-- ---- constraints

-- what the trials of its parts say, and the limits, together
demand_fits : (e : Expansion) (d : Demand) (t : Tags) → HasParts (vars_of e) d → IsWithin e (record { demand = d; tags = t }) → IsForm (vars_of e) (form_of (length (vars_of e)) d)
demand_fits e (row c g) t h w = row_fits (vars_of e) c g w.coefficients w.terms (All-head IsSmall (constant_of g) [] w.bounds)
demand_fits e (formula q) t h w = record {
  few = w.clauses;
  each = clauses_each (IsLiteral (vars_of e) greatest_number) (IsLiteral (vars_of e) greatest_clause_bound) (signed_fits (vars_of e)) q false (literals_fit (vars_of e) q h w.bounds);
}
demand_fits e (row_when ls c g) t h w =
    let r = All-parts IsSmall (map (λ (l : Literal). l.bound) ls) (constant_of g ∷ []) w.bounds in
    record {
      conditions = conditions_fit (vars_of e) ls h r.0;
      fits = row_fits (vars_of e) c g w.coefficients w.terms (All-head IsSmall (constant_of g) [] r.1);
    }
demand_fits e (kind f) t h w = kind_fits (vars_of e) f h w.bounds w.entries w.terms w.groups

-- a formula's literals are of variables with whole values
discrete_parts : (vars : List Var) (d : Demand) → HasParts vars d → HasDiscreteLiterals vars d
discrete_parts vars (row c g) h = tt
discrete_parts vars (formula q) h = h
discrete_parts vars (row_when ls c g) h = tt
discrete_parts vars (kind f) h = tt

-- the post fits the variables, and is within all limits behind those that there are
pub record PostFits (e : Expansion) (p : Post) : Type 0 where
  pub constraint : IsConstraint (vars_of e) (constraint_of (length (vars_of e)) p)
  pub discrete : HasDiscreteLiterals (vars_of e) p.demand
  pub within : IsWithin e p

pub post_fits : (e : Expansion) (c : Constraint) (ts : List Tag) (b : Tuple) → Reaches (post_tried c ts e b) → PostFits e (post_at c ts (scope_of e) b)
post_fits e c ts b h =
    let s = scope_of e in
    let p = post_at c ts s b in
    let tags = tags_tried s b [] ts in
    let r = both (demand_tried c s b) (tags ▸ post_limits_tried e p) h in
    let within = post_within e p (both tags (post_limits_tried e p) r.1).1 in
    let parts = demand_parts (vars_of e) s refl c b r.0 in
    record {
      constraint = record { fits = demand_fits e p.demand p.tags parts within; tagged = within.tags };
      discrete = discrete_parts (vars_of e) p.demand parts;
      within = within;
    }

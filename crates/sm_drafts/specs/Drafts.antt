-- Which demand a draft is of, and what a test of limits answers.
use Rattle.std.specs.Prelude.{◌≡◌, ◌≤◌, ◌+◌, ℕ, ℤ, List, length, Result, unsigned_abs}
use Rattle.sm_kinds.specs.declared.choice.Choice.{Choice}
use Rattle.sm_kinds.specs.declared.var.Var.{Var}
use Rattle.sm_kinds.specs.Limits.{greatest_number, most_constraints, most_real_rows, most_terms, most_items, most_groups, most_capacity}
use Rattle.sm_kinds.specs.declared.packing.Packing.{Packing}
use Rattle.sm_flat.specs.declared.form.Form.{Form}
use Rattle.sm_flat.specs.declared.tags.Tags.{Tags}
use Rattle.sm_data.specs.declared.refusal.Counted.TheVariants as counted
use Rattle.sm_forms.specs.Forms.{IsFormOf}
use Rattle.sm_clausify.specs.Propositions.{meaning, EachLiteral, HasSmallBound}
use Rattle.sm_meaning.specs.declared.refusal.ExpandRefusal.{ExpandRefusal}
use Rattle.sm_meaning.specs.Trials.{Trial, tried, ◌▸◌, GoesThrough}
use Rattle.sm_meaning.specs.Refusals.{number_over}
use Rattle.sm_meaning.specs.Limits.{bounds_of, entries_of, row_coefficients_tried, terms_tried, numbers_tried, count_tried, tables_tried, kind_limits_tried, tag_limits_tried}
use Rattle.sm_meaning.specs.Demands.{Demand, row, formula, row_when, kind}
use Rattle.sm_flattening.specs.Flattening.{form_of}
use Rattle.sm_flattening.specs.Regularity.{HasFewClauses}
use Rattle.sm_drafts.specs.declared.draft.Draft.{Draft}
use Rattle.sm_drafts.specs.declared.draft.Draft.TheVariants as draft

-- the draft is of this demand on n variables
abbrev pub IsDraftOf : ℕ → Demand → Draft → Type 0
IsDraftOf n (row c g) (draft.Row d f) = (c ≡ d) × IsFormOf n g f
IsDraftOf n (formula q) (draft.Formula f) = q ≡ meaning f
IsDraftOf n (row_when ls c g) (draft.RowWhen ms d f) = (ls ≡ ms) × (c ≡ d) × IsFormOf n g f
IsDraftOf n (kind k) (draft.Kind f) = k ≡ f
IsDraftOf n _ _ = ⊥

-- A part of the text is gone through, or it is refused, and no tuple is visited.
abbrev pub Passes : Trial → Result (Unit {0}) ExpandRefusal → Type 0
Passes part r = (count : ℕ) → GoesThrough part count count (λ _. Unit {0}) r

abbrev pub bound_tried : ℤ → Trial
bound_tried z = tried (number_over counted.Bound greatest_number z)

abbrev pub bounds_tried : List ℤ → Trial
bounds_tried zs = numbers_tried counted.Bound greatest_number zs

abbrev pub entry_tried : ℤ → Trial
entry_tried z = tried (number_over counted.Entry greatest_number z)

abbrev pub entries_tried : List ℤ → Trial
entries_tried zs = numbers_tried counted.Entry greatest_number zs

-- how many variables choose, and how many members their tables have
abbrev pub choice_terms_tried : Choice → Trial
choice_terms_tried c = count_tried counted.Terms most_terms (length c.picks) ▸ tables_tried c.picks

-- how many items and groups, and the capacities
abbrev pub packing_limits_tried : Packing → Trial
packing_limits_tried p =
    count_tried counted.Items most_items (length p.items)
    ▸ count_tried counted.Groups most_groups (length p.capacities)
    ▸ numbers_tried counted.Capacity most_capacity p.capacities

-- the numbers of one more constraint, the count of constraints so far with it, and its terms
abbrev pub front_tried : ℕ → Demand → ℕ → Trial
front_tried n d constraints =
    row_coefficients_tried n d
    ▸ bounds_tried (bounds_of d)
    ▸ entries_tried (entries_of d)
    ▸ count_tried counted.Constraints most_constraints (constraints + 1)
    ▸ terms_tried n d

-- tasks, items and groups, rows with a real variable, and the numbers of tags
abbrev pub rest_tried : List Var → Form → ℕ → Tags → Trial
rest_tried vars f rows t = kind_limits_tried vars f ▸ count_tried counted.Realrows most_real_rows rows ▸ tag_limits_tried t

-- the numbers by which a draft is turned into its flat form are small
abbrev pub HasSmallNumbers : Draft → Type 0
HasSmallNumbers (draft.Row c f) = unsigned_abs f.constant ≤ greatest_number
HasSmallNumbers (draft.Formula f) = EachLiteral HasSmallBound (meaning f)
HasSmallNumbers (draft.RowWhen ls c f) = unsigned_abs f.constant ≤ greatest_number
HasSmallNumbers (draft.Kind f) = Unit {0}

-- the demand's flat form, with no more clauses than the limit
pub record IsFlatForm (n : ℕ) (d : Demand) (f : Form) : Type 0 where
  pub form : f ≡ form_of n d
  pub few : HasFewClauses d

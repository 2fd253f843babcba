-- Linked variables: those that have a column for each of their values.
use Rattle.std.specs.Prelude.{ℕ, ◌==◌, List, length, ℤ, Bool, true, false, ◌&&◌, ◌||◌, nat_le, nat_lt, Option, Some, None, IsTrue}
use Rattle.std.specs.List.{list_any}
use Rattle.sm_kinds.specs.declared.var.VarKind.{VarKind}
use Rattle.sm_kinds.specs.declared.var.VarKind.TheVariants.{Set, Int, Real}
use Rattle.sm_kinds.specs.declared.literal.Literal.{Literal}
use Rattle.sm_kinds.specs.declared.linear.LinRow.{LinRow}
use Rattle.sm_kinds.specs.declared.logic.Clause.{Clause}
use Rattle.sm_kinds.specs.declared.element.Entry.{Entry}
use Rattle.sm_kinds.specs.declared.element.Entry.TheVariants.{Number, Variable}
use Rattle.sm_kinds.specs.declared.choice.Choice.{Choice}
use Rattle.sm_kinds.specs.declared.tasks.Task.{Task}
use Rattle.sm_kinds.specs.declared.packing.Item.{Item}
use Rattle.sm_kinds.specs.declared.packing.Packing.{Packing}
use Rattle.sm_kinds.specs.Vars.{var_at}
use Rattle.sm_flat.specs.declared.form.Constraint.{Constraint}
use Rattle.sm_flat.specs.declared.form.Form.{Form}
use Rattle.sm_flat.specs.declared.form.Form.TheVariants as form
use Rattle.sm_flat.specs.Models.{FlatModel}

-- ---- the variable stands in a part of a constraint

abbrev pub in_positions : ℕ → List ℕ → Bool
in_positions v positions = list_any (λ (p : ℕ). p == v) positions

abbrev pub in_literals : ℕ → List Literal → Bool
in_literals v literals = list_any (λ (l : Literal). l.var == v) literals

abbrev pub in_clauses : ℕ → List Clause → Bool
in_clauses v clauses = list_any (λ (c : Clause). in_literals v c.literals) clauses

abbrev pub in_row : ℕ → LinRow → Bool
in_row v row = list_any (λ (t : ℕ × ℤ). t.0 == v) row.terms

abbrev pub is_entry_of : ℕ → Entry → Bool
is_entry_of v (Number k) = false
is_entry_of v (Variable w) = w == v

abbrev pub in_entries : ℕ → List Entry → Bool
in_entries v entries = list_any (λ (e : Entry). is_entry_of v e) entries

abbrev pub in_element : ℕ → ℕ → List Entry → ℕ → Bool
in_element v x entries z = (x == v) || ((z == v) || in_entries v entries)

abbrev pub in_picks : ℕ → List (ℕ × List ℤ) → Bool
in_picks v picks = list_any (λ (p : ℕ × List ℤ). p.0 == v) picks

abbrev pub in_choice : ℕ → Choice → Bool
in_choice v c = (c.z == v) || in_picks v c.picks

abbrev pub is_presence_of : ℕ → Option Literal → Bool
is_presence_of v None = false
is_presence_of v (Some l) = l.var == v

abbrev pub in_tasks : ℕ → List Task → Bool
in_tasks v tasks = list_any (λ (t : Task). (t.start == v) || is_presence_of v t.present) tasks

abbrev pub in_items : ℕ → List Item → Bool
in_items v items = list_any (λ (i : Item). i.group == v) items

abbrev pub in_packing : ℕ → Packing → Bool
in_packing v p = (p.z == v) || in_items v p.items

-- the variable stands in a constraint that isn't linear
abbrev pub is_in_unlinear : ℕ → Form → Bool
is_in_unlinear v (form.Linear row) = false
is_in_unlinear v (form.Logic clauses) = in_clauses v clauses
is_in_unlinear v (form.When literals row) = in_literals v literals || in_row v row
is_in_unlinear v (form.Alldiff positions) = in_positions v positions
is_in_unlinear v (form.Element x entries z) = in_element v x entries z
is_in_unlinear v (form.IndexSum choice) = in_choice v choice
is_in_unlinear v (form.Cumulative capacity tasks) = in_tasks v tasks
is_in_unlinear v (form.Disjunctive tasks) = in_tasks v tasks
is_in_unlinear v (form.Packing packing) = in_packing v packing
is_in_unlinear v (form.Circuit successors) = in_positions v successors
is_in_unlinear v (form.Assign choice) = in_choice v choice

-- ---- linked variables

abbrev pub is_listed_kind : VarKind → Bool
is_listed_kind Set = true
is_listed_kind Int = false
is_listed_kind Real = false

-- the most declared values of a linked variable
abbrev pub most_linked : ℕ
most_linked = 64

-- the constraint isn't linear, has rows in the relaxation, and has the variable
abbrev pub links : ℕ → Constraint → Bool
links v c = c.tags.relax && is_in_unlinear v c.form

abbrev pub some_links : ℕ → List Constraint → Bool
some_links v constraints = list_any (λ (c : Constraint). links v c) constraints

-- the variable is a set of at most 64 values, and stands in a constraint that links
abbrev pub is_linked : FlatModel → ℕ → Bool
is_linked m v = nat_lt v (length m.vars) && (is_listed_kind (var_at m.vars v).kind && (nat_le (length (var_at m.vars v).values) most_linked && some_links v m.constraints))

abbrev pub IsLinked : FlatModel → ℕ → Type 0
IsLinked m v = IsTrue (is_linked m v)

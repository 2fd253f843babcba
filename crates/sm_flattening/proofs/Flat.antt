-- The flat parts of an expansion are a flat model, with the goals of a text that isn't refused.
use Rattle.std.proofs.Common.{◌≡◌, ap, sym, List, map, length}
use Rattle.sm_kinds.specs.declared.var.Var.{Var}
use Rattle.sm_flat.specs.declared.goal.Goal.{Goal}
use Rattle.sm_flat.specs.Limits.{IsFlat}
use Rattle.sm_flat.specs.Models.{FlatModel}
use Rattle.sm_data.specs.Documents.{Entry}
use Rattle.sm_syntax.specs.Trees as tree
use Rattle.sm_syntax.specs.Trees.{Tree}
use Rattle.sm_meaning.specs.Trials.{◌▸◌}
use Rattle.sm_meaning.specs.Expansions.{Expansion, beginning, scope_of}
use Rattle.sm_meaning.specs.Goals.{goal_worths, senses_of, goal_tried}
use Rattle.sm_meaning.specs.Models.{expansion_of, worths_of, listing_of, with_items, items_tried, tree_tried, benders_tried}
use Rattle.sm_flattening.specs.Flattening.{goal_numbers, meaning_numbers}
use Rattle.sm_flattening.specs.FlatParts.{AreFlatParts}
use Rattle.sm_flattening.proofs.Aims.{goals_fit}
use Rattle.sm_flattening.proofs.Reached.{Reaches, both}

pub flat_model : (e : Expansion) (goal : tree.Goal) (m : FlatModel) → Reaches (goal_tried (scope_of e) goal) → AreFlatParts e m.vars m.constraints
    → map goal_numbers m.goals ≡ map (meaning_numbers (length m.vars)) (goal_worths (scope_of e) goal) → map (λ (g : Goal). g.sense) m.goals ≡ senses_of goal → IsFlat m
flat_model e goal m h parts numbers senses = record {
  vars = parts.domains;
  constraints = parts.fitting;
  goals = goals_fit m.vars (scope_of e) (ap (λ vs. map (λ (v : Var). v.kind) vs) (sym parts.flattened.variables)) parts.domains.few goal m.goals h numbers senses;
}

pub flat_text : (t : Tree) (tables : List Entry) (m : FlatModel) → Reaches (tree_tried t tables) → AreFlatParts (expansion_of t tables) m.vars m.constraints
    → map goal_numbers m.goals ≡ map (meaning_numbers (length m.vars)) (worths_of t tables) → map (λ (g : Goal). g.sense) m.goals ≡ (listing_of t tables).senses → IsFlat m
flat_text (tree.tree p items goal) tables m h =
    let e = with_items items (beginning tables) in
    let goals = goal_tried (scope_of e) goal in
    let benders = benders_tried e.posts 0 e.variables in
    let behind = both (items_tried items (beginning tables)) (goals ▸ benders) h in
    flat_model e goal m (both goals benders behind.1).0

-- The whole of a text: what is made of it is its flat model, and what stops it is its first refusal.
use Rattle.std.proofs.Common.{◌≡◌, ◌∙◌, ap, sym, refl, subst, ℕ, List, map, length}
use Rattle.std.proofs.lemmas.List.{length-map}
use Rattle.std.specs.Prelude.{All, None, Err}
use Rattle.sm_kinds.specs.declared.var.Var.{Var}
use Rattle.sm_flat.specs.declared.goal.Goal.{Goal as FlatGoal}
use Rattle.sm_flat.specs.Limits.{IsFlat}
use Rattle.sm_flat.specs.Models.{FlatModel}
use Rattle.sm_data.specs.Documents.{Entry}
use Rattle.sm_syntax.specs.declared.place.Place.{Place}
use Rattle.sm_syntax.specs.Trees.{Tree, tree, Item, Goal}
use Rattle.sm_meaning.specs.declared.refusal.ExpandRefusal.{ExpandRefusal}
use Rattle.sm_meaning.specs.declared.refusal.ExpandRefusal.TheVariants as refusal
use Rattle.sm_meaning.specs.Scopes.{count_of}
use Rattle.sm_meaning.specs.Trials.{reached, refusal_of, IsStopped}
use Rattle.sm_meaning.specs.Expansions.{Expansion, beginning, vars_of, scope_of}
use Rattle.sm_meaning.specs.Goals.{goal_worths}
use Rattle.sm_meaning.specs.Models.{with_items, refusal_in, tree_tried}
use Rattle.sm_flattening.specs.Flattening.{goal_numbers, meaning_numbers}
use Rattle.sm_flattening.specs.Regularity.{IsAffine}
use Rattle.sm_flattening.proofs.Flat.{flat_text}
use Rattle.sm_flattening.proofs.Reached.{reaches}
use Rattle.sm_goals.specs.Goals.{AreGoalsOf}
use Rattle.sm_declarations.specs.declared.making.Making.{Making}
use Rattle.sm_declarations.specs.Making.{IsMakingOf}
use Rattle.sm_expand.specs.Expanding.{IsFlatOf, ComesTo, IsMadeOf}

-- what is made of a text, with its goals, keeps all limits
pub made_flat : (t : Tree) (tables : List Entry) (m : Making) (goals : List FlatGoal) (after : ℕ) → tree_tried t tables 0 ≡ reached after → IsMadeOf t tables m goals
    → IsFlat (record { vars = m.vars.items; constraints = m.constraints.items; goals = goals })
made_flat t tables m goals after goes made =
    flat_text t tables (record { vars = m.vars.items; constraints = m.constraints.items; goals = goals }) (reaches (tree_tried t tables) 0 after goes) made.making.parts made.numbers made.senses

pub comes : (t : Tree) (tables : List Entry) (m : Making) (goals : List FlatGoal) (after : ℕ) → tree_tried t tables 0 ≡ reached after → IsMadeOf t tables m goals
    → (refusal_in t tables ≡ None) × IsFlatOf t tables (record { vars = m.vars.items; constraints = m.constraints.items; goals = goals })
comes t tables m goals after goes made =
    (ap refusal_of goes, record { parts = made.making.parts.flattened; goals = made.numbers; senses = made.senses; affine = made.affine })

pub stopped_comes : (t : Tree) (tables : List Entry) (e : ExpandRefusal) → IsStopped e (tree_tried t tables 0) → ComesTo t tables (Err e)
stopped_comes t tables refusal.OutOfMemory h = tt
stopped_comes t tables (refusal.Meaning line column what) h = ap refusal_of h
stopped_comes t tables (refusal.Limit what found bound) h = ap refusal_of h

-- there are as many variables as the scope says
pub count_same : (e : Expansion) (m : Making) → IsMakingOf e m → count_of (scope_of e) ≡ length m.vars.items
count_same e m h = length-map (vars_of e) (λ (v : Var). v.kind) ∙ sym (ap length h.parts.flattened.variables)

-- all of the text is made of what its items come to and of its goals
pub made_of : (p : Place) (items : List Item) (g : Goal) (tables : List Entry) (m : Making) (goals : List FlatGoal) → IsMakingOf (with_items items (beginning tables)) m
    → AreGoalsOf (scope_of (with_items items (beginning tables))) g goals → IsMadeOf (tree p items g) tables m goals
made_of p items g tables m goals making are =
    let e = with_items items (beginning tables) in
    let n : count_of (scope_of e) ≡ length m.vars.items = count_same e m making in
    record {
      making = making;
      numbers = subst (λ (k : ℕ). map goal_numbers goals ≡ map (meaning_numbers k) (goal_worths (scope_of e) g)) n are.numbers;
      senses = are.senses;
      affine = subst (λ (k : ℕ). All (IsAffine k) (goal_worths (scope_of e) g)) n are.affine;
    }

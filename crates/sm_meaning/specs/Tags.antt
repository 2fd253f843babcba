-- The tags of a constraint: what they say, with the defaults, and what is tried of them.
use Rattle.std.specs.Prelude.{ℕ, List, [], ◌∷◌, ◌==◌, Bool, true, false, unsigned_abs, Some, None}
use Rattle.std.specs.List.{list_any}
use Rattle.sm_flat.specs.declared.tags.Tags.{Tags}
use Rattle.sm_flat.specs.declared.tags.Level.{Level as Inference}
use Rattle.sm_flat.specs.declared.tags.Level.TheVariants as inference
use Rattle.sm_flat.specs.declared.tags.PickBy.{PickBy}
use Rattle.sm_flat.specs.declared.tags.PickBy.TheVariants as pick_by
use Rattle.sm_flat.specs.declared.tags.SplitBy.{SplitBy}
use Rattle.sm_flat.specs.declared.tags.SplitBy.TheVariants as split_by
use Rattle.sm_syntax.specs.declared.place.Place.{Place}
use Rattle.sm_syntax.specs.declared.tree.Level.{Level}
use Rattle.sm_syntax.specs.declared.tree.Level.TheVariants as level
use Rattle.sm_syntax.specs.declared.tree.Relaxing.{Relaxing}
use Rattle.sm_syntax.specs.declared.tree.Relaxing.TheVariants as relaxing
use Rattle.sm_syntax.specs.declared.tree.Picking.{Picking}
use Rattle.sm_syntax.specs.declared.tree.Picking.TheVariants as picking
use Rattle.sm_syntax.specs.declared.tree.Splitting.{Splitting}
use Rattle.sm_syntax.specs.declared.tree.Splitting.TheVariants as splitting
use Rattle.sm_syntax.specs.Trees.{Tag, infer, relax, branch, pick, split, sub}
use Rattle.sm_meaning.specs.declared.refusal.Wrong.TheVariants.{Doubled}
use Rattle.sm_meaning.specs.Refusals.{wrong_if}
use Rattle.sm_meaning.specs.Trials.{Trial, ◌▸◌, nothing_tried, tried}
use Rattle.sm_meaning.specs.Scopes.{Tuple, Scope}
use Rattle.sm_meaning.specs.Cases.{number_of, amount_tried}

-- ---- what they say

-- without a tag
abbrev pub default_tags : Tags
default_tags = record { infer = inference.Full; relax = true; branch = 100; pick = pick_by.Small; split = split_by.Half; sub = None }

abbrev pub inference_of : Level → Inference
inference_of level.None = inference.Nothing
inference_of level.Bounds = inference.Bounds
inference_of level.Full = inference.Full

abbrev pub is_on : Relaxing → Bool
is_on relaxing.On = true
is_on relaxing.None = false

abbrev pub pick_of : Picking → PickBy
pick_of picking.First = pick_by.First
pick_of picking.Small = pick_by.Small
pick_of picking.Point = pick_by.Point

abbrev pub split_of : Splitting → SplitBy
split_of splitting.Half = split_by.Half
split_of splitting.Least = split_by.Least
split_of splitting.Most = split_by.Most

abbrev pub with_tag : Scope → Tuple → Tag → Tags → Tags
with_tag s b (infer p l) t = record t { infer = inference_of l }
with_tag s b (relax p r) t = record t { relax = is_on r }
with_tag s b (branch p n) t = record t { branch = n.value }
with_tag s b (pick p k) t = record t { pick = pick_of k }
with_tag s b (split p k) t = record t { split = split_of k }
with_tag s b (sub p x) t = record t { sub = Some (unsigned_abs (number_of s x b)) }

abbrev pub with_tags : Scope → Tuple → List Tag → Tags → Tags
with_tags s b [] t = t
with_tags s b (x ∷ xs) t = with_tags s b xs (with_tag s b x t)

abbrev pub tags_at : Scope → Tuple → List Tag → Tags
tags_at s b ts = with_tags s b ts default_tags

-- ---- what is tried of them

-- each word of a tag has a number of its own
abbrev pub word_of : Tag → ℕ
word_of (infer p l) = 0
word_of (relax p r) = 1
word_of (branch p n) = 2
word_of (pick p k) = 3
word_of (split p k) = 4
word_of (sub p x) = 5

abbrev pub tag_place : Tag → Place
tag_place (infer p l) = p
tag_place (relax p r) = p
tag_place (branch p n) = p
tag_place (pick p k) = p
tag_place (split p k) = p
tag_place (sub p x) = p

-- the number of a subproblem
abbrev pub tag_number_tried : Scope → Tuple → Tag → Trial
tag_number_tried s b (sub p x) = amount_tried s x b
tag_number_tried s b _ = nothing_tried

-- its number, and then that no tag before it has the word
abbrev pub tags_tried : Scope → Tuple → List ℕ → List Tag → Trial
tags_tried s b before [] = nothing_tried
tags_tried s b before (x ∷ xs) =
    tag_number_tried s b x
    ▸ tried (wrong_if (list_any (λ w. w == word_of x) before) (tag_place x) Doubled)
    ▸ tags_tried s b (word_of x ∷ before) xs

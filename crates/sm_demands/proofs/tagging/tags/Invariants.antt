use Rattle.std.proofs.Common.{map, take, drop}
use Rattle.sm_syntax.specs.Trees.{tag_of}
use Rattle.sm_drafts.specs.TagDrafts.{tags_of}
use Rattle.sm_demands.proofs.TagTrials.{TagsLeft}
use Rattle.sm_demands.proofs.tagging.tags.Given as goal

abbrev pub invariant-loop-i : goal.invariant-loop-i
invariant-loop-i l = TagsLeft l.fn.scope l.fn.cases.tuple (map tag_of l.fn.tags) l.fn.visited (take l.i l.tags) (map tag_of (drop l.i l.tags)) l.visited (tags_of l.draft)

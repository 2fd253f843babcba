-- The tags that a draft of them stands for.
use Rattle.sm_flat.specs.declared.tags.Tags.{Tags}
use Rattle.sm_drafts.specs.declared.tags.DraftTags.{DraftTags}

-- the same tags, whatever their numbers are
abbrev pub tags_of : DraftTags → Tags
tags_of t = record { infer = t.infer; relax = t.relax; branch = t.branch; pick = t.pick; split = t.split; sub = t.sub }

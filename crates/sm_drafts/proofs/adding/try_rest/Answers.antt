use Rattle.std.proofs.Common.{◌≡◌}
use Rattle.sm_kinds.specs.Limits.{most_real_rows}
use Rattle.sm_data.specs.declared.refusal.Counted.TheVariants as counted
use Rattle.sm_meaning.specs.Trials.{◌▸◌}
use Rattle.sm_meaning.specs.Limits.{count_tried, kind_limits_tried, tag_limits_tried}
use Rattle.sm_drafts.specs.TagDrafts.{tags_of}
use Rattle.sm_drafts.proofs.Parts.{passes_on}
use Rattle.sm_drafts.proofs.adding.try_rest.Goals as goal

pub returns : goal.returns
returns c = λ count.
    let rows = count_tried counted.Realrows most_real_rows c.args.real_rows in
    let drafted = tags_of c.args.tags.now in
    let tags = tag_limits_tried drafted in
    passes_on (kind_limits_tried c.args.vars.now c.args.form.now) (rows ▸ tags) count (λ t. t ≡ drafted) c.tags_within.result (c.in_ok-try_kind_limits.ensures count).0
    (passes_on rows tags count (λ t. t ≡ drafted) c.tags_within.result (c.in_ok-try_count.ensures count).0 (c.tags_within.ensures count))

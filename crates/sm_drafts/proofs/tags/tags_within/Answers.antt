use Rattle.std.proofs.Common.{◌≡◌, ◌∙◌, ap, sym, pos, refl}
use Rattle.std.proofs.lemmas.Result.{err_from_is_err_and}
use Rattle.sm_kinds.specs.Limits.{greatest_branch}
use Rattle.sm_data.specs.declared.refusal.Counted.TheVariants as counted
use Rattle.sm_flat.specs.declared.tags.Tags.{Tags}
use Rattle.sm_meaning.specs.Refusals.{number_over}
use Rattle.sm_meaning.specs.Trials.{Trial, tried}
use Rattle.sm_meaning.specs.Limits.{sub_tried}
use Rattle.sm_meaning.proofs.Steps.{stops, stops_later, goes_on}
use Rattle.sm_drafts.specs.TagDrafts.{tags_of}
use Rattle.sm_drafts.specs.declared.tags.DraftTags.{DraftTags}
use Rattle.sm_drafts.proofs.tags.tags_within.Goals as goal

abbrev branch_tried : DraftTags → Trial
branch_tried t = tried (number_over counted.Branch greatest_branch (pos t.branch))

pub returns-in_err-branch : goal.returns-in_err-branch
returns-in_err-branch c =
    let p = err_from_is_err_and c.from_residual.result c.from_residual.ensures.1 in
    let t = c.args.draft.now in
    rw (p.1, p.2) (λ count. stops c.in_err-branch.field-0.0 (branch_tried t) (sub_tried t.sub) count (c.in_err-branch.ensures count))

pub returns-in_err-sub : goal.returns-in_err-sub
returns-in_err-sub c =
    let p = err_from_is_err_and c.from_residual-in_err-sub.result c.from_residual-in_err-sub.ensures.1 in
    let t = c.args.draft.now in
    rw (p.1, p.2) (λ count. stops_later c.in_err-sub.field-0.0 (branch_tried t) (sub_tried t.sub) count count (c.in_ok-branch.ensures count).0 (c.in_err-sub.ensures count))

pub returns : goal.returns
returns c = λ count.
    let t = c.args.draft.now in
    let branch = (c.in_ok-branch.ensures count).1 in
    let sub = (c.in_ok-sub.ensures count).1 in (
      goes_on (branch_tried t) (sub_tried t.sub) count count (c.in_ok-branch.ensures count).0 ∙ (c.in_ok-sub.ensures count).0,
      ap (λ n. record (tags_of t) { branch = n; sub = c.in_ok-sub.sub }) branch ∙ ap (λ s. record (tags_of t) { sub = s }) sub,
    )

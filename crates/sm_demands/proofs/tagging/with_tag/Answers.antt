use Rattle.std.proofs.Common.{◌∙◌, rules, ap, sym, subst, ℕ, ℤ, Some, FitsSigned, unsigned_abs}
use Rattle.std.specs.Int.{w64}
use Rattle.std.proofs.lemmas.Int.{to_z-of_z}
use Rattle.std.proofs.lemmas.Result.{err_from_is_err_and}
use Rattle.sm_syntax.specs.Trees.{Tag, tag_of}
use Rattle.sm_flat.specs.declared.tags.Tags.{Tags}
use Rattle.sm_meaning.specs.Trials.{IsStopped}
use Rattle.sm_meaning.specs.Tags.{with_tag, tag_number_tried}
use Rattle.sm_drafts.specs.TagDrafts.{tags_of}
use Rattle.sm_demands.proofs.tagging.with_tag.Goals as goal

pub returns-in_err-number-in-Sub : goal.returns-in_err-number-in-Sub
returns-in_err-number-in-Sub c =
    let s = c.args.scope.now in
    let b = c.args.cases.now.tuple in
    let p = err_from_is_err_and c.from_residual.result c.from_residual.ensures.1 in
    rw (p.1, p.2) (subst (λ (x : Tag). IsStopped c.in_err-number-in-Sub.field-0.0 (tag_number_tried s b x c.args.visited.now)) (ap tag_of (sym c.in-Sub.is)) c.in_err-number-in-Sub.ensures)

pub returns-in_ok-number-in-Sub : goal.returns-in_ok-number-in-Sub
returns-in_ok-number-in-Sub c =
    let s = c.args.scope.now in
    let b = c.args.cases.now.tuple in
    let is = ap tag_of c.in-Sub.is in
    let n = c.in_ok-number-in-Sub.number in
    let fits : FitsSigned w64 n = search rules in
    let T : ℕ → Tags = λ n. record (tags_of c.args.tags) { sub = Some n } in (
      ap (λ (x : Tag). tag_number_tried s b x c.args.visited.now) is ∙ c.in_ok-number-in-Sub.ensures.0,
      ap T (c.unsigned_abs.ensures.value ∙ ap (λ (z : ℤ). unsigned_abs z) (to_z-of_z w64 n fits) ∙ ap unsigned_abs c.in_ok-number-in-Sub.ensures.1) ∙ sym (ap (λ (x : Tag). with_tag s b x (tags_of c.args.tags)) is),
    )

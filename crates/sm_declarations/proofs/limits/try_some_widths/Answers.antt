use Rattle.std.proofs.Common.{ap, ap₂, ℕ, pos, Ok, Err}
use Rattle.std.proofs.lemmas.Result.{err_from_is_err_and}
use Rattle.sm_kinds.specs.Limits.{most_width}
use Rattle.sm_data.specs.declared.refusal.Counted.TheVariants as counted
use Rattle.sm_syntax.specs.Trees.{values_of}
use Rattle.sm_meaning.specs.Refusals.{number_over}
use Rattle.sm_meaning.specs.Trials.{tried}
use Rattle.sm_meaning.specs.Declarations.{widths_tried, width_of, widths_of}
use Rattle.sm_drafts.proofs.Parts.{refused_first, passed_first, passes_same}
use Rattle.sm_drafts.proofs.Horizons.{number_same}
use Rattle.sm_declarations.proofs.limits.try_some_widths.Goals as goal

pub returns-in_err-try_amount : goal.returns-in_err-try_amount
returns-in_err-try_amount c =
    let p = err_from_is_err_and c.from_residual.result c.from_residual.ensures.1 in
    rw (p.1, p.2) (λ s are.
    let w = width_of s (values_of c.args.values.now) in
    refused_first c.in_err-try_amount.field-0.0 (tried (number_over counted.Width most_width (pos w))) (widths_tried c.args.members w (widths_of c.args.vars.now))
    (number_same counted.Width most_width (pos c.width_of-width.result) (pos w) (Err c.in_err-try_amount.field-0.0) (ap pos (c.width_of-width.ensures.value s are)) c.in_err-try_amount.ensures.tried))

pub returns : goal.returns
returns c = λ s are.
    let w = width_of s (values_of c.args.values.now) in
    passed_first (tried (number_over counted.Width most_width (pos w))) (widths_tried c.args.members w (widths_of c.args.vars.now)) c.try_widths.result
    (number_same counted.Width most_width (pos c.width_of-width.result) (pos w) (Ok tt) (ap pos (c.width_of-width.ensures.value s are)) c.in_ok-try_amount.ensures.tried)
    (passes_same (widths_tried c.args.members c.width_of-width.result c.widths_of.result) (widths_tried c.args.members w (widths_of c.args.vars.now)) c.try_widths.result
    (λ count. ap₂ (λ (a b : ℕ). widths_tried c.args.members a b count) (c.width_of-width.ensures.value s are) c.widths_of.ensures.value) c.try_widths.ensures)

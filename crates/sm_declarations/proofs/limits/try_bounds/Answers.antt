use Rattle.std.proofs.Common.{ℤ, slice_index_or, pos}
use Rattle.std.proofs.lemmas.Result.{err_from_is_err_and}
use Rattle.sm_drafts.specs.Drafts.{bound_tried}
use Rattle.sm_drafts.proofs.Parts.{split_at, refused_at, all_passed}
use Rattle.sm_declarations.proofs.limits.try_bounds.Goals as goal

pub returns-in_err-try_bound : goal.returns-in_err-try_bound
returns-in_err-try_bound c =
    let p = err_from_is_err_and c.from_residual.result c.from_residual.ensures.1 in
    rw (p.1, p.2) (refused_at c.in_err-try_bound.field-0.0 (λ (z : ℤ). bound_tried z) c.args.numbers.now c.loop-number.number-index (slice_index_or c.args.numbers.now c.loop-number.number-index (pos 0))
    (split_at c.args.numbers.now c.loop-number.number-index (pos 0) c.loop-number-test.true) c.loop-number.invariant c.in_err-try_bound.ensures.tried)

pub returns : goal.returns
returns c = all_passed (λ (z : ℤ). bound_tried z) c.args.numbers.now c.loop-number.number-index tt c.loop-number-test.false c.loop-number.invariant

use Rattle.std.proofs.Common.{slice_index_or, pos}
use Rattle.std.proofs.lemmas.Result.{err_from_is_err_and}
use Rattle.sm_kinds.specs.declared.literal.Literal.{Literal as Condition}
use Rattle.sm_kinds.specs.declared.literal.Test.TheVariants as test
use Rattle.sm_drafts.specs.Drafts.{bound_tried}
use Rattle.sm_drafts.proofs.Parts.{split_at, refused_at, all_passed}
use Rattle.sm_drafts.proofs.bounds.try_conditions.Goals as goal

pub returns-in_err-try_bound : goal.returns-in_err-try_bound
returns-in_err-try_bound c =
    let p = err_from_is_err_and c.from_residual.result c.from_residual.ensures.1 in
    rw (p.1, p.2) (refused_at c.in_err-try_bound.field-0.0 (λ (l : Condition). bound_tried l.bound) c.args.literals.now c.loop-literal.literal-index (slice_index_or c.args.literals.now c.loop-literal.literal-index (record { var = 0; test = test.AtMost; bound = pos 0 }))
    (split_at c.args.literals.now c.loop-literal.literal-index (record { var = 0; test = test.AtMost; bound = pos 0 }) c.loop-literal-test.true) c.loop-literal.invariant c.in_err-try_bound.ensures.tried)

pub returns : goal.returns
returns c = all_passed (λ (l : Condition). bound_tried l.bound) c.args.literals.now c.loop-literal.literal-index tt c.loop-literal-test.false c.loop-literal.invariant

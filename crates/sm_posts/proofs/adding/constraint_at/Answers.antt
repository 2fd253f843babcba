use Rattle.std.proofs.Common.{map}
use Rattle.std.proofs.lemmas.Result.{err_from_is_err_and}
use Rattle.sm_syntax.specs.Trees.{constraint_of, tag_of}
use Rattle.sm_posts.proofs.Additions.{drafting_stops, drafted_adds}
use Rattle.sm_posts.proofs.adding.constraint_at.Goals as goal

pub returns-in_err-draft : goal.returns-in_err-draft
returns-in_err-draft c =
    let p = err_from_is_err_and c.from_residual.result c.from_residual.ensures.1 in
    rw (p.1, p.2) (λ e h. drafting_stops e c.args.made.now h (constraint_of c.args.cons.now) (map tag_of c.args.tags.now) c.args.cases.now.tuple c.args.visited.now c.in_err-draft.field-0.0 c.in_err-draft.ensures)

pub returns : goal.returns
returns c = λ e h.
    drafted_adds e c.args.made.now h (constraint_of c.args.cons.now) (map tag_of c.args.tags.now) c.args.cases.now.tuple c.args.visited.now c.draft_at.new.visited c.in_ok-draft.field-0 c.as_slice.result.now c.constraint.result
    c.in_ok-draft.ensures.0 c.in_ok-draft.ensures.1 c.as_slice.ensures.value c.constraint.ensures

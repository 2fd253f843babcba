use Rattle.std.proofs.Common.{◌≡◌, subst, map, Bool, Ok}
use Rattle.std.proofs.lemmas.Result.{err_from_is_err_and}
use Rattle.sm_syntax.specs.Expressions.{binding_of}
use Rattle.sm_syntax.specs.Trees.{constraint_of, tag_of}
use Rattle.sm_meaning.specs.Scopes.{Tuple}
use Rattle.sm_meaning.specs.Trials.{IsStopped, reached}
use Rattle.sm_parts.specs.Seeking.{Begins, binders_tried, Seeks, Finds, Ends}
use Rattle.sm_posts.proofs.Loops.{binders_stop, posting_first, posting_stops, post_stops, posting_more, posting_ends}
use Rattle.sm_meaning.specs.Models.{post_tried}
use Rattle.sm_declarations.specs.Making.{IsMakingOf}
use Rattle.sm_posts.proofs.Loops.{with_one}
use Rattle.sm_posts.proofs.posting.post_at_tuples.Goals as goal

pub returns-in_err-tuples : goal.returns-in_err-tuples
returns-in_err-tuples c =
    let x = binding_of c.args.binders.now in
    let p = err_from_is_err_and c.from_residual.result c.from_residual.ensures.1 in
    let start = c.args.visited.now in
    rw (p.1, p.2) (λ e h. binders_stop x (constraint_of c.args.cons.now) (map tag_of c.args.tags.now) e start c.in_err-tuples.field-0.0 c.args.made.now.scope h.scope
    (subst (λ (b : Tuple). IsStopped c.in_err-tuples.field-0.0 (binders_tried x c.args.made.now.scope b start)) c.outside-outside.ensures (c.in_err-tuples.ensures start)))

pub tuples-init : goal.tuples-init
tuples-init c = λ e h.
    let x = binding_of c.args.binders.now in
    let s = c.args.made.now.scope in
    let start = c.args.visited.now in
    let none = c.outside-outside.ensures in
    posting_first x (constraint_of c.args.cons.now) (map tag_of c.args.tags.now) e start c.in_ok-tuples.tuples c.args.made.now h
    (subst (λ (b : Tuple). binders_tried x s b start ≡ reached start) none (c.in_ok-tuples.ensures start).0) (subst (λ (b : Tuple). Begins x s.names b c.in_ok-tuples.tuples) none (c.in_ok-tuples.ensures start).1)

pub returns-in_err-next : goal.returns-in_err-next
returns-in_err-next c =
    let p = err_from_is_err_and c.from_residual-in_err-next.result c.from_residual-in_err-next.ensures.1 in
    rw (p.1, p.2) (λ e h. posting_stops (binding_of c.args.binders.now) (constraint_of c.args.cons.now) (map tag_of c.args.tags.now) e c.args.visited.now c.tuples.tuples c.tuples.made c.tuples.visited (c.tuples.invariant e h)
    c.in_err-next.field-0.0 c.in_err-next.ensures)

pub tuples-preserved : goal.tuples-preserved
tuples-preserved c = λ e h.
    let k = constraint_of c.args.cons.now in
    let ts = map tag_of c.args.tags.now in
    let posting = c.tuples.invariant e h in
    let finds : Finds c.tuples.made.scope c.tuples.tuples c.next.new.self c.tuples.visited c.next.new.visited =
    subst (λ (b : Bool). Seeks c.tuples.made.scope c.tuples.tuples c.next.new.self c.tuples.visited c.next.new.visited (Ok b)) c.if-branch.true c.in_ok-next.ensures in
    let here = c.in_ok-post_at.ensures posting.front posting.making in
    posting_more (binding_of c.args.binders.now) k ts e c.args.visited.now c.tuples.tuples c.tuples.made c.tuples.visited posting c.next.new.self c.next.new.visited finds c.post_at.new.made c.post_at.new.visited
    (subst (λ (b : Tuple). post_tried k ts posting.front b c.next.new.visited ≡ reached c.post_at.new.visited) c.cases.ensures here.0)
    (subst (λ (b : Tuple). IsMakingOf (with_one k ts posting.front b) c.post_at.new.made) c.cases.ensures here.1)

pub returns-in_err-post_at : goal.returns-in_err-post_at
returns-in_err-post_at c =
    let k = constraint_of c.args.cons.now in
    let ts = map tag_of c.args.tags.now in
    let finds : Finds c.tuples.made.scope c.tuples.tuples c.next.new.self c.tuples.visited c.next.new.visited =
    subst (λ (b : Bool). Seeks c.tuples.made.scope c.tuples.tuples c.next.new.self c.tuples.visited c.next.new.visited (Ok b)) c.if-branch.true c.in_ok-next.ensures in
    let p = err_from_is_err_and c.from_residual-in_err-post_at.result c.from_residual-in_err-post_at.ensures.1 in
    rw (p.1, p.2) (λ e h.
    let posting = c.tuples.invariant e h in
    post_stops (binding_of c.args.binders.now) k ts e c.args.visited.now c.tuples.tuples c.tuples.made c.tuples.visited posting c.next.new.self c.next.new.visited finds c.in_err-post_at.field-0.0
    (subst (λ (b : Tuple). IsStopped c.in_err-post_at.field-0.0 (post_tried k ts posting.front b c.next.new.visited)) c.cases.ensures (c.in_err-post_at.ensures posting.front posting.making)))

pub returns : goal.returns
returns c = λ e h.
    let ends : Ends c.tuples.made.scope c.tuples.tuples c.tuples.visited c.next.new.visited =
    subst (λ (b : Bool). Seeks c.tuples.made.scope c.tuples.tuples c.next.new.self c.tuples.visited c.next.new.visited (Ok b)) c.if-branch.false c.in_ok-next.ensures in
    posting_ends (binding_of c.args.binders.now) (constraint_of c.args.cons.now) (map tag_of c.args.tags.now) e c.args.visited.now c.tuples.tuples c.tuples.made c.tuples.visited (c.tuples.invariant e h) c.next.new.visited ends

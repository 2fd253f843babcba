use Rattle.std.proofs.Common.{◌≡◌, ◌++◌, subst, Bool, Ok}
use Rattle.std.proofs.lemmas.Result.{err_from_is_err_and}
use Rattle.sm_syntax.specs.Expressions.{binding_of}
use Rattle.sm_meaning.specs.Scopes.{Tuple}
use Rattle.sm_meaning.specs.Trials.{IsStopped, reached}
use Rattle.sm_parts.specs.Seeking.{Seeks, Finds, Ends}
use Rattle.sm_parts.proofs.Loops.{going_first, binders_stop, going_stops, part_stops, going_more, going_ends}
use Rattle.sm_parts.proofs.part.push_at_tuples.Goals as goal

pub returns-in_err-tuples : goal.returns-in_err-tuples
returns-in_err-tuples g c =
    let p = err_from_is_err_and c.from_residual.result c.from_residual.ensures.1 in
    rw (p.1, p.2) (binders_stop c.in_err-tuples.field-0.0 (binding_of c.args.binders.now) c.args.scope.now c.args.cases.now.tuple (g.P.Part.tried c.args.part.now c.args.scope.now c.args.node.now) c.args.visited.now
    (c.in_err-tuples.ensures c.args.visited.now))

pub tuples-init : goal.tuples-init
tuples-init g c =
    going_first (binding_of c.args.binders.now) c.args.scope.now c.args.cases.now.tuple (g.P.Part.tried c.args.part.now c.args.scope.now c.args.node.now) (g.P.Part.makes c.args.part.now c.args.scope.now c.args.node.now)
    c.args.visited.now c.args.made.now.items c.in_ok-tuples.tuples (c.in_ok-tuples.ensures c.args.visited.now).0 (c.in_ok-tuples.ensures c.args.visited.now).1

pub returns-in_err-next : goal.returns-in_err-next
returns-in_err-next g c =
    let p = err_from_is_err_and c.from_residual-in_err-next.result c.from_residual-in_err-next.ensures.1 in
    rw (p.1, p.2) (going_stops (binding_of c.args.binders.now) c.args.scope.now c.args.cases.now.tuple (g.P.Part.tried c.args.part.now c.args.scope.now c.args.node.now)
    (g.P.Part.makes c.args.part.now c.args.scope.now c.args.node.now) c.args.visited.now c.args.made.now.items c.tuples.tuples c.tuples.visited c.tuples.made.items c.tuples.invariant c.in_err-next.field-0.0 c.in_err-next.ensures)

pub tuples-preserved : goal.tuples-preserved
tuples-preserved g c =
    let finds : Finds c.args.scope.now c.tuples.tuples c.next.new.self c.tuples.visited c.next.new.visited =
    subst (λ (b : Bool). Seeks c.args.scope.now c.tuples.tuples c.next.new.self c.tuples.visited c.next.new.visited (Ok b)) c.if-branch.true c.in_ok-next.ensures in
    let part = g.P.Part.tried c.args.part.now c.args.scope.now c.args.node.now in
    let makes = g.P.Part.makes c.args.part.now c.args.scope.now c.args.node.now in
    going_more (binding_of c.args.binders.now) c.args.scope.now c.args.cases.now.tuple part makes c.args.visited.now c.args.made.now.items c.tuples.tuples c.tuples.visited c.tuples.made.items c.tuples.invariant
    c.next.new.self c.next.new.visited c.push_at.new.visited c.push_at.new.made.items finds
    (subst (λ (t : Tuple). part t c.next.new.visited ≡ reached c.push_at.new.visited) c.cases.ensures c.in_ok-push_at.ensures.0)
    (subst (λ (t : Tuple). c.push_at.new.made.items ≡ c.tuples.made.items ++ makes t) c.cases.ensures c.in_ok-push_at.ensures.1)

pub returns-in_err-push_at : goal.returns-in_err-push_at
returns-in_err-push_at g c =
    let finds : Finds c.args.scope.now c.tuples.tuples c.next.new.self c.tuples.visited c.next.new.visited =
    subst (λ (b : Bool). Seeks c.args.scope.now c.tuples.tuples c.next.new.self c.tuples.visited c.next.new.visited (Ok b)) c.if-branch.true c.in_ok-next.ensures in
    let part = g.P.Part.tried c.args.part.now c.args.scope.now c.args.node.now in
    let makes = g.P.Part.makes c.args.part.now c.args.scope.now c.args.node.now in
    let p = err_from_is_err_and c.from_residual-in_err-push_at.result c.from_residual-in_err-push_at.ensures.1 in
    rw (p.1, p.2) (part_stops (binding_of c.args.binders.now) c.args.scope.now c.args.cases.now.tuple part makes c.args.visited.now c.args.made.now.items c.tuples.tuples c.tuples.visited c.tuples.made.items c.tuples.invariant
    c.in_err-push_at.field-0.0 c.next.new.self c.next.new.visited finds (subst (λ (t : Tuple). IsStopped c.in_err-push_at.field-0.0 (part t c.next.new.visited)) c.cases.ensures c.in_err-push_at.ensures))

pub returns : goal.returns
returns g c =
    let ends : Ends c.args.scope.now c.tuples.tuples c.tuples.visited c.next.new.visited =
    subst (λ (b : Bool). Seeks c.args.scope.now c.tuples.tuples c.next.new.self c.tuples.visited c.next.new.visited (Ok b)) c.if-branch.false c.in_ok-next.ensures in
    going_ends (binding_of c.args.binders.now) c.args.scope.now c.args.cases.now.tuple (g.P.Part.tried c.args.part.now c.args.scope.now c.args.node.now) (g.P.Part.makes c.args.part.now c.args.scope.now c.args.node.now)
    c.args.visited.now c.args.made.now.items c.tuples.tuples c.tuples.visited c.tuples.made.items c.tuples.invariant c.next.new.visited ends

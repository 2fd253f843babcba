use Rattle.std.proofs.Common.{◌∙◌, ◌++◌, ◌∷◌, [], ◌+◌, List, map, drop, ap, subst}
use Rattle.std.proofs.lemmas.Result.{err_from_is_err_and}
use Rattle.sm_syntax.specs.Expressions.{Literal, literal_of}
use Rattle.sm_meaning.specs.Formulas.{condition_of, condition_tried}
use Rattle.sm_expressions.proofs.Trying.{split_at}
use Rattle.sm_parts.proofs.Eaches.{Left, left_more, left_stops}
use Rattle.sm_parts.proofs.literal.conditions.Goals as goal

pub returns-in_err-condition-2 : goal.returns-in_err-condition-2
returns-in_err-condition-2 c =
    let f = λ (x : Literal). condition_tried c.args.scope.now x c.args.cases.now.tuple in
    let g = λ (x : Literal). condition_of c.args.scope.now x c.args.cases.now.tuple ∷ [] in
    let all = map literal_of (c.args.first.now ∷ c.args.more.now) in
    let split = ap (map literal_of) (split_at c.args.more.now c.loop-other.other-index c.other-item.result c.loop-other-test.true c.other-item.is) in
    let left = subst (λ (rest : List Literal). Left f g all c.args.visited.now [] rest c.loop-other.visited c.loop-other.literals.items) split c.loop-other.invariant in
    let p = err_from_is_err_and c.from_residual-in_err-condition-2.result c.from_residual-in_err-condition-2.ensures.1 in
    rw (p.1, p.2) (left_stops c.in_err-condition-2.field-0.0 f g all c.args.visited.now [] (literal_of c.other-item.result) (map literal_of (drop (c.loop-other.other-index + 1) c.args.more.now)) c.loop-other.visited c.loop-other.literals.items left
    c.in_err-condition-2.ensures)

pub loop-other-preserved : goal.loop-other-preserved
loop-other-preserved c =
    let f = λ (x : Literal). condition_tried c.args.scope.now x c.args.cases.now.tuple in
    let g = λ (x : Literal). condition_of c.args.scope.now x c.args.cases.now.tuple ∷ [] in
    let all = map literal_of (c.args.first.now ∷ c.args.more.now) in
    let split = ap (map literal_of) (split_at c.args.more.now c.loop-other.other-index c.other-item.result c.loop-other-test.true c.other-item.is) in
    let left = subst (λ (rest : List Literal). Left f g all c.args.visited.now [] rest c.loop-other.visited c.loop-other.literals.items) split c.loop-other.invariant in
    left_more f g all c.args.visited.now [] (literal_of c.other-item.result) (map literal_of (drop (c.loop-other.other-index + 1) c.args.more.now)) c.loop-other.visited c.condition-in-loop-other.new.visited c.loop-other.literals.items
    c.push-in-loop-other.new.self.items left c.in_ok-condition-2.ensures.0 (c.in_ok-push-2.ensures.items ∙ ap (λ y. c.loop-other.literals.items ++ y ∷ []) c.in_ok-condition-2.ensures.1)

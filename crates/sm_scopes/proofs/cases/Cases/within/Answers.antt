use Rattle.std.proofs.Common.{◌≡◌, ◌∙◌, ap, subst, ◌∷◌, ◌+◌, List, drop, map, Err}
use Rattle.std.proofs.lemmas.Result.{err_from_is_err_and}
use Rattle.sm_syntax.specs.declared.tree.Bind.{Bind}
use Rattle.sm_meaning.specs.Tuples.{span_of, tuples}
use Rattle.sm_scopes.specs.declared.cases.Wheel.{Wheel}
use Rattle.sm_scopes.specs.Wheels.{Course, tuple_of}
use Rattle.sm_scopes.specs.Binding.{IsWheelOf, Binds}
use Rattle.sm_scopes.proofs.Within.{Bound, bound_first, bound_more, bound_stops, split_at}
use Rattle.sm_scopes.proofs.cases.Cases.within.Goals as goal

pub returns-in_err-wheels : goal.returns-in_err-wheels
returns-in_err-wheels c =
    let p = err_from_is_err_and c.from_residual.result c.from_residual.ensures.1 in
    rw (p.1, p.2, c.in_err-wheels.ensures.memory) (λ count. tt)

pub returns-in_err-bind : goal.returns-in_err-bind
returns-in_err-bind c =
    let p = err_from_is_err_and c.from_residual-in_err-bind.result c.from_residual-in_err-bind.ensures.1 in
    let all = c.args.first.now ∷ c.args.more.now in
    let shown : tuple_of c.in_ok-wheels.wheels.items ≡ c.args.outside.now.tuple = c.in_ok-wheels.ensures.tuple ∙ ap tuple_of c.as_slice.ensures.value ∙ ap (λ (x : Course). x.tuple) c.outside.view_is in
    let bound = bound_first all c.args.scope.now c.args.outside.now.tuple c.in_ok-wheels.wheels.items shown c.in_ok-wheels.ensures.fixed in
    let stops : Binds c.args.first.now c.args.scope.now (tuple_of c.in_ok-wheels.wheels.items) (Err c.in_err-bind.field-0.0) =
    subst (λ (ws : List Wheel). Binds c.args.first.now c.args.scope.now (tuple_of ws) (Err c.in_err-bind.field-0.0)) c.as_slice-2.ensures.value c.in_err-bind.ensures in
    rw (p.1, p.2) (λ count. bound_stops c.in_err-bind.field-0.0 all c.args.scope.now c.args.outside.now.tuple c.args.first.now c.args.more.now c.in_ok-wheels.wheels.items
    (λ (course : Course). course.to_come ≡ tuples (map (span_of c.args.scope.now.names) all) c.args.outside.now.tuple) count bound stops)

pub loop-binder-init : goal.loop-binder-init
loop-binder-init c =
    let all = c.args.first.now ∷ c.args.more.now in
    let shown : tuple_of c.in_ok-wheels.wheels.items ≡ c.args.outside.now.tuple = c.in_ok-wheels.ensures.tuple ∙ ap tuple_of c.as_slice.ensures.value ∙ ap (λ (x : Course). x.tuple) c.outside.view_is in
    let bound = bound_first all c.args.scope.now c.args.outside.now.tuple c.in_ok-wheels.wheels.items shown c.in_ok-wheels.ensures.fixed in
    let wheel : IsWheelOf c.args.first.now c.args.scope.now (tuple_of c.in_ok-wheels.wheels.items) c.in_ok-bind.field-0 =
    subst (λ (ws : List Wheel). IsWheelOf c.args.first.now c.args.scope.now (tuple_of ws) c.in_ok-bind.field-0) c.as_slice-2.ensures.value c.in_ok-bind.ensures in
    bound_more all c.args.scope.now c.args.outside.now.tuple c.args.first.now c.args.more.now c.in_ok-wheels.wheels.items c.push.new.self.items c.in_ok-bind.field-0 bound wheel c.in_ok-push.ensures.items

pub returns-in_err-bind-2 : goal.returns-in_err-bind-2
returns-in_err-bind-2 c =
    let p = err_from_is_err_and c.from_residual-in_err-bind-2.result c.from_residual-in_err-bind-2.ensures.1 in
    let all = c.args.first.now ∷ c.args.more.now in
    let split = split_at c.args.more.now c.loop-binder.binder-index c.binder-item.result c.loop-binder-test.true c.binder-item.is in
    let bound = subst (λ (rest : List Bind). Bound all c.args.scope.now c.args.outside.now.tuple rest c.loop-binder.wheels.items) split c.loop-binder.invariant in
    let stops : Binds c.binder-item.result c.args.scope.now (tuple_of c.loop-binder.wheels.items) (Err c.in_err-bind-2.field-0.0) =
    subst (λ (ws : List Wheel). Binds c.binder-item.result c.args.scope.now (tuple_of ws) (Err c.in_err-bind-2.field-0.0)) c.as_slice-in-loop-binder.ensures.value c.in_err-bind-2.ensures in
    rw (p.1, p.2) (λ count. bound_stops c.in_err-bind-2.field-0.0 all c.args.scope.now c.args.outside.now.tuple c.binder-item.result (drop (c.loop-binder.binder-index + 1) c.args.more.now) c.loop-binder.wheels.items
    (λ (course : Course). course.to_come ≡ tuples (map (span_of c.args.scope.now.names) all) c.args.outside.now.tuple) count bound stops)

pub loop-binder-preserved : goal.loop-binder-preserved
loop-binder-preserved c =
    let all = c.args.first.now ∷ c.args.more.now in
    let split = split_at c.args.more.now c.loop-binder.binder-index c.binder-item.result c.loop-binder-test.true c.binder-item.is in
    let bound = subst (λ (rest : List Bind). Bound all c.args.scope.now c.args.outside.now.tuple rest c.loop-binder.wheels.items) split c.loop-binder.invariant in
    let wheel : IsWheelOf c.binder-item.result c.args.scope.now (tuple_of c.loop-binder.wheels.items) c.in_ok-bind-2.field-0 =
    subst (λ (ws : List Wheel). IsWheelOf c.binder-item.result c.args.scope.now (tuple_of ws) c.in_ok-bind-2.field-0) c.as_slice-in-loop-binder.ensures.value c.in_ok-bind-2.ensures in
    bound_more all c.args.scope.now c.args.outside.now.tuple c.binder-item.result (drop (c.loop-binder.binder-index + 1) c.args.more.now) c.loop-binder.wheels.items c.push-in-loop-binder.new.self.items c.in_ok-bind-2.field-0 bound wheel c.in_ok-push-2.ensures.items

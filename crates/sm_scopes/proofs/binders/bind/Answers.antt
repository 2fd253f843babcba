use Rattle.std.proofs.Common.{◌≡◌}
use Rattle.std.proofs.lemmas.Result.{err_from_is_err_and}
use Rattle.sm_meaning.specs.Scopes.{found}
use Rattle.sm_meaning.specs.Tuples.{numbers_of, set_numbers}
use Rattle.sm_scopes.specs.Wheels.{tuple_of}
use Rattle.sm_scopes.proofs.Binding.{refused_new, refused_set, wheel_of}
use Rattle.sm_scopes.proofs.binders.bind.Goals as goal

pub returns-in_err-expect_new : goal.returns-in_err-expect_new
returns-in_err-expect_new c =
    let p = err_from_is_err_and c.from_residual.result c.from_residual.ensures.1 in
    rw (p.1, p.2) (refused_new c.in_err-expect_new.field-0.0 c.args.binder.now c.args.scope.now (tuple_of c.args.wheels.now) c.in_err-expect_new.ensures)

pub returns-in_err-range : goal.returns-in_err-range
returns-in_err-range c =
    let p = err_from_is_err_and c.from_residual-in_err-range.result c.from_residual-in_err-range.ensures.1 in
    rw (p.1, p.2) (refused_set c.in_err-range.field-0.0 c.args.binder.now c.args.scope.now (tuple_of c.args.wheels.now) (λ r. set_numbers (found c.args.scope.now.names c.args.binder.now.set.text) ≡ numbers_of r) (λ count. (c.in_ok-expect_new.ensures count).0) c.in_err-range.ensures)

pub returns : goal.returns
returns c =
    wheel_of c.args.binder.now c.args.scope.now (tuple_of c.args.wheels.now) c.at_first.result c.in_ok-range.range (λ count. (c.in_ok-expect_new.ensures count).0) (λ count. (c.in_ok-range.ensures count).0) (c.in_ok-range.ensures 0).1 c.at_first.ensures.name c.at_first.ensures.range c.at_first.ensures.first

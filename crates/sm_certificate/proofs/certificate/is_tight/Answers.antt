use Rattle.std.proofs.Common.{refl, arith, map, pos, ◌^◌}
use Rattle.std.specs.Prelude.{◌<ℤ◌}
use Rattle.std.proofs.lemmas.Int.{ints, to_z-of_z}
use Rattle.std.proofs.lemmas.Result.{err_from_is_err_and}
use Rattle.sm_frac.specs.Frac.{value_of}
use Rattle.sm_certificate.proofs.PointLemmas.{boxed_small}
use Rattle.sm_certificate.proofs.CheckLemmas.{pair_passed_rows, pair_passed_cost, pair_passed_bound, pair_none_passes, tight_yes, tight_equal, tight_rows, not_same}
use Rattle.sm_certificate.proofs.certificate.is_tight.Goals as goal

pub rows_hold-requires-clause-small : goal.rows_hold-requires-clause-small
rows_hold-requires-clause-small c =
    let d = c.ranges.denominator in
    let wide : c.args.denominator <ℤ pos (2 ^ 63) = omega (arith, ints) in
    boxed_small c.args.program.now c.args.denominator c.args.point.now c.requires.solvable wide c.requires.boxed

pub cost_at-requires-clause-small : goal.cost_at-requires-clause-small
cost_at-requires-clause-small c =
    let d = c.ranges.denominator in
    let wide : c.args.denominator <ℤ pos (2 ^ 63) = omega (arith, ints) in
    boxed_small c.args.program.now c.args.denominator c.args.point.now c.requires.solvable wide c.requires.boxed

pub returns-in_err-rows_hold-clause-passed : goal.returns-in_err-rows_hold-clause-passed
returns-in_err-rows_hold-clause-passed c =
    let q = err_from_is_err_and c.from_residual.result c.from_residual.ensures.1 in
    let e = c.in_err-rows_hold.field-0.0 in
    let d = c.ranges.denominator in
    rw (q.1, q.2) (pair_passed_rows c.args.program.now c.args.constant c.args.denominator c.args.point.now (map value_of c.args.multipliers.now) c.as_slice.result.now e.op e.left e.right c.as_slice.ensures (simp to_z-of_z at c.in_err-rows_hold.ensures.passed))

pub returns-in_err-value-clause-passed : goal.returns-in_err-value-clause-passed
returns-in_err-value-clause-passed c =
    let q = err_from_is_err_and c.from_residual-in_err-value.result c.from_residual-in_err-value.ensures.1 in
    let e = c.in_err-value.field-0.0 in
    let d = c.ranges.denominator in
    let k = c.ranges.constant in
    rw (q.1, q.2) (pair_passed_cost c.args.program.now c.args.constant c.args.denominator c.args.point.now (map value_of c.args.multipliers.now) e.op e.left e.right (simp to_z-of_z at c.in_err-value.ensures.passed))

pub returns-in_err-bound-clause-passed : goal.returns-in_err-bound-clause-passed
returns-in_err-bound-clause-passed c =
    let q = err_from_is_err_and c.from_residual-in_err-bound.result c.from_residual-in_err-bound.ensures.1 in
    let e = c.in_err-bound.field-0.0 in
    let k = c.ranges.constant in
    rw (q.1, q.2) (pair_passed_bound c.args.program.now c.args.constant c.args.denominator c.args.point.now (map value_of c.args.multipliers.now) c.as_slice-costs.result.now e.op e.left e.right c.as_slice-costs.ensures (simp to_z-of_z at c.in_err-bound.ensures.passed))

pub returns-then-not-branch-clause-tight : goal.returns-then-not-branch-clause-tight
returns-then-not-branch-clause-tight c =
    let d = c.ranges.denominator in
    let hold = simp to_z-of_z at c.in_ok-rows_hold.ensures.hold in
    let no = c.if-not-branch.true in
    (λ t. absurd (cc), λ t. absurd (let yes = hold.1 (tight_rows c.args.program.now c.args.denominator c.args.point.now (map value_of c.args.multipliers.now) c.as_slice.result.now c.as_slice.ensures t) in cc))

pub returns-in-Equal-clause-tight : goal.returns-in-Equal-clause-tight
returns-in-Equal-clause-tight c =
    let d = c.ranges.denominator in
    let k = c.ranges.constant in
    let hold = simp to_z-of_z at c.in_ok-rows_hold.ensures.hold in (
      λ t. tight_yes c.args.program.now c.args.constant c.args.denominator c.args.point.now (map value_of c.args.multipliers.now) c.as_slice-costs.result.now c.as_slice.result.now (value_of c.in_ok-value.value) (value_of c.in_ok-bound.bound) c.as_slice.ensures (hold.0 c.if-not-branch.false) c.as_slice-costs.ensures (simp to_z-of_z at c.in_ok-value.ensures.exact) (simp to_z-of_z at c.in_ok-bound.ensures.exact) c.in-Equal.ensures,
      λ t. refl,
    )

pub returns-in-Equal-clause-none_passes : goal.returns-in-Equal-clause-none_passes
returns-in-Equal-clause-none_passes c = λ t.
    let k = c.ranges.constant in
    pair_none_passes c.args.program.now c.args.constant (map value_of c.args.multipliers.now) c.as_slice-costs.result.now c.as_slice-costs.ensures (simp to_z-of_z at c.in_ok-bound.ensures.fine)

pub returns-in_default-clause-tight : goal.returns-in_default-clause-tight
returns-in_default-clause-tight c =
    let d = c.ranges.denominator in
    let k = c.ranges.constant in
    (λ t. absurd (cc), λ t. absurd (not_same c.compare.result (value_of c.in_ok-value.value) (value_of c.in_ok-bound.bound) c.in_default.not-Equal c.compare.ensures (tight_equal c.args.program.now c.args.constant c.args.denominator c.args.point.now (map value_of c.args.multipliers.now) c.as_slice-costs.result.now (value_of c.in_ok-value.value) (value_of c.in_ok-bound.bound) c.as_slice-costs.ensures (simp to_z-of_z at c.in_ok-value.ensures.exact) (simp to_z-of_z at c.in_ok-bound.ensures.exact) t)))

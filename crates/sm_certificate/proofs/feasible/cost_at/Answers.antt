use Rattle.std.proofs.Common.{◌≡◌, ◌<◌, ap, subst, arith, ℕ, pos, get_or, length, SFits, w64}
use Rattle.std.proofs.lemmas.Int.{ints, to_z-of_z}
use Rattle.std.proofs.lemmas.Result.{err_from_is_err_and}
use mir.Syntax.{w128}
use Rattle.sm_frac.specs.Rational.{ℚ, ◌*ℚ◌, whole_ℚ}
use Rattle.sm_frac.specs.Frac.{value_of}
use Rattle.sm_certificate.specs.Program.{cost, point_value, column_count}
use Rattle.sm_certificate.specs.Checking.{PassesAt}
use Rattle.sm_certificate.proofs.PointLemmas.{total_start, total_more, cost_here, cost_small, cost_passed, cost_sum, cost_exact, cost_constant_passed, IsOneStep}
use Rattle.sm_certificate.proofs.feasible.cost_at.Goals as goal

pub loop-j-init : goal.loop-j-init
loop-j-init c =
    let d = c.ranges.denominator in
    simp to_z-of_z (total_start (value_of c.fraction_of-cost.result) (λ k. cost c.args.program.now k *ℚ point_value c.args.point.now c.args.denominator k) c.fraction_of-cost.ensures)

pub loop-j-preserved : goal.loop-j-preserved
loop-j-preserved c =
    let p = c.args.program.now in
    let point = c.args.point.now in
    let j = c.loop-j.j in
    let costs = c.as_slice-costs.result.now in
    let x = get_or costs j (pos 0) in
    let inside : j < length p.cost = (let l = c.loop-j-test.true in let n = c.requires.long in let m = c.requires.solvable.costs in omega arith) in
    let small = cost_small p costs j c.requires.solvable inside c.as_slice-costs.ensures in
    let range = c.requires.small.small j in
    let a : SFits w64 x = omega (arith, ints) in
    let b : SFits w128 (get_or point j (pos 0)) = omega (arith, ints) in
    let d = c.ranges.denominator in
    let f = λ (k : ℕ). cost p k *ℚ point_value point c.args.denominator k in
    let is = cost_here p costs j c.as_slice-costs.ensures in
    simp to_z-of_z (total_more j f (value_of c.loop-j.cost) (value_of c.in_ok-cost.cost) (whole_ℚ x *ℚ point_value point c.args.denominator j) (simp to_z-of_z at c.loop-j.invariant) (ap (λ (z : ℚ). z *ℚ point_value point c.args.denominator j) is) (simp to_z-of_z at c.in_ok-cost.ensures.exact))

pub returns-in_err-cost-clause-passed : goal.returns-in_err-cost-clause-passed
returns-in_err-cost-clause-passed c =
    let q = err_from_is_err_and c.from_residual.result c.from_residual.ensures.1 in
    let e = c.in_err-cost.field-0.0 in
    let p = c.args.program.now in
    let point = c.args.point.now in
    let j = c.loop-j.j in
    let costs = c.as_slice-costs.result.now in
    let x = get_or costs j (pos 0) in
    let inside : j < length p.cost = (let l = c.loop-j-test.true in let n = c.requires.long in let m = c.requires.solvable.costs in omega arith) in
    let small = cost_small p costs j c.requires.solvable inside c.as_slice-costs.ensures in
    let range = c.requires.small.small j in
    let a : SFits w64 x = omega (arith, ints) in
    let b : SFits w128 (get_or point j (pos 0)) = omega (arith, ints) in
    let d = c.ranges.denominator in
    let k = c.ranges.constant in
    let is = cost_here p costs j c.as_slice-costs.ensures in
    let column : j < column_count p = (let l = c.loop-j-test.true in let n = c.requires.long in omega arith) in
    rw (q.1, q.2) (cost_passed p c.args.constant point c.args.denominator j (value_of c.loop-j.cost) e.op e.left e.right c.loop-j-test.true column (simp to_z-of_z at c.loop-j.invariant) (subst (λ (z : ℚ). PassesAt (IsOneStep (value_of c.loop-j.cost) z (get_or point j (pos 0)) c.args.denominator) e.op e.left e.right) is (simp to_z-of_z at c.in_err-cost.ensures.passed)))

pub returns-clause-exact : goal.returns-clause-exact
returns-clause-exact c =
    let d = c.ranges.denominator in
    let k = c.ranges.constant in
    let p = c.args.program.now in
    let end : c.loop-j.j ≡ column_count p = (let l = c.loop-j-test.false in let m = c.loop-j.auto.j-end in let n = c.requires.long in omega arith) in
    let sum = cost_sum p c.args.point.now c.args.denominator c.loop-j.j (value_of c.loop-j.cost) end (simp to_z-of_z at c.loop-j.invariant) in
    cost_exact p c.args.constant c.args.point.now c.args.denominator (value_of c.loop-j.cost) c.add_constant.result sum (simp to_z-of_z at c.add_constant.ensures.exact)

pub returns-clause-passed : goal.returns-clause-passed
returns-clause-passed c =
    let d = c.ranges.denominator in
    let k = c.ranges.constant in
    let p = c.args.program.now in
    let end : c.loop-j.j ≡ column_count p = (let l = c.loop-j-test.false in let m = c.loop-j.auto.j-end in let n = c.requires.long in omega arith) in
    let sum = cost_sum p c.args.point.now c.args.denominator c.loop-j.j (value_of c.loop-j.cost) end (simp to_z-of_z at c.loop-j.invariant) in
    cost_constant_passed p c.args.constant c.args.point.now c.args.denominator (value_of c.loop-j.cost) c.add_constant.result sum (simp to_z-of_z at c.add_constant.ensures.passed)

use Rattle.std.proofs.Common.{arith, rules, subst, List, ℕ, ℤ, SFits}
use Rattle.std.proofs.lemmas.Int.{ints, to_z-of_z}
use Rattle.std.proofs.lemmas.Result.{err_from_is_err_and}
use mir.Syntax.{w128}
use Rattle.sm_certificate.specs.Checking.{PassesAt, IsTermsStep}
use Rattle.sm_certificate.proofs.PointLemmas.{quick_holds, exact_holds}
use Rattle.sm_certificate.proofs.feasible.row_holds.Goals as goal

pub returns-in-Some-clause-holds : goal.returns-in-Some-clause-holds
returns-in-Some-clause-holds c =
    let d = c.ranges.denominator in
    let e : SFits w128 c.args.denominator = omega (arith, ints) in
    let s : SFits w128 c.in-Some.sum = search rules in
    quick_holds c.args.row.now c.args.point.now c.args.denominator c.in-Some.sum c.as_slice.result.now c.meets.result c.requires.row c.requires.denominator c.as_slice.ensures c.in-Some.ensures (simp to_z-of_z at c.meets.ensures)

pub returns-in_err-sum-clause-passed : goal.returns-in_err-sum-clause-passed
returns-in_err-sum-clause-passed c =
    let p = err_from_is_err_and c.from_residual.result c.from_residual.ensures.1 in
    let e = c.in_err-sum.field-0.0 in
    let d = c.ranges.denominator in
    rw (p.1, p.2) (subst (λ (ts : List (ℕ × ℤ)). PassesAt (IsTermsStep ts c.args.point.now c.args.denominator) e.op e.left e.right) c.as_slice-2.ensures (simp to_z-of_z at c.in_err-sum.ensures.passed))

pub returns-clause-holds : goal.returns-clause-holds
returns-clause-holds c =
    let d = c.ranges.denominator in
    let n : SFits w128 c.n.result = search rules in
    let m : SFits w128 c.d.result = search rules in
    exact_holds c.args.row.now c.args.point.now c.args.denominator c.in_ok-sum.sum c.n.result c.d.result c.as_slice-2.result.now c.meets-2.result c.requires.row c.as_slice-2.ensures (simp to_z-of_z at c.in_ok-sum.ensures.exact) c.n.ensures c.d.ensures (simp to_z-of_z at c.meets-2.ensures)

use Rattle.std.proofs.Common.{arith, SFits, w64, rules}
use Rattle.std.proofs.lemmas.Int.{ints, to_z-of_z}
use Rattle.std.proofs.lemmas.Result.{err_from_is_err_and}
use Rattle.std.specs.Int.{w128}
use Rattle.std.proofs.Common.{subst, ℤ, unsigned_abs, to_z}
use Rattle.sm_lp.specs.Ending.{denominator_at, IsJoined, IsJoinPassed}
use Rattle.sm_lp.proofs.CommonLemmas.{common_start, join_common, join_fine, join_passed}
use Rattle.sm_lp.proofs.ending.common_denominator.Goals as goal

pub loop-j-init : goal.loop-j-init
loop-j-init c = record { least = omega (arith, ints); most = omega (arith, ints); common = common_start (denominator_at c.args.values.now); fine = λ k m x y l a b. absurd (omega arith) }

pub returns-in_err-common-clause-passed : goal.returns-in_err-common-clause-passed
returns-in_err-common-clause-passed c =
    let p = err_from_is_err_and c.from_residual.result c.from_residual.ensures.1 in
    let v = c.index-values-j.result in
    let m = to_z w64 c.loop-j.common-bits in
    let e = c.in_err-common.field-0.0 in
    let den : SFits w128 c.d.result = search rules in
    let j : IsJoinPassed (unsigned_abs m) (unsigned_abs v.d) e.op e.left e.right = subst (λ (z : ℤ). IsJoinPassed (unsigned_abs m) (unsigned_abs z) e.op e.left e.right) c.d.ensures (simp to_z-of_z at c.in_err-common.ensures.passed) in
    rw (p.1, p.2) (join_passed c.args.values.now c.loop-j.j v m e.op e.left e.right c.loop-j-test.true c.index-values-j.is c.loop-j.invariant.least c.loop-j.invariant.most c.loop-j.invariant.common j)

pub loop-j-preserved : goal.loop-j-preserved
loop-j-preserved c =
    let v = c.index-values-j.result in
    let m = to_z w64 c.loop-j.common-bits in
    let r = c.in_ok-common.common in
    let den : SFits w128 c.d.result = search rules in
    let j : IsJoined m v.d r = subst (λ (z : ℤ). IsJoined m z r) c.d.ensures (simp to_z-of_z at c.in_ok-common.ensures.joined) in
    let low = j.least in
    let high = j.most in
    let fits : SFits w64 r = omega (arith, ints) in
    simp to_z-of_z (record {
      least = j.least;
      most = j.most;
      common = join_common c.args.values.now c.loop-j.j v m r c.loop-j-test.true c.index-values-j.is c.loop-j.invariant.common j;
      fine = join_fine c.args.values.now c.loop-j.j v m r c.loop-j-test.true c.index-values-j.is c.loop-j.invariant.common j c.loop-j.invariant.fine;
    })

use Rattle.std.proofs.Common.{◌<◌, ◌≤◌, ◌^◌, arith, refl, ℕ, pos, get_or, unsigned_abs, SFits, w64}
use Rattle.std.proofs.lemmas.Int.{ints, to_z-of_z}
use Rattle.std.proofs.lemmas.Result.{err_from_is_err_and}
use mir.Syntax.{w128}
use Rattle.sm_frac.specs.Rational.{◌*ℚ◌}
use Rattle.sm_frac.specs.Frac.{value_of}
use Rattle.sm_certificate.specs.Program.{point_value}
use Rattle.sm_certificate.specs.Checking.{term_number, term_column}
use Rattle.sm_certificate.proofs.PointLemmas.{total_start, total_more, terms_passed}
use Rattle.sm_certificate.proofs.feasible.exact_sum.Goals as goal

pub loop-i-init : goal.loop-i-init
loop-i-init c =
    let d = c.ranges.denominator in
    simp to_z-of_z (total_start (value_of c.fraction_of-sum.result) (λ k. term_number c.args.terms.now k *ℚ point_value c.args.point.now c.args.denominator (term_column c.args.terms.now k)) c.fraction_of-sum.ensures)

pub loop-i-preserved : goal.loop-i-preserved
loop-i-preserved c =
    let terms = c.args.terms.now in
    let point = c.args.point.now in
    let i = c.loop-i.i in
    let term = c.requires.terms i (0, pos 0) c.loop-i-test.true in
    let small : unsigned_abs (get_or terms i (0, pos 0)).1 ≤ 2 ^ 42 = term.small in
    let range : unsigned_abs (get_or point (get_or terms i (0, pos 0)).0 (pos 0)) < 2 ^ 127 = c.requires.small.small (get_or terms i (0, pos 0)).0 in
    let a : SFits w64 (get_or terms i (0, pos 0)).1 = omega (arith, ints) in
    let b : SFits w128 (get_or point (get_or terms i (0, pos 0)).0 (pos 0)) = omega (arith, ints) in
    let d = c.ranges.denominator in
    let f = λ (k : ℕ). term_number terms k *ℚ point_value point c.args.denominator (term_column terms k) in
    simp to_z-of_z (total_more i f (value_of c.loop-i.sum) (value_of c.in_ok-sum.sum) (f i) (simp to_z-of_z at c.loop-i.invariant) refl (simp to_z-of_z at c.in_ok-sum.ensures.exact))

pub returns-in_err-sum-clause-passed : goal.returns-in_err-sum-clause-passed
returns-in_err-sum-clause-passed c =
    let p = err_from_is_err_and c.from_residual.result c.from_residual.ensures.1 in
    let e = c.in_err-sum.field-0.0 in
    let terms = c.args.terms.now in
    let point = c.args.point.now in
    let i = c.loop-i.i in
    let term = c.requires.terms i (0, pos 0) c.loop-i-test.true in
    let small : unsigned_abs (get_or terms i (0, pos 0)).1 ≤ 2 ^ 42 = term.small in
    let range : unsigned_abs (get_or point (get_or terms i (0, pos 0)).0 (pos 0)) < 2 ^ 127 = c.requires.small.small (get_or terms i (0, pos 0)).0 in
    let a : SFits w64 (get_or terms i (0, pos 0)).1 = omega (arith, ints) in
    let b : SFits w128 (get_or point (get_or terms i (0, pos 0)).0 (pos 0)) = omega (arith, ints) in
    let d = c.ranges.denominator in
    rw (p.1, p.2) (terms_passed terms point c.args.denominator i (get_or terms i (0, pos 0)) (value_of c.loop-i.sum) e.op e.left e.right c.loop-i-test.true refl term.column (simp to_z-of_z at c.loop-i.invariant) (simp to_z-of_z at c.in_err-sum.ensures.passed))

use Rattle.std.proofs.Common.{◌<◌, ◌≤◌, ◌^◌, arith, refl, ℕ, pos, get_or, unsigned_abs, SFits, w64, to_z, rules}
use Rattle.std.proofs.lemmas.Int.{ints, to_z-of_z}
use mir.Syntax.{w128}
use Rattle.sm_frac.specs.Rational.{◌*ℚ◌, fraction}
use Rattle.sm_certificate.specs.Program.{point_value}
use Rattle.sm_certificate.specs.Checking.{term_number, term_column}
use Rattle.sm_certificate.proofs.PointLemmas.{total_start, total_more, quick_more, zero_fraction}
use Rattle.sm_certificate.proofs.feasible.quick_sum.Goals as goal

pub loop-i-init : goal.loop-i-init
loop-i-init c = λ e some. total_start (fraction (pos 0) e) (λ k. term_number c.args.terms.now k *ℚ point_value c.args.point.now (pos e) (term_column c.args.terms.now k)) (zero_fraction e some)

pub loop-i-preserved : goal.loop-i-preserved
loop-i-preserved c = λ e some.
    let terms = c.args.terms.now in
    let point = c.args.point.now in
    let i = c.loop-i.i in
    let term = c.requires.terms i (0, pos 0) c.loop-i-test.true in
    let small : unsigned_abs (get_or terms i (0, pos 0)).1 ≤ 2 ^ 42 = term.small in
    let range : unsigned_abs (get_or point (get_or terms i (0, pos 0)).0 (pos 0)) < 2 ^ 127 = c.requires.small.small (get_or terms i (0, pos 0)).0 in
    let a : SFits w64 (get_or terms i (0, pos 0)).1 = omega (arith, ints) in
    let b : SFits w128 (get_or point (get_or terms i (0, pos 0)).0 (pos 0)) = omega (arith, ints) in
    let r : SFits w128 c.in_ok-sum.sum = search rules in
    let is = simp to_z-of_z at c.in_ok-sum.ensures in
    let f = λ (k : ℕ). term_number terms k *ℚ point_value point (pos e) (term_column terms k) in
    simp to_z-of_z (total_more i f (fraction (to_z w128 c.loop-i.sum-bits) e) (fraction c.in_ok-sum.sum e) (f i) (c.loop-i.invariant e some) refl (quick_more (to_z w128 c.loop-i.sum-bits) (get_or terms i (0, pos 0)).1 (get_or point (get_or terms i (0, pos 0)).0 (pos 0)) c.in_ok-sum.sum e some is))

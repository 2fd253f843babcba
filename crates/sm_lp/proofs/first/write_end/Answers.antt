use Rattle.std.proofs.Common.{arith, pos, ◌≡◌, ◌≤◌, ◌^◌, ◌∙◌, get_or, unsigned_abs, sym}
use Rattle.std.specs.Prelude.{negsuc, ◌-ℤ◌}
use Rattle.std.proofs.lemmas.Int.{ints, to_z-of_z}
use mir.Val.{SFits}
use mir.Syntax.{w64}
use Rattle.sm_frac.specs.Rational.{neg_ℚ-fraction}
use Rattle.sm_frac.proofs.CommonDenominator.{whole_value}
use Rattle.sm_lp.proofs.WritingLemmas.{end_written, whole_difference}
use Rattle.sm_lp.proofs.first.write_end.Goals as goal

pub returns : goal.returns
returns c =
    let box = get_or c.args.columns.now c.args.column (pos 0, pos 0) in
    let is = c.requires.boxes c.args.column (pos 0, pos 0) c.requires.column in
    let low : unsigned_abs box.0 ≤ 2 ^ 31 = is.least in
    let high : unsigned_abs box.1 ≤ 2 ^ 31 = is.greatest in
    let a : SFits w64 box.0 = omega (arith, ints) in
    let b : SFits w64 box.1 = omega (arith, ints) in
    let d : SFits w64 (box.1 -ℤ box.0) = omega (arith, ints) in
    let n : c.whole-2.result.n ≡ box.1 -ℤ box.0 = simp to_z-of_z at c.whole-2.ensures.0 in
    end_written c.args.cells.items c.args.start c.args.column c.args.columns.now c.whole.result c.whole-2.result (omega (arith, c.args.cells.ok.0)) c.requires.column
    (whole_value c.whole.result (negsuc 0) c.whole.ensures.0 c.whole.ensures.1 ∙ sym (neg_ℚ-fraction (pos 1) 1 (omega arith)))
    (whole_value c.whole-2.result (box.1 -ℤ box.0) n c.whole-2.ensures.1 ∙ whole_difference box.1 box.0 (box.1 -ℤ box.0) (omega (arith, ints)))

use Rattle.std.proofs.Common.{◌<◌, ◌≤◌, ◌^◌, ◌∙◌, ap, sym, arith, get_or, length, map, unsigned_abs, SFits}
use Rattle.std.proofs.lemmas.Int.{ints, to_z-of_z}
use Rattle.std.proofs.lemmas.List.{length-map}
use Rattle.std.proofs.lemmas.Result.{err_from_is_err_and}
use mir.Syntax.{w128}
use Rattle.sm_frac.specs.Frac.{value_of}
use Rattle.sm_certificate.specs.Program.{row_bound}
use Rattle.sm_certificate.proofs.NumberLemmas.{number_read}
use Rattle.sm_certificate.proofs.CombinationLemmas.{bound_start, bound_more, bound_end, bound_fine, rows_bound_passed}
use Rattle.sm_certificate.proofs.combination.rows_bound.Goals as goal

pub loop-i-init : goal.loop-i-init
loop-i-init c = bound_start c.args.rows.now (map value_of c.args.multipliers.now) (value_of c.fraction_of-bound.result) c.fraction_of-bound.ensures

pub returns-in_err-bound-clause-passed : goal.returns-in_err-bound-clause-passed
returns-in_err-bound-clause-passed c =
    let p = err_from_is_err_and c.from_residual.result c.from_residual.ensures.1 in
    let e = c.in_err-bound.field-0.0 in
    let ms = c.args.multipliers.now in
    let i = c.loop-i.i in
    let m = c.index-multipliers-i.result in
    let row = c.index-rows-i.result in
    let inside : i < length ms = (let l = c.loop-i-test.true in let n = c.requires.long in omega arith) in
    let small : unsigned_abs (get_or c.args.rows.now i row).bound ≤ 2 ^ 80 = c.requires.small i row c.loop-i-test.true in
    let a : SFits w128 (get_or c.args.rows.now i row).bound = omega (arith, ints) in
    let bound = simp to_z-of_z at c.whole.ensures in
    rw (p.1, p.2) (rows_bound_passed c.args.rows.now (map value_of ms) i row (value_of c.loop-i.bound) (value_of m) (value_of c.whole.result) e.op e.left e.right c.loop-i-test.true c.index-rows-i.is c.loop-i.invariant.exact (sym (number_read ms i m inside c.index-multipliers-i.is)) (bound ∙ ap row_bound (sym c.index-rows-i.is)) c.in_err-bound.ensures.passed)

pub loop-i-preserved : goal.loop-i-preserved
loop-i-preserved c =
    let ms = c.args.multipliers.now in
    let i = c.loop-i.i in
    let m = c.index-multipliers-i.result in
    let row = c.index-rows-i.result in
    let inside : i < length ms = (let l = c.loop-i-test.true in let n = c.requires.long in omega arith) in
    let small : unsigned_abs (get_or c.args.rows.now i row).bound ≤ 2 ^ 80 = c.requires.small i row c.loop-i-test.true in
    let a : SFits w128 (get_or c.args.rows.now i row).bound = omega (arith, ints) in
    let bound = simp to_z-of_z at c.whole.ensures in
    bound_more c.args.rows.now (map value_of ms) i row (value_of c.loop-i.bound) (value_of c.in_ok-bound.bound) (value_of m) (value_of c.whole.result) c.loop-i-test.true c.index-rows-i.is (sym (number_read ms i m inside c.index-multipliers-i.is)) (bound ∙ ap row_bound (sym c.index-rows-i.is)) c.in_ok-bound.ensures.exact c.in_ok-bound.ensures.fine c.loop-i.invariant

pub returns-clause-exact : goal.returns-clause-exact
returns-clause-exact c =
    let n = length-map c.args.multipliers.now value_of in
    let long = c.requires.long in
    let m = c.loop-i.auto.i-end in
    bound_end c.args.rows.now (map value_of c.args.multipliers.now) c.loop-i.i (value_of c.loop-i.bound) (let l = c.loop-i-test.false in omega arith) (omega arith) c.loop-i.invariant

pub returns-clause-fine : goal.returns-clause-fine
returns-clause-fine c =
    let m = c.loop-i.auto.i-end in
    bound_fine c.args.rows.now (map value_of c.args.multipliers.now) c.loop-i.i (value_of c.loop-i.bound) (let l = c.loop-i-test.false in omega arith) c.loop-i.invariant

use Rattle.std.proofs.Common.{refl, arith, ◌<◌, ◌≤◌, ◌^◌, ◌∙◌, ap, get_or, length, pos, SFits, w64, unsigned_abs, List, ℤ}
use Rattle.std.proofs.lemmas.List.{get_or_default}
use Rattle.std.proofs.lemmas.Int.{ints, to_z-of_z}
use Rattle.std.proofs.lemmas.Result.{err_from_is_err_and}
use Rattle.sm_frac.proofs.CommonDenominator.{whole_value}
use Rattle.sm_frac.specs.Frac.{value_of}
use Rattle.sm_lp.specs.Table.{dictionary_of}
use Rattle.sm_certificate.specs.Program.{column_count}
use Rattle.sm_lp.proofs.JoinLemmas.{values_more, value_passed, low_value, low_small, constant_here}
use Rattle.sm_lp.proofs.ending.column_values.Goals as goal

pub returns-in_err-values-clause-passed : goal.returns-in_err-values-clause-passed
returns-in_err-values-clause-passed c =
    let p = err_from_is_err_and c.from_residual.result c.from_residual.ensures.1 in
    let q = c.args.program.now in
    let d = dictionary_of c.args.table.now in
    let j = c.loop-j.j in
    let inside : j < length q.columns = (let w = c.loop-j-test.true in let long = c.requires.long in omega (arith, c.args.values.ok.0)) in
    let t = get_or c.as_slice-columns.result.now j (pos 0, pos 0) in
    let read = ap (λ (xs : List (ℤ × ℤ)). get_or xs j (pos 0, pos 0)) c.as_slice-columns.ensures ∙ get_or_default q.columns j (pos 0, pos 0) t inside in
    let small : unsigned_abs t.0 ≤ 2 ^ 31 = low_small q j t inside read c.requires.boxes in
    let a : SFits w64 t.0 = omega (arith, ints) in
    let x = low_value q j c.whole.result t inside read (whole_value c.whole.result t.0 (simp to_z-of_z at c.whole.ensures.0) c.whole.ensures.1) in
    let y = constant_here d c.args.table.now.constant (column_count q) j (value_of c.constant_at.result) c.requires.constant c.constant_at.ensures in
    rw (p.1, p.2) (value_passed q d j c.whole.result c.constant_at.result c.in_err-values.field-0.0 inside x y c.in_err-values.ensures.carried (c.in_err-values.ensures.passed.0 refl))

pub loop-j-preserved : goal.loop-j-preserved
loop-j-preserved c =
    let q = c.args.program.now in
    let d = dictionary_of c.args.table.now in
    let j = c.loop-j.j in
    let inside : j < length q.columns = (let w = c.loop-j-test.true in let long = c.requires.long in omega (arith, c.args.values.ok.0)) in
    let t = get_or c.as_slice-columns.result.now j (pos 0, pos 0) in
    let read = ap (λ (xs : List (ℤ × ℤ)). get_or xs j (pos 0, pos 0)) c.as_slice-columns.ensures ∙ get_or_default q.columns j (pos 0, pos 0) t inside in
    let small : unsigned_abs t.0 ≤ 2 ^ 31 = low_small q j t inside read c.requires.boxes in
    let a : SFits w64 t.0 = omega (arith, ints) in
    let x = low_value q j c.whole.result t inside read (whole_value c.whole.result t.0 (simp to_z-of_z at c.whole.ensures.0) c.whole.ensures.1) in
    let y = constant_here d c.args.table.now.constant (column_count q) j (value_of c.constant_at.result) c.requires.constant c.constant_at.ensures in
    let here : j < length c.loop-j.values.items = (let long = c.loop-j.invariant.long in omega (arith, c.loop-j.values.ok.0)) in
    let more = values_more q d j c.loop-j.values.items c.whole.result c.constant_at.result c.in_ok-values.field-0 here x y c.in_ok-values.ensures.exact (λ p. absurd (let e = c.in_ok-values.ensures.passed.1 p in cc)) c.loop-j.invariant.exact c.loop-j.invariant.fine in
    record { long = c.loop-j.invariant.long; exact = more.0; fine = more.1 }

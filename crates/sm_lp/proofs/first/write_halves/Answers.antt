use Rattle.std.proofs.Common.{arith, ◌≡◌, ◌<◌, ap, List, length, subst, ℕ, suc, ◌*◌, ◌+◌, sym, get_or}
use Rattle.std.proofs.Math.Nat.{mul-le-mul_right}
use Rattle.sm_certificate.specs.declared.program.LpRow.{LpRow}
use Rattle.sm_certificate.specs.Program.{column_count}
use Rattle.sm_lp.specs.Writing.{AreHalvesWritten}
use Rattle.sm_lp.proofs.WritingLemmas.{HalvesSoFar, halves_start, halves_inside, halves_more, halves_end}
use Rattle.sm_lp.proofs.first.write_halves.Goals as goal

pub loop-row-init : goal.loop-row-init
loop-row-init c = halves_start c.args.program.now c.args.cells.items

pub write_halves_of-requires-clause-inside : goal.write_halves_of-requires-clause-inside
write_halves_of-requires-clause-inside c =
    let p = c.args.program.now in
    let w = suc (column_count p) in
    let rows = c.as_slice-row-items.ensures in
    let hi : c.loop-row.row-index < length p.rows = subst (λ (xs : List LpRow). c.loop-row.row-index < length xs) rows c.loop-row-test.true in
    let is = subst (λ (xs : List LpRow). c.row-item.result ≡ get_or xs c.loop-row.row-index c.row-item.result) rows c.row-item.is in
    let within = halves_inside p c.args.cells.items c.loop-row.cells.items c.loop-row.row-index c.loop-row.half c.row-item.result hi is c.loop-row.invariant in
    let more = mul-le-mul_right w within in
    let width : c.len-width.result + 1 ≡ w = (let n = c.len-width.ensures in omega arith) in
    let at = ap (λ (x : ℕ). c.loop-row.half * x) width in
    let long = c.loop-row.invariant.long in
    omega (arith, c.args.cells.ok.0, c.loop-row.cells.ok.0)

pub loop-row-preserved : goal.loop-row-preserved
loop-row-preserved c =
    let p = c.args.program.now in
    let w = suc (column_count p) in
    let rows = c.as_slice-row-items.ensures in
    let hi : c.loop-row.row-index < length p.rows = subst (λ (xs : List LpRow). c.loop-row.row-index < length xs) rows c.loop-row-test.true in
    let is = subst (λ (xs : List LpRow). c.row-item.result ≡ get_or xs c.loop-row.row-index c.row-item.result) rows c.row-item.is in
    let width : c.len-width.result + 1 ≡ w = (let n = c.len-width.ensures in omega arith) in
    let written = subst (λ (x : ℕ). AreHalvesWritten p c.row-item.result c.loop-row.cells.items c.in_ok-cells.cells.items (c.loop-row.half * x)) width c.in_ok-cells.ensures in
    subst (λ (x : ℕ). HalvesSoFar p c.args.cells.items c.in_ok-cells.cells.items (c.loop-row.row-index + 1) (c.loop-row.half + x)) (sym c.halves_in-half.ensures.count)
    (halves_more p c.args.cells.items c.loop-row.cells.items c.in_ok-cells.cells.items c.loop-row.row-index c.loop-row.half c.row-item.result hi is written c.loop-row.invariant)

pub returns : goal.returns
returns c =
    let p = c.args.program.now in
    let e = ap (λ (xs : List LpRow). length xs) c.as_slice-row-items.ensures in
    halves_end p c.args.cells.items c.loop-row.cells.items c.loop-row.row-index c.loop-row.half (omega arith) c.loop-row.invariant

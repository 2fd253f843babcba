use Rattle.std.proofs.Common.{arith, ◌≡◌, ◌<◌, ◌≤◌, ap, length, List, subst, ℕ, suc, ◌*◌, ◌+◌, ℤ}
use Rattle.std.proofs.Math.Nat.{mul-le-mul_right}
use Rattle.sm_certificate.specs.Program.{column_count}
use Rattle.sm_certificate.specs.Slacks.{slack_count}
use Rattle.sm_lp.specs.Writing.{IsEndWritten}
use Rattle.sm_lp.proofs.WritingLemmas.{ends_start, ends_more, ends_end}
use Rattle.sm_lp.proofs.first.write_ends.Goals as goal

pub loop-k-init : goal.loop-k-init
loop-k-init c = ends_start c.args.program.now c.args.cells.items

pub write_end-cells-requires-clause-inside : goal.write_end-cells-requires-clause-inside
write_end-cells-requires-clause-inside c =
    let p = c.args.program.now in
    let many = length c.as_slice-columns.result.now in
    let count : many ≡ column_count p = ap (λ (xs : List (ℤ × ℤ)). length xs) c.as_slice-columns.ensures in
    let row : c.args.halves + c.loop-k.k + 1 ≤ slack_count p = (let h = c.requires.halves in let l = c.loop-k-test.true in omega arith) in
    let more = mul-le-mul_right (suc (column_count p)) row in
    let width : many + 1 ≡ suc (column_count p) = omega arith in
    let at = ap (λ (x : ℕ). (c.args.halves + c.loop-k.k) * x) width in
    let inside = c.requires.inside in
    let long = c.loop-k.invariant.long in
    omega (arith, c.args.cells.ok.0, c.loop-k.cells.ok.0)

pub loop-k-preserved : goal.loop-k-preserved
loop-k-preserved c =
    let p = c.args.program.now in
    let many = length c.as_slice-columns.result.now in
    let count : many ≡ column_count p = ap (λ (xs : List (ℤ × ℤ)). length xs) c.as_slice-columns.ensures in
    let hk : c.loop-k.k < column_count p = (let l = c.loop-k-test.true in omega arith) in
    let width : many + 1 ≡ suc (column_count p) = omega arith in
    let one = subst (λ (xs : List (ℤ × ℤ)). IsEndWritten c.loop-k.cells.items c.write_end-cells.result.items ((c.args.halves + c.loop-k.k) * (many + 1)) c.loop-k.k xs) c.as_slice-columns.ensures c.write_end-cells.ensures in
    let two = subst (λ (x : ℕ). IsEndWritten c.loop-k.cells.items c.write_end-cells.result.items ((c.args.halves + c.loop-k.k) * x) c.loop-k.k p.columns) width one in
    let three = subst (λ (x : ℕ). IsEndWritten c.loop-k.cells.items c.write_end-cells.result.items ((x + c.loop-k.k) * suc (column_count p)) c.loop-k.k p.columns) c.requires.halves two in
    ends_more p c.args.cells.items c.loop-k.cells.items c.write_end-cells.result.items c.loop-k.k hk c.requires.zero three c.loop-k.invariant

pub returns : goal.returns
returns c =
    let p = c.args.program.now in
    ends_end p c.args.cells.items c.loop-k.cells.items c.loop-k.k (let count = ap (λ (xs : List (ℤ × ℤ)). length xs) c.as_slice-columns.ensures in let l = c.loop-k-test.false in omega arith) c.loop-k.invariant

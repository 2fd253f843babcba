use Rattle.std.proofs.Common.{arith, ◌≡◌, ◌∙◌, ap, subst, List, ℤ, ℕ, suc, ◌*◌, ◌+◌, replicate, rules, length, false}
use Rattle.std.proofs.Math.ListN.{length-replicate}
use Rattle.std.proofs.lemmas.Int.{ints, to_z-of_z}
use mir.Val.{SFits}
use mir.Syntax.{w128}
use Rattle.sm_frac.specs.Rational.{whole_ℚ}
use Rattle.sm_frac.specs.declared.fraction.Frac.{Frac}
use Rattle.sm_certificate.specs.Numbers.{number_at}
use Rattle.sm_certificate.specs.Program.{column_count}
use Rattle.sm_certificate.specs.Slacks.{slack_count}
use Rattle.sm_lp.specs.Writing.{shift_total, IsRowWritten}
use Rattle.sm_certificate.proofs.FineLemmas.{value_of_zero}
use Rattle.sm_lp.proofs.WritingLemmas.{cells_entries, cost_numbers, cost_shift, blank_zero, rows_zero}
use Rattle.sm_lp.proofs.first.first_cells.Goals as goal

pub write_ends-cells-requires-clause-zero : goal.write_ends-cells-requires-clause-zero
write_ends-cells-requires-clause-zero c =
    let same : c.in_ok-blank.blank.items ≡ replicate c.args.sizes.area c.whole.result = search rules in
    rows_zero c.args.program.now c.in_ok-blank.blank.items c.in_ok-cells.cells.items (λ k. ap (λ (xs : List Frac). number_at xs k) same ∙ blank_zero c.args.sizes.area c.whole.result k (value_of_zero c.whole.result c.whole.ensures.0)) c.in_ok-cells.ensures

pub returns : goal.returns
returns c =
    let p = c.args.program.now in
    let same : c.in_ok-blank.blank.items ≡ replicate c.args.sizes.area c.whole.result = search rules in
    let long = ap (λ (xs : List Frac). length xs) same ∙ length-replicate c.args.sizes.area c.whole.result ∙ c.requires.sizes.area in
    let small = c.shift_of-shift.ensures.small in
    let f : SFits w128 c.shift_of-shift.result = omega (arith, ints) in
    let sum = subst (λ (bs : List (ℤ × ℤ)). whole_ℚ c.shift_of-shift.result ≡ shift_total p.cost bs) c.as_slice.ensures (subst (λ (ns : List ℤ). whole_ℚ c.shift_of-shift.result ≡ shift_total ns c.as_slice.result.now) c.as_slice-costs.ensures c.shift_of-shift.ensures.sum) in
    let start = c.args.sizes.slacks * (c.args.sizes.columns + 1) in
    let width : c.args.sizes.columns + 1 ≡ suc (column_count p) = let e = c.requires.sizes.columns in omega arith in
    let place : start ≡ slack_count p * suc (column_count p) = ap (λ (x : ℕ). c.args.sizes.slacks * x) width ∙ ap (λ (x : ℕ). x * suc (column_count p)) c.requires.sizes.slacks in
    let row : IsRowWritten c.write_ends-cells.result.items c.write_row.result.items start p.cost c.shift_of-shift.result false = subst (λ (ns : List ℤ). IsRowWritten c.write_ends-cells.result.items c.write_row.result.items start ns c.shift_of-shift.result false) c.as_slice-costs.ensures (simp to_z-of_z at c.write_row.ensures) in
    cells_entries p c.in_ok-blank.blank.items c.in_ok-cells.cells.items c.write_ends-cells.result.items c.write_row.result.items p.cost c.shift_of-shift.result start place long c.requires.solvable.costs (λ j l. cost_numbers p j) (cost_shift p c.shift_of-shift.result sum) c.in_ok-cells.ensures c.write_ends-cells.ensures row

use Rattle.std.proofs.Common.{arith, ◌≡◌, ◌<◌, ◌+◌, ◌*◌, ap, sym, List, length, subst, ℕ, ℤ, suc, get_or, false, true}
use Rattle.std.specs.Prelude.{◌-ℤ◌}
use Rattle.std.proofs.lemmas.Int.{ints, to_z-of_z}
use mir.Val.{SFits}
use mir.Syntax.{w128}
use Rattle.sm_frac.specs.Rational.{whole_ℚ}
use Rattle.sm_certificate.specs.Program.{column_count}
use Rattle.sm_lp.specs.Writing.{AreNumbers, IsSmall, shift_total, IsRowWritten}
use Rattle.sm_lp.proofs.WritingLemmas.{written_one, written_two, row_shift, whole_difference, some_halves}
use Rattle.sm_certificate.proofs.SlackLemmas.{count_two}
use Rattle.sm_lp.proofs.first.write_halves_of.Goals as goal

pub shift_of-requires-clause-small : goal.shift_of-requires-clause-small
shift_of-requires-clause-small c k d l = subst (λ (ns : List ℤ). IsSmall (get_or ns k d)) (sym c.deref.ensures.value) (c.in_ok-numbers.ensures.small k d (subst (λ (ns : List ℤ). k < length ns) c.deref.ensures.value l))

pub write_row-cells-requires-clause-inside : goal.write_row-cells-requires-clause-inside
write_row-cells-requires-clause-inside c =
    let p = c.args.program.now in
    let row = c.args.row.now in
    let xs = c.in_ok-numbers.numbers.items in
    let width = length c.as_slice-columns.result.now in
    let count : width ≡ column_count p = ap (λ (xs : List (ℤ × ℤ)). length xs) c.as_slice-columns.ensures in
    let n = subst (λ (k : ℕ). AreNumbers k row.terms xs) count (subst (λ (ts : List (ℕ × ℤ)). AreNumbers width ts xs) c.as_slice.ensures c.in_ok-numbers.ensures) in
    let long = n.long in
    let same = ap (λ (ns : List ℤ). length ns) c.deref-2.ensures.value in
    let some = some_halves row (column_count p) in
    let inside = c.requires.inside in
    omega arith

pub write_row-requires-clause-inside : goal.write_row-requires-clause-inside
write_row-requires-clause-inside c =
    let p = c.args.program.now in
    let row = c.args.row.now in
    let xs = c.in_ok-numbers.numbers.items in
    let width = length c.as_slice-columns.result.now in
    let count : width ≡ column_count p = ap (λ (xs : List (ℤ × ℤ)). length xs) c.as_slice-columns.ensures in
    let n = subst (λ (k : ℕ). AreNumbers k row.terms xs) count (subst (λ (ts : List (ℕ × ℤ)). AreNumbers width ts xs) c.as_slice.ensures c.in_ok-numbers.ensures) in
    let long = n.long in
    let same = ap (λ (ns : List ℤ). length ns) c.deref-then-row.ensures.value in
    let two = ap (λ (k : ℕ). k * suc (column_count p)) (count_two row c.if-row.true) in
    let inside = c.requires.inside in
    let kept = c.write_row-cells.ensures.long in
    omega (arith, c.args.cells.ok.0, c.write_row-cells.result.ok.0)

pub returns-then-row : goal.returns-then-row
returns-then-row c =
    let p = c.args.program.now in
    let row = c.args.row.now in
    let xs = c.in_ok-numbers.numbers.items in
    let width = length c.as_slice-columns.result.now in
    let count : width ≡ column_count p = ap (λ (xs : List (ℤ × ℤ)). length xs) c.as_slice-columns.ensures in
    let n = subst (λ (k : ℕ). AreNumbers k row.terms xs) count (subst (λ (ts : List (ℕ × ℤ)). AreNumbers width ts xs) c.as_slice.ensures c.in_ok-numbers.ensures) in
    let long = n.long in
    let sum = subst (λ (bs : List (ℤ × ℤ)). whole_ℚ c.shift_of.result ≡ shift_total xs bs) c.as_slice-columns.ensures (subst (λ (ns : List ℤ). whole_ℚ c.shift_of.result ≡ shift_total ns c.as_slice-columns.result.now) c.deref.ensures.value c.shift_of.ensures.sum) in
    let small = c.shift_of.ensures.small in
    let bound = c.requires.row.bound in
    let f : SFits w128 c.shift_of.result = omega (arith, ints) in
    let g : SFits w128 row.bound = omega (arith, ints) in
    let k = c.shift_of.result -ℤ row.bound in
    let h : SFits w128 k = omega (arith, ints) in
    let is = row_shift p row xs c.shift_of.result k n sum (whole_difference c.shift_of.result row.bound k (omega (arith, ints))) in
    let first : IsRowWritten c.args.cells.items c.write_row-cells.result.items c.args.start xs k false = subst (λ (ns : List ℤ). IsRowWritten c.args.cells.items c.write_row-cells.result.items c.args.start ns k false) c.deref-2.ensures.value (simp to_z-of_z at c.write_row-cells.ensures) in
    let next : c.args.start + width + 1 ≡ c.args.start + suc (column_count p) = omega arith in
    let second : IsRowWritten c.write_row-cells.result.items c.write_row.result.items (c.args.start + width + 1) xs k true = subst (λ (ns : List ℤ). IsRowWritten c.write_row-cells.result.items c.write_row.result.items (c.args.start + width + 1) ns k true) c.deref-then-row.ensures.value (simp to_z-of_z at c.write_row.ensures) in
    written_two p row c.args.cells.items c.write_row-cells.result.items c.write_row.result.items c.args.start (c.args.start + width + 1) xs k c.if-row.true next n is first second

pub returns : goal.returns
returns c =
    let p = c.args.program.now in
    let row = c.args.row.now in
    let xs = c.in_ok-numbers.numbers.items in
    let width = length c.as_slice-columns.result.now in
    let count : width ≡ column_count p = ap (λ (xs : List (ℤ × ℤ)). length xs) c.as_slice-columns.ensures in
    let n = subst (λ (k : ℕ). AreNumbers k row.terms xs) count (subst (λ (ts : List (ℕ × ℤ)). AreNumbers width ts xs) c.as_slice.ensures c.in_ok-numbers.ensures) in
    let long = n.long in
    let sum = subst (λ (bs : List (ℤ × ℤ)). whole_ℚ c.shift_of.result ≡ shift_total xs bs) c.as_slice-columns.ensures (subst (λ (ns : List ℤ). whole_ℚ c.shift_of.result ≡ shift_total ns c.as_slice-columns.result.now) c.deref.ensures.value c.shift_of.ensures.sum) in
    let small = c.shift_of.ensures.small in
    let bound = c.requires.row.bound in
    let f : SFits w128 c.shift_of.result = omega (arith, ints) in
    let g : SFits w128 row.bound = omega (arith, ints) in
    let k = c.shift_of.result -ℤ row.bound in
    let h : SFits w128 k = omega (arith, ints) in
    let is = row_shift p row xs c.shift_of.result k n sum (whole_difference c.shift_of.result row.bound k (omega (arith, ints))) in
    let first : IsRowWritten c.args.cells.items c.write_row-cells.result.items c.args.start xs k false = subst (λ (ns : List ℤ). IsRowWritten c.args.cells.items c.write_row-cells.result.items c.args.start ns k false) c.deref-2.ensures.value (simp to_z-of_z at c.write_row-cells.ensures) in
    written_one p row c.args.cells.items c.write_row-cells.result.items c.args.start xs k c.if-row.false n is first

use Rattle.std.proofs.Common.{arith, ◌≡◌, sym, subst, ℕ, suc, ◌+◌}
use Rattle.sm_certificate.specs.Program.{column_count}
use Rattle.sm_lp.specs.First.{first}
use Rattle.sm_certificate.specs.Slacks.{number_count}
use Rattle.sm_lp.specs.Writing.{IsCounting}
use Rattle.std.proofs.Common.{set, slice_index_or}
use Rattle.sm_lp.specs.Table.{cell_entry}
use Rattle.sm_lp.proofs.PivotSteps.{dictionary}
use Rattle.sm_lp.proofs.WritingLemmas.{first_dictionary}
use Rattle.sm_lp.proofs.first.first_table.Goals as goal

pub returns-clause-first : goal.returns-clause-first
returns-clause-first c =
    let p = c.args.program.now in
    let z = c.sizes_of-sizes.ensures in
    let s = c.sizes_of-sizes.result in
    let basic = subst (λ (x : ℕ). IsCounting c.in_ok-basic.basic.items (column_count p) x) z.numbers (subst (λ (x : ℕ). IsCounting c.in_ok-basic.basic.items x s.numbers) z.columns c.in_ok-basic.ensures) in
    let nonbasic = subst (λ (x : ℕ). IsCounting c.in_ok-nonbasic.nonbasic.items 0 x) z.columns c.in_ok-nonbasic.ensures in
    let made = first_dictionary p s.slacks s.columns c.in_ok-cells.cells.items c.in_ok-basic.basic.items c.in_ok-nonbasic.nonbasic.items z.slacks z.columns c.in_ok-cells.ensures basic nonbasic in
    let next : s.numbers + 1 ≡ suc (number_count p) = let e = z.numbers in omega arith in
    let xs = c.in_ok-nonbasic.nonbasic.items in
    let Q = λ (k m : ℕ). dictionary (suc s.slacks) (suc s.columns) (λ i. slice_index_or c.in_ok-basic.basic.items i 0) (λ j. slice_index_or (set xs k m) j 0) (cell_entry (suc s.slacks) (suc s.columns) c.in_ok-cells.cells.items) ≡ first p in
    subst (λ (k : ℕ). Q k (s.numbers + 1)) (sym z.columns) (subst (λ (m : ℕ). Q (column_count p) m) (sym next) made)

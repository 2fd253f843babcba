use Rattle.std.proofs.Common.{arith, suc, sym, ap, ◌∙◌, ℕ, List, ◌+◌, ◌*◌}
use Rattle.sm_frac.specs.declared.fraction.Frac.{Frac}
use Rattle.sm_certificate.specs.Numbers.{number_at}
use Rattle.sm_lp.proofs.CellLemmas.{cell_read}
use Rattle.sm_lp.proofs.table.Table.entry.Goals as goal

pub returns : goal.returns
returns c =
    let t = c.args.self.now in
    sym c.cell_of.ensures
    ∙ ap (λ (xs : List Frac). number_at xs c.place_in.result) c.deref.ensures.value
    ∙ ap (λ (k : ℕ). number_at t.cells.items k) (c.place_in.ensures.at ∙ ap (λ (w : ℕ). c.args.i * w + c.args.j) c.width.ensures)
    ∙ sym (cell_read (suc t.goal) (suc t.constant) t.cells.items c.args.i c.args.j (omega arith) (omega arith))

use Rattle.std.proofs.Common.{sym, ap, ◌∙◌, arith, ◌≡◌, List, length, ℕ, subst, suc}
use Rattle.std.specs.Prelude.{slice_index_or}
use Rattle.sm_lp.specs.Rule.{place}
use Rattle.sm_lp.specs.Table.{dictionary_of}
use Rattle.sm_certificate.proofs.FineLemmas.{value_of_zero}
use Rattle.sm_lp.proofs.EndingLemmas.{value_at_place, value_at_nowhere}
use Rattle.sm_lp.proofs.ending.coefficient_at.Goals as goal

pub returns-then-column-table : goal.returns-then-column-table
returns-then-column-table c =
    let t = c.args.table.now in
    let d = dictionary_of t in
    let at : c.place_of-column.result ≡ place d.nonbasic c.args.number (suc t.constant) = subst (λ (k : ℕ). c.place_of-column.result ≡ place d.nonbasic c.args.number k) (sym t.nonbasic.ok.0 ∙ t.columns) (subst (λ (xs : List ℕ). c.place_of-column.result ≡ place (λ i. slice_index_or xs i 0) c.args.number (length xs)) c.deref.ensures.value c.place_of-column.ensures) in
    let low = c.if-column-table.true in
    c.entry.ensures ∙ ap (d.entry c.args.row) at ∙ sym (value_at_place t.constant (suc t.constant) d.nonbasic (d.entry c.args.row) c.args.number (omega arith) c.requires.proper.nonbasic_apart (omega arith))

pub returns-else-column-table : goal.returns-else-column-table
returns-else-column-table c =
    let t = c.args.table.now in
    let d = dictionary_of t in
    let at : c.place_of-column.result ≡ place d.nonbasic c.args.number (suc t.constant) = subst (λ (k : ℕ). c.place_of-column.result ≡ place d.nonbasic c.args.number k) (sym t.nonbasic.ok.0 ∙ t.columns) (subst (λ (xs : List ℕ). c.place_of-column.result ≡ place (λ i. slice_index_or xs i 0) c.args.number (length xs)) c.deref.ensures.value c.place_of-column.ensures) in
    let low = c.if-column-table.false in
    value_of_zero c.whole.result c.whole.ensures.0 ∙ sym (value_at_nowhere t.constant (suc t.constant) d.nonbasic (d.entry c.args.row) c.args.number (omega arith) (omega arith))

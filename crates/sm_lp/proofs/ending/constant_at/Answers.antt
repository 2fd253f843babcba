use Rattle.std.proofs.Common.{sym, ap, ◌∙◌, arith, ◌≡◌, List, length, ℕ, subst, suc}
use Rattle.std.specs.Prelude.{slice_index_or}
use Rattle.sm_lp.specs.Rule.{place}
use Rattle.sm_lp.specs.Table.{dictionary_of}
use Rattle.sm_certificate.proofs.FineLemmas.{value_of_zero}
use Rattle.sm_lp.proofs.EndingLemmas.{constant_found, constant_missing}
use Rattle.sm_lp.proofs.ending.constant_at.Goals as goal

pub returns-then-row-table : goal.returns-then-row-table
returns-then-row-table c =
    let t = c.args.table.now in
    let d = dictionary_of t in
    let at : c.place_of-row.result ≡ place d.basic c.args.number (suc t.goal) = subst (λ (k : ℕ). c.place_of-row.result ≡ place d.basic c.args.number k) (sym t.basic.ok.0 ∙ t.rows) (subst (λ (xs : List ℕ). c.place_of-row.result ≡ place (λ i. slice_index_or xs i 0) c.args.number (length xs)) c.deref.ensures.value c.place_of-row.ensures) in
    let low = c.if-row-table.true in
    c.entry.ensures ∙ ap (λ (i : ℕ). d.entry i t.constant) at ∙ sym (constant_found d t.constant c.args.number c.requires (omega arith))

pub returns-else-row-table : goal.returns-else-row-table
returns-else-row-table c =
    let t = c.args.table.now in
    let d = dictionary_of t in
    let at : c.place_of-row.result ≡ place d.basic c.args.number (suc t.goal) = subst (λ (k : ℕ). c.place_of-row.result ≡ place d.basic c.args.number k) (sym t.basic.ok.0 ∙ t.rows) (subst (λ (xs : List ℕ). c.place_of-row.result ≡ place (λ i. slice_index_or xs i 0) c.args.number (length xs)) c.deref.ensures.value c.place_of-row.ensures) in
    let low = c.if-row-table.false in
    value_of_zero c.whole.result c.whole.ensures.0 ∙ sym (constant_missing d t.constant c.args.number (omega arith))

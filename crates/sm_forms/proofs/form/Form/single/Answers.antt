use Rattle.std.proofs.Common.{rules, ◌≡◌, ◌≢◌, ◌∙◌, ap, sym, arith, length, pos, slice_index_or}
use Rattle.sm_forms.proofs.Merges.{no_term}
use Rattle.sm_forms.proofs.Queries.{one_term_of, variable_some, variable_none}
use Rattle.sm_forms.proofs.form.Form.single.Goals.{then-len-ne1-via-then-len-ne1, then-len-ne1-via-else-len-ne1+then-self-ne0}
use Rattle.sm_forms.proofs.form.Form.single.Goals as goal

pub returns-then-len-ne1-clause-same : goal.returns-then-len-ne1-clause-same
returns-then-len-ne1-clause-same c = λ n g h. sym (variable_none n g c.args.self.now h (λ v e k.
    elim c.then-len-ne1.branch [
      | then-len-ne1-via-then-len-ne1 w ↦ omega (arith, w.if-len-ne1.true, c.len.ensures, ap (λ ts. length ts) e)
      | then-len-ne1-via-else-len-ne1+then-self-ne0 w ↦ (let q = w.if-self-ne0.true in let x : c.args.self.now.constant ≢ pos 0 = search rules in x k)
    ]))

pub returns-then-coefficient-eq1-clause-same : goal.returns-then-coefficient-eq1-clause-same
returns-then-coefficient-eq1-clause-same c = λ n g h.
    let zero : c.args.self.now.constant ≡ pos 0 = search rules in
    let one : (slice_index_or c.as_slice.result.now 0 no_term).1 ≡ pos 1 = search rules in
    sym (variable_some n _ g c.args.self.now h (sym c.as_slice.ensures ∙ one_term_of c.as_slice.result.now (ap (λ ts. length ts) c.as_slice.ensures ∙ sym c.len.ensures ∙ c.if-len-ne1.false) one) zero)

pub returns-else-coefficient-eq1-clause-same : goal.returns-else-coefficient-eq1-clause-same
returns-else-coefficient-eq1-clause-same c = λ n g h. sym (variable_none n g c.args.self.now h (λ v e k.
    let other : (slice_index_or c.as_slice.result.now 0 no_term).1 ≢ pos 1 = search rules in
    other (ap (λ ts. (slice_index_or ts 0 no_term).1) (c.as_slice.ensures ∙ e))))

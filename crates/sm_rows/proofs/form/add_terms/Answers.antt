use Rattle.std.proofs.Common.{◌≡◌, ◌∙◌, sym, pos, arith, get_or}
use Rattle.std.specs.Prelude.{◌*ℤ◌}
use Rattle.sm_step.specs.declared.row.Col.TheVariants.{Var}
use Rattle.sm_rows.specs.Terms.{add_term}
use Rattle.sm_rows.proofs.Sums.{add_terms_more, weight-add_term, weight_left}
use Rattle.sm_rows.proofs.form.add_terms.Goals as goal

pub loop-term-preserved : goal.loop-term-preserved
loop-term-preserved c =
    let ts = c.args.terms.now in
    let by = c.args.by.now in
    let i = c.loop-term.term-index in
    let t = get_or ts i (Var 0, pos 0) in
    let new : c.add_term.new.terms ≡ add_term c.loop-term.sum t.0 (by *ℤ t.1) = rw c.scaled-product.ensures at c.in_ok-add_term.ensures in
    record {
      so_far = rw new (sym (add_terms_more c.loop-term.sum by ts i (Var 0, pos 0) c.loop-term-test.true) ∙ c.loop-term.invariant.so_far);
      room = rw new (omega (arith, weight-add_term c.loop-term.sum t.0 (by *ℤ t.1), weight_left by ts i (Var 0, pos 0) c.loop-term-test.true, c.loop-term.invariant.room));
    }

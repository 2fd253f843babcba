use Rattle.std.proofs.Common.{◌≤◌, ◌∙◌, sym, length}
use Rattle.std.specs.Prelude.{unsigned_abs}
use Rattle.sm_rows.specs.Forms.{form_weight}
use Rattle.rule_basic.proofs.Fitting.{room_for, weight_so_far, add_forms_more}
use Rattle.rule_basic.proofs.forms.add_forms.Goals as goal

pub add_form-requires : goal.add_form-requires
add_form-requires c =
    let small : form_weight c.in-Some.form ≤ 65 = rw c.in-Some.is at c.in_ok-form.ensures.small in
    room_for (unsigned_abs c.args.by.now) (form_weight c.loop-literal.total) (form_weight c.args.sum) (form_weight c.in-Some.form) c.loop-literal.literal-index (length c.args.literals.now) small c.loop-literal-test.true c.loop-literal.invariant.room c.requires

pub loop-literal-preserved : goal.loop-literal-preserved
loop-literal-preserved c =
    let small : form_weight c.in-Some.form ≤ 65 = rw c.in-Some.is at c.in_ok-form.ensures.small in
    let m = c.args.flat.now in
    record {
      so_far = rw c.in_ok-add_form.ensures (sym (add_forms_more m c.args.by.now c.loop-literal.total c.in-Some.form c.args.literals.now c.loop-literal.literal-index _ c.loop-literal-test.true (sym c.in_ok-form.ensures.value ∙ c.in-Some.is)) ∙ c.loop-literal.invariant.so_far);
      room = rw c.in_ok-add_form.ensures (weight_so_far c.loop-literal.total c.args.sum c.in-Some.form c.args.by.now c.loop-literal.literal-index small c.loop-literal.invariant.room);
    }

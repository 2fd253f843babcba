use Rattle.sm_rows.proofs.FormLaws.{if_small, if_law}
use Rattle.sm_rows.proofs.form.column_form.Goals as goal

pub returns-clause-small : goal.returns-clause-small
returns-clause-small c = if_small c.args.flat.now c.args.literal.now c.in_ok-form.form c.in_ok-form.ensures.value

pub returns-clause-law : goal.returns-clause-law
returns-clause-law c = if_law c.args.flat.now c.args.literal.now c.in_ok-form.form c.form_of.ensures.limits c.in_ok-form.ensures.value

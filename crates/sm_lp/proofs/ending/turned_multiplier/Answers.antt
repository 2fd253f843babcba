use Rattle.std.proofs.Common.{sym, ap, ◌∙◌, pos}
use Rattle.sm_frac.specs.Rational.{one_ℚ, neg_ℚ, zero_ℚ}
use Rattle.sm_frac.proofs.CommonDenominator.{whole_value}
use Rattle.sm_lp.specs.Dictionary.{value_at}
use Rattle.sm_lp.specs.Table.{dictionary_of}
use Rattle.sm_certificate.proofs.Totals.{choose, choose_not}
use Rattle.sm_lp.proofs.ending.turned_multiplier.Goals as goal

pub returns-then-basic-slack : goal.returns-then-basic-slack
returns-then-basic-slack c =
    let d = dictionary_of c.args.table.now in
    whole_value c.whole.result (pos 1) c.whole.ensures.0 c.whole.ensures.1 ∙ sym (choose (d.basic c.args.row) c.args.slack one_ℚ (neg_ℚ (value_at c.args.table.now.constant d.nonbasic (d.entry c.args.row) c.args.slack zero_ℚ)) (sym c.basic.ensures ∙ c.if-basic-slack.true))

pub returns-else-basic-slack : goal.returns-else-basic-slack
returns-else-basic-slack c =
    let d = dictionary_of c.args.table.now in
    c.turned.ensures ∙ ap neg_ℚ c.coefficient_at.ensures ∙ sym (choose_not (d.basic c.args.row) c.args.slack one_ℚ (neg_ℚ (value_at c.args.table.now.constant d.nonbasic (d.entry c.args.row) c.args.slack zero_ℚ)) (λ e. c.if-basic-slack.false (c.basic.ensures ∙ e)))

use Rattle.std.proofs.Common.{◌∙◌, sym, pos}
use Rattle.sm_frac.proofs.CommonDenominator.{whole_value}
use Rattle.sm_lp.specs.Table.{dictionary_of}
use Rattle.sm_lp.proofs.PivotSteps.{dividend_here, dividend_off}
use Rattle.sm_lp.proofs.pivot.dividend_at.Goals as goal

pub returns-then-j-column : goal.returns-then-j-column
returns-then-j-column c = whole_value c.whole.result (pos 1) c.whole.ensures.0 c.whole.ensures.1 ∙ sym (dividend_here (dictionary_of c.args.table.now) c.args.row c.args.column c.args.j c.if-j-column.true)

pub returns-else-j-column : goal.returns-else-j-column
returns-else-j-column c = c.entry.ensures ∙ sym (dividend_off (dictionary_of c.args.table.now) c.args.row c.args.column c.args.j c.if-j-column.false)

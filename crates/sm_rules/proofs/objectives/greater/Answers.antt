use Rattle.std.proofs.Common.{◌∙◌, sym}
use Rattle.sm_rules.proofs.Fractions.{greater_where_less, greater_where_not}
use Rattle.sm_rules.proofs.objectives.greater.Goals as goal

pub returns-then-is_lt : goal.returns-then-is_lt
returns-then-is_lt c = greater_where_less c.args.first c.args.second c.compare.result c.compare.ensures (sym c.is_lt.ensures ∙ c.if-is_lt.true)

pub returns-else-is_lt : goal.returns-else-is_lt
returns-else-is_lt c = greater_where_not c.args.first c.args.second c.compare.result c.compare.ensures (sym c.is_lt.ensures ∙ c.if-is_lt.false)

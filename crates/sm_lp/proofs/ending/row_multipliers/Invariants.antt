use Rattle.std.proofs.Common.{◌≡◌, ◌+◌, ◌++◌, length, drop}
use Rattle.std.specs.Prelude.{map}
use Rattle.sm_frac.specs.Frac.{value_of}
use Rattle.sm_certificate.specs.Slacks.{halves}
use Rattle.sm_lp.specs.Answer.{row_multipliers}
use Rattle.sm_lp.specs.Table.{dictionary_of}
use Rattle.sm_lp.specs.Ending.{slack_of, AreApart}
use Rattle.sm_lp.proofs.ending.row_multipliers.Given as goal

abbrev pub invariant-loop-row : goal.invariant-loop-row
invariant-loop-row l = record {
  made : map value_of l.multipliers.items ++ row_multipliers (drop l.row-index l.rows) (slack_of l.table.constant l.table.goal (dictionary_of l.table) l.infeasible) l.slack ≡ row_multipliers l.rows (slack_of l.table.constant l.table.goal (dictionary_of l.table) l.infeasible) l.table.constant;
  count : l.slack + length (halves (drop l.row-index l.rows)) ≡ l.table.constant + length (halves l.rows);
  apart : AreApart (drop l.row-index l.rows) (slack_of l.table.constant l.table.goal (dictionary_of l.table) l.infeasible) l.slack;
}

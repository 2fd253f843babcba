use Rattle.std.proofs.Common.{sym}
use Rattle.sm_certificate.proofs.SlackLemmas.{count_two, count_one}
use Rattle.sm_certificate.proofs.conditions.halves_in.Goals as goal

pub returns-then-row-clause-count : goal.returns-then-row-clause-count
returns-then-row-clause-count c = sym (count_two c.args.row.now c.if-row.true)

pub returns-else-row-clause-count : goal.returns-else-row-clause-count
returns-else-row-clause-count c = sym (count_one c.args.row.now c.if-row.false)

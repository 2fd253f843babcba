use Rattle.std.proofs.Common.{◌∙◌, sym, eqb-true}
use Rattle.sm_syntax.specs.Reading.{next}
use Rattle.sm_syntax.proofs.Readings.{stop_other}
use Rattle.sm_syntax.proofs.read_model.read_end.Goals as goal

pub returns-then-is_at_end-clause-end : goal.returns-then-is_at_end-clause-end
returns-then-is_at_end-clause-end c = (sym (eqb-true 69 (next c.args.reader.now) (sym c.is_at_end.ensures.next ∙ c.if-is_at_end.true)), c.is_at_end.ensures.last c.if-is_at_end.true)

pub returns-else-is_at_end-clause-fault : goal.returns-else-is_at_end-clause-fault
returns-else-is_at_end-clause-fault c = stop_other c.args.reader.now 69 (sym c.is_at_end.ensures.next ∙ c.if-is_at_end.false)

use Rattle.std.proofs.Common.{pos, sym}
use Rattle.sm_flat.proofs.Steps.{get_or_none}
use Rattle.sm_flat.proofs.assignment.Assignment.numerator.Goals as goal

pub returns-in-None-clause-value : goal.returns-in-None-clause-value
returns-in-None-clause-value c = rw (← c.self.view_is) (sym (get_or_none c.self.inside.values c.args.var (pos 0) (sym c.in-None.ensures.value)))

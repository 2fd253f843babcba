use Rattle.sm_syntax.specs.Trees.{values_of}
use Rattle.sm_declarations.proofs.LimitTrials.{set_widths}
use Rattle.sm_declarations.proofs.limits.try_set_widths.Goals as goal

pub returns-in-Set : goal.returns-in-Set
returns-in-Set c = rw c.in-Set.is (λ e s is are.
    set_widths e s c.args.members c.in-Set.place (values_of c.in-Set.values) c.args.vars.now c.try_some_widths.result c.if-members-eq0.false is (c.try_some_widths.ensures s are))

use Rattle.sm_kinds.specs.declared.var.VarKind.TheVariants.{Set}
use Rattle.sm_store.proofs.Orders.{domain_ordered}
use Rattle.sm_store.proofs.build.fill.Goals as goal

pub count-requires-clause-ordered : goal.count-requires-clause-ordered
count-requires-clause-ordered c = rw c.put_words.ensures.values (domain_ordered Set c.args.values.now c.requires.set)

use Rattle.std.proofs.Common.{drop}
use Rattle.sm_kinds.specs.declared.var.VarKind.TheVariants.{Set}
use Rattle.sm_store.specs.Blocks.{values_of}
use Rattle.sm_store.proofs.Cells.{kept_values}
use Rattle.sm_store.proofs.Orders.{ordered_kept}
use Rattle.sm_store.proofs.set.narrow.Goals as goal

pub count-requires-clause-ordered : goal.count-requires-clause-ordered
count-requires-clause-ordered c =
    rw (kept_values c.args.literal.now c.args.base.now (drop 3 c.args.part.now) (drop 3 c.keep_words.new.part) c.keep_words.ensures.words)
    (ordered_kept Set c.args.literal.now (values_of c.args.base.now (drop 3 c.args.part.now)) c.requires.ordered)

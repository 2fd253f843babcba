use Rattle.std.proofs.Common.{arith, drop}
use Rattle.sm_kinds.specs.declared.var.VarKind.TheVariants.{Set}
use Rattle.sm_store.specs.Blocks.{values_of}
use Rattle.sm_store.proofs.Cells.{set_part, small_ends}
use Rattle.sm_store.proofs.set.count.Goals as goal

pub write_cells-requires-clause-least : goal.write_cells-requires-clause-least
write_cells-requires-clause-least c =
    (small_ends Set (values_of c.args.base.now (drop 3 c.args.part.now)) c.summary_of-summary.result c.requires.ordered (rw c.words_in.ensures at c.summary_of-summary.ensures)).least

pub write_cells-requires-clause-greatest : goal.write_cells-requires-clause-greatest
write_cells-requires-clause-greatest c =
    (small_ends Set (values_of c.args.base.now (drop 3 c.args.part.now)) c.summary_of-summary.result c.requires.ordered (rw c.words_in.ensures at c.summary_of-summary.ensures)).greatest

pub returns-clause-part : goal.returns-clause-part
returns-clause-part c =
    let counted = rw c.words_in.ensures at c.summary_of-summary.ensures in
    set_part c.args.base.now c.args.part.now c.write_cells.new.part c.summary_of-summary.result c.write_cells.ensures.cells c.write_cells.ensures.summary c.write_cells.ensures.words (omega arith) c.requires.near c.requires.ordered counted

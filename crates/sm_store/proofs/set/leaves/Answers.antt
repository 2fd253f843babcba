use Rattle.std.proofs.Common.{drop}
use Rattle.sm_store.proofs.Sets.{set_leaves}
use Rattle.sm_store.proofs.set.leaves.Goals as goal
use Rattle.sm_store.specs.Blocks.{summary_in, values_of}

pub returns : goal.returns
returns c =
    let has = rw c.words_in.ensures at c.has-has.ensures in
    rw (c.leaves_some.ensures, c.summary_in.ensures) (set_leaves c.args.literal.now.test c.args.literal.now.bound (values_of c.args.base.now (drop 3 c.args.part.now)) (summary_in c.args.part.now) c.has-has.result c.requires.ordered c.requires.summary has)

use Rattle.std.proofs.Common.{arith}
use Rattle.sm_kinds.specs.Literals.{passes}
use Rattle.sm_store.proofs.WordPlaces.{kept_none, kept_more, kept_all}
use Rattle.sm_store.proofs.words.keep.Goals as goal

pub loop-at-init : goal.loop-at-init
loop-at-init c = kept_none (passes c.args.literal.now) c.args.base.now c.args.words.now

pub loop-at-preserved : goal.loop-at-preserved
loop-at-preserved c =
    kept_more (passes c.args.literal.now) c.args.base.now c.args.words.now c.loop-at.words c.loop-at.at c.word_mask.result c.loop-at.invariant (omega arith) c.word_mask.ensures

pub returns : goal.returns
returns c = kept_all (passes c.args.literal.now) c.args.base.now c.args.words.now c.loop-at.words c.loop-at.at c.loop-at.invariant c.loop-at-test.false

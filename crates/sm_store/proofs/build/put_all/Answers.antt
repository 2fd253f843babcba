use Rattle.sm_store.proofs.Declared.{putting_none, putting_more, value_low, value_high}
use Rattle.sm_store.proofs.build.put_all.Goals as goal

pub loop-value-init : goal.loop-value-init
loop-value-init c = putting_none c.args.base.now c.args.values.now c.args.words.now c.requires.wide

pub place_of-requires : goal.place_of-requires
place_of-requires c = value_low c.args.base.now c.args.values.now c.args.words.now c.loop-value.value-index c.requires.set c.requires.wide c.loop-value-test.true

pub put-requires : goal.put-requires
put-requires c =
    value_high c.args.base.now c.args.values.now c.args.words.now c.loop-value.words c.loop-value.value-index c.place_of.result c.requires.set c.requires.wide c.loop-value.invariant c.loop-value-test.true c.place_of.ensures

pub loop-value-preserved : goal.loop-value-preserved
loop-value-preserved c =
    putting_more c.args.base.now c.args.values.now c.args.words.now c.loop-value.words c.put.new.words c.loop-value.value-index c.place_of.result c.requires.set c.requires.wide c.loop-value.invariant c.loop-value-test.true c.place_of.ensures c.put.ensures

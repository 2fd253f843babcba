use Rattle.sm_store.proofs.Declared.{last_above}
use Rattle.sm_store.proofs.build.words_for.Goals as goal

pub place_of-requires : goal.place_of-requires
place_of-requires c = last_above c.args.base.now c.args.values.now c.requires.set c.requires.base

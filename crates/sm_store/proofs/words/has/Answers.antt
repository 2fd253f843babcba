use Rattle.sm_store.proofs.WordPlaces.{one_value}
use Rattle.sm_store.proofs.words.has.Goals as goal

pub returns : goal.returns
returns c = rw c.is_one.ensures (one_value c.args.words.now c.args.base.now c.args.value.now c.place_of.result c.place_of.ensures)

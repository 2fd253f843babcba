use Rattle.sm_store.proofs.WordPlaces.{put_more}
use Rattle.sm_store.proofs.build.put.Goals as goal

pub returns : goal.returns
returns c = put_more c.args.words.now c.args.place c.requires

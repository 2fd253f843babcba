use Rattle.std.proofs.Common.{arith}
use Rattle.std.proofs.lemmas.List.{length-drop, take_rest}
use Rattle.sm_store.proofs.Cells.{rest_put}
use Rattle.sm_store.proofs.set.keep_words.Goals as goal

pub returns-clause-words : goal.returns-clause-words
returns-clause-words c =
    let kept = rw (take_rest c.args.part.now 3) at c.keep.ensures in
    let long = kept.long in
    rw (rest_put c.args.part.now c.keep.new.words c.requires.long (omega (arith, length-drop 3 c.args.part.now))) kept

use Rattle.sm_syntax.proofs.Reserved.{some_reserved}
use Rattle.sm_syntax.proofs.reserved_words.Goals as goal

pub returns : goal.returns
returns c = some_reserved

use Rattle.std.proofs.Common.{arith}
use Rattle.std.proofs.lemmas.Int.{ints}
use Rattle.sm_certificate.proofs.SignTests.{above_zero, not_above_zero}
use Rattle.sm_certificate.proofs.number.is_positive.Goals as goal

pub returns-clause-yes : goal.returns-clause-yes
returns-clause-yes c h = above_zero c.args.number (omega (arith, ints))

pub returns-clause-no : goal.returns-clause-no
returns-clause-no c h = not_above_zero c.args.number (omega (arith, ints))

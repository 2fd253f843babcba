use Rattle.std.proofs.Common.{arith}
use Rattle.std.proofs.lemmas.Int.{ints}
use Rattle.sm_certificate.proofs.SignTests.{below_zero, not_below_zero}
use Rattle.sm_certificate.proofs.number.is_negative.Goals as goal

pub returns-clause-yes : goal.returns-clause-yes
returns-clause-yes c h = below_zero c.args.number (omega (arith, ints))

pub returns-clause-no : goal.returns-clause-no
returns-clause-no c h = not_below_zero c.args.number (omega (arith, ints))

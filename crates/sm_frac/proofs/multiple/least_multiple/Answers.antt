use Rattle.std.proofs.Common.{arith, ◌≤◌}
use Rattle.std.proofs.lemmas.Nat.Gcd.{le_of_dvd}
use Rattle.std.proofs.Math.Nat.{pos_of_dvd_of_pos}
use Rattle.sm_frac.proofs.Multiples.{least_multiple}
use Rattle.sm_frac.proofs.multiple.least_multiple.Goals as goal

pub overflow_cast-divisor : goal.overflow_cast-divisor
overflow_cast-divisor c = let le : c.gcd-divisor.result ≤ c.args.a = le_of_dvd c.requires.left.0 c.gcd-divisor.ensures.0 in omega arith

pub nonzero_div-result : goal.nonzero_div-result
nonzero_div-result c = pos_of_dvd_of_pos c.gcd-divisor.ensures.0 c.requires.left.0

pub returns : goal.returns
returns c = least_multiple c.args.a c.args.b c.gcd-divisor.result c.requires.left.0 c.requires.right.0 c.gcd-divisor.ensures

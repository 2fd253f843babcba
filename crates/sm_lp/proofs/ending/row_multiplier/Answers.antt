use Rattle.std.proofs.Common.{arith}
use Rattle.sm_lp.proofs.MultiplierLemmas.{two_halves_of}
use Rattle.sm_lp.proofs.ending.row_multiplier.Goals as goal

pub overflow_add-slack : goal.overflow_add-slack
overflow_add-slack c = let two = two_halves_of c.args.row.now c.if-row.true in let small = c.requires.small in omega arith

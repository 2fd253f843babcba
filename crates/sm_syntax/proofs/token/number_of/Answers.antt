use Rattle.std.proofs.Common.{arith}
use Rattle.sm_syntax.proofs.Cuts.{few_digits}
use Rattle.sm_syntax.proofs.token.number_of.Goals as goal

pub overflow_mul-value : goal.overflow_mul-value
overflow_mul-value c =
    let few = few_digits c.loop-digit.digit-index (omega arith) in
    omega arith

pub overflow_add-value : goal.overflow_add-value
overflow_add-value c =
    let few = few_digits c.loop-digit.digit-index (omega arith) in
    omega arith

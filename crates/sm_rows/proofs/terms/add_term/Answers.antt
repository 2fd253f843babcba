use Rattle.std.proofs.Common.{pos, arith}
use Rattle.sm_step.specs.declared.row.Col.TheVariants.{Var}
use Rattle.sm_rows.proofs.Sums.{coefficient_le}
use Rattle.sm_rows.proofs.terms.add_term.Goals as goal

pub plus-sum-requires : goal.plus-sum-requires
plus-sum-requires c =
    let terms = c.as_slice-in-Some.result.now in
    let i = c.in-Some.i in
    rw c.as_slice-in-Some.ensures (omega (arith, c.requires, coefficient_le c.args.terms.now i (Var 0, pos 0) (rw c.as_slice.ensures at c.in-Some.ensures.within)))

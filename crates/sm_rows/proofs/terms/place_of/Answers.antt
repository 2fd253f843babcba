use Rattle.std.proofs.Common.{◌∙◌, sym, pos}
use Rattle.sm_step.specs.declared.row.Col.TheVariants.{Var}
use Rattle.sm_rows.proofs.Sums.{at_place}
use Rattle.sm_rows.proofs.terms.place_of.Goals as goal

pub returns-then-same_column-clause-added : goal.returns-then-same_column-clause-added
returns-then-same_column-clause-added c k = c.loop-i.invariant k ∙ at_place c.args.terms.now c.loop-i.i (Var 0, pos 0) c.args.column k c.loop-i-test.true (sym c.same_column.ensures ∙ c.if-same_column.true)

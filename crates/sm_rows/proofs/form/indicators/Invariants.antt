use Rattle.std.proofs.Common.{◌≡◌, ◌++◌, drop}
use Rattle.std.specs.Prelude.{filter}
use Rattle.sm_kinds.specs.Literals.{passes}
use Rattle.sm_rows.specs.Forms.{same_each, indicators}
use Rattle.sm_rows.proofs.form.indicators.Given as goal

abbrev pub invariant-loop-value : goal.invariant-loop-value
invariant-loop-value l = l.terms.items ++ indicators l.literal.var (same_each l.k) (filter (passes l.literal) (drop l.value-index l.values)) ≡ indicators l.literal.var (same_each l.k) (filter (passes l.literal) l.values)

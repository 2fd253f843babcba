use Rattle.std.proofs.Common.{◌≡◌, take}
use Rattle.rule_basic.specs.MeanRows.{mean_terms}
use Rattle.rule_basic.proofs.mean_row.mean_terms.Given as goal

abbrev pub invariant-loop-value : goal.invariant-loop-value
invariant-loop-value l = l.found.items ≡ mean_terms l.var (take l.value-index l.values)

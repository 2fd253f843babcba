use Rattle.std.proofs.Common.{◌≡◌, take, pos}
use Rattle.sm_rows.specs.Forms.{indicators, same_each}
use Rattle.rule_basic.proofs.link_row.indicators.Given as goal

abbrev pub invariant-loop-value : goal.invariant-loop-value
invariant-loop-value l = l.found.items ≡ indicators l.var (same_each (pos 1)) (take l.value-index l.values)

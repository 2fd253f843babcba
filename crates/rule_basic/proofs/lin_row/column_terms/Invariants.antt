use Rattle.std.proofs.Common.{◌≡◌, take}
use Rattle.rule_basic.specs.LinRows.{column_terms}
use Rattle.rule_basic.proofs.lin_row.column_terms.Given as goal

abbrev pub invariant-loop-term : goal.invariant-loop-term
invariant-loop-term l = l.found.items ≡ column_terms (take l.term-index l.terms)

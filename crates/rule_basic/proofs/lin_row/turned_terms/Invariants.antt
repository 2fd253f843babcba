use Rattle.std.proofs.Common.{◌≡◌, take}
use Rattle.rule_basic.specs.LinRows.{turned_terms}
use Rattle.rule_basic.proofs.lin_row.turned_terms.Given as goal

abbrev pub invariant-loop-term : goal.invariant-loop-term
invariant-loop-term l = l.found.items ≡ turned_terms (take l.term-index l.terms)

use Rattle.std.proofs.Common.{◌∙◌, sym, ap, ℕ}
use Rattle.sm_frac.specs.Rational.{neg_ℚ}
use Rattle.sm_certificate.specs.Numbers.{number_at}
use Rattle.sm_lp.proofs.pivot.own_entry.Goals as goal

pub returns-then-j-column-clause-here : goal.returns-then-j-column-clause-here
returns-then-j-column-clause-here c e = sym c.cell_of.ensures ∙ ap (λ (k : ℕ). number_at c.args.quotients.now k) e

pub returns-else-j-column-clause-other : goal.returns-else-j-column-clause-other
returns-else-j-column-clause-other c ne = c.turned.ensures ∙ ap neg_ℚ (sym c.cell_of-else-j-column.ensures)

use Rattle.std.proofs.Common.{◌≡◌, ℕ, ◌<◌, suc, vec_len}
use Rattle.sm_frac.specs.declared.operation.Op.TheVariants.{Over}
use Rattle.sm_certificate.specs.Numbers.{number_at}
use Rattle.sm_lp.specs.Steps.{dividend, quotient}
use Rattle.sm_lp.specs.Table.{dictionary_of}
use Rattle.sm_certificate.specs.Fine.{IsFine}
use Rattle.sm_lp.proofs.pivot.quotients_of.Given as goal

abbrev pub invariant-loop-j : goal.invariant-loop-j
invariant-loop-j l = record {
  long : vec_len l.blank ≡ suc l.table.constant;
  exact : (k : ℕ) → k < l.j → number_at l.blank.items k ≡ quotient (dictionary_of l.table) l.row l.column k;
  fine : (k : ℕ) → k < l.j → IsFine Over (dividend (dictionary_of l.table) l.row l.column k) ((dictionary_of l.table).entry l.row l.column);
}

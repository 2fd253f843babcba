use Rattle.std.proofs.Common.{◌≡◌, ℕ, ◌<◌, vec_len}
use Rattle.sm_frac.specs.declared.operation.Op.TheVariants.{Plus}
use Rattle.sm_certificate.specs.Numbers.{number_at}
use Rattle.sm_certificate.specs.Program.{column_count, low}
use Rattle.sm_lp.specs.Steps.{column_value, constant_of}
use Rattle.sm_lp.specs.Table.{dictionary_of}
use Rattle.sm_certificate.specs.Fine.{IsFine}
use Rattle.sm_lp.proofs.ending.column_values.Given as goal

abbrev pub invariant-loop-j : goal.invariant-loop-j
invariant-loop-j l = record {
  long : vec_len l.values ≡ column_count l.program;
  exact : (k : ℕ) → k < l.j → number_at l.values.items k ≡ column_value l.program (dictionary_of l.table) k;
  fine : (k : ℕ) → k < l.j → IsFine Plus (low l.program k) (constant_of (dictionary_of l.table) (column_count l.program) k);
}

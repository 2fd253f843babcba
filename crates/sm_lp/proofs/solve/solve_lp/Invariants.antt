use Rattle.std.proofs.Common.{◌≡◌, ◌^◌, suc, ◌<◌}
use Rattle.sm_certificate.specs.Slacks.{slack_count, number_count}
use Rattle.sm_certificate.specs.Program.{column_count}
use Rattle.sm_lp.specs.Path.{successor, IsOnPath}
use Rattle.sm_lp.specs.Table.{dictionary_of}
use Rattle.sm_lp.proofs.Count.{steps_left}
use Rattle.sm_lp.proofs.solve.solve_lp.Given as goal

abbrev pub invariant-loop-table : goal.invariant-loop-table
invariant-loop-table l = record {
  path : IsOnPath l.program (dictionary_of l.table);
  goal : l.table.goal ≡ slack_count l.program;
  constant : l.table.constant ≡ column_count l.program;
  small : suc (number_count l.program) < 2 ^ 32;
}

abbrev pub decreases-loop-table : goal.decreases-loop-table
decreases-loop-table l = steps_left (successor l.program) (2 ^ number_count l.program) (dictionary_of l.table)

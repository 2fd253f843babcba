use Rattle.std.proofs.Common.{◌≡◌, ◌≤◌, ◌*◌, ◌^◌, drop, unsigned_abs, ◌+ℤ◌}
use Rattle.sm_kinds.specs.Cumulative.{load_at}
use Rattle.sm_kinds.specs.Tasks.{start_at}
use Rattle.sm_kinds.proofs.cumulative.load_at.Given as goal

abbrev pub invariant-loop-task : goal.invariant-loop-task
invariant-loop-task g l = record {
  so_far : l.load +ℤ load_at (g.V.Values.point l.a) (start_at (g.V.Values.point l.a) l.starting) (drop l.task-index l.tasks) ≡ load_at (g.V.Values.point l.a) (start_at (g.V.Values.point l.a) l.starting) l.tasks;
  bound : unsigned_abs l.load ≤ l.task-index * 2 ^ 31;
}

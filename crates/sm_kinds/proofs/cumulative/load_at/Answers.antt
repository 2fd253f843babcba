use Rattle.std.proofs.Common.{arith}
use Rattle.std.proofs.lemmas.Int.{ints}
use Rattle.sm_kinds.proofs.Steps.{load_at_more}
use Rattle.sm_kinds.specs.Tasks.{no_task, start_at}
use Rattle.sm_kinds.proofs.cumulative.load_at.Goals as goal

pub loop-task-preserved : goal.loop-task-preserved
loop-task-preserved g c =
    let step = load_at_more (g.V.Values.point c.args.a.now) (start_at (g.V.Values.point c.args.a.now) c.args.starting.now) c.args.tasks.now c.loop-task.task-index no_task c.loop-task-test.true in
    record {
      so_far = omega (arith, ints, step, c.loop-task.invariant.so_far, c.demand_at-load.ensures.value);
      bound = omega (arith, ints, c.loop-task.invariant.bound, c.demand_at-load.ensures.bound);
    }

-- It is enough to look at the earliest of the declared starts.
use Rattle.std.proofs.Common.{ℕ, ◌<◌, ◌↔◌, List, length, arith, subst}
use Rattle.std.proofs.lemmas.Int.{ints}
use Rattle.std.proofs.lemmas.List.{get_or_default}
use Rattle.std.specs.Prelude.{◌≤ℤ◌, All}
use Rattle.sm_kinds.specs.declared.tasks.Task.{Task}
use Rattle.sm_kinds.specs.declared.var.Var.{Var}
use Rattle.sm_kinds.specs.Tasks.{EndsNear, IsNear, earliest_start, task_at, no_task}

-- what ends near the earliest start ends near each start, since these are later
pub near_earliest : (vars : List Var) (tasks : List Task) (i : ℕ) → i < length tasks → ((k : ℕ) → k < length tasks → earliest_start vars (task_at tasks i) ≤ℤ earliest_start vars (task_at tasks k)) → All (EndsNear vars (earliest_start vars (task_at tasks i))) tasks ↔ IsNear vars tasks
near_earliest vars tasks i lt least = (
  (λ all j d within k e inside.
      let later = subst (λ (t : Task). earliest_start vars (task_at tasks i) ≤ℤ earliest_start vars t) (get_or_default tasks j no_task d within) (least j within) in
      let near = all k e inside in
      omega (arith, ints, later, near)),
  (λ near. near i no_task lt),
)

-- Tasks: what starts at a variable's value, lasts a while, and is there or not.
use Rattle.std.specs.Prelude.{ℕ, ◌≤◌, List, length, ℤ, pos, ◌+ℤ◌, ◌-ℤ◌, ◌*ℤ◌, ◌≤ℤ◌, Bool, true, All, Option, None, Some, IfSome, sum_by, slice_index_or}
use Rattle.sm_kinds.specs.declared.var.Var.{Var}
use Rattle.sm_kinds.specs.declared.literal.Literal.{Literal}
use Rattle.sm_kinds.specs.declared.tasks.Task.{Task}
use Rattle.sm_kinds.specs.Limits.{IsAmount, greatest_number, most_tasks, most_horizon}
use Rattle.sm_kinds.specs.Literals.{is_true, IsLiteral}
use Rattle.sm_kinds.specs.Points.{Point}
use Rattle.sm_kinds.specs.Vars.{IsSet, var_at, first_of, last_of}

pub record IsTask (vars : List Var) (t : Task) : Type 0 where
  pub start : IsSet vars t.start
  pub duration : IsAmount t.duration
  pub demand : IsAmount t.demand
  pub present : IfSome t.present (IsLiteral vars greatest_number)

-- the least declared start of a task, and the greatest declared end
abbrev pub earliest_start : List Var → Task → ℤ
earliest_start vars t = first_of (var_at vars t.start).values

abbrev pub latest_end : List Var → Task → ℤ
latest_end vars t = last_of (var_at vars t.start).values +ℤ t.duration

-- the task's last declared end is no further than the limit after a time
abbrev pub EndsNear : List Var → ℤ → Task → Type 0
EndsNear vars time t = (latest_end vars t -ℤ time) ≤ℤ pos most_horizon

-- no declared end is further than the limit after a declared start
abbrev pub IsNear : List Var → List Task → Type 0
IsNear vars tasks = All (λ (u : Task). All (EndsNear vars (earliest_start vars u)) tasks) tasks

pub record AreTasks (vars : List Var) (tasks : List Task) : Type 0 where
  pub few : length tasks ≤ most_tasks
  pub each : All (IsTask vars) tasks
  pub near : IsNear vars tasks

-- what a number that no task has names
abbrev pub no_task : Task
no_task = record { start = 0; duration = pos 0; demand = pos 0; present = None }

abbrev pub task_at : List Task → ℕ → Task
task_at tasks i = slice_index_or tasks i no_task

-- the literals of a task
abbrev pub presence_size : Option Literal → ℕ
presence_size None = 0
presence_size (Some l) = 1

abbrev pub task_size : Task → ℕ
task_size t = presence_size t.present

abbrev pub tasks_size : List Task → ℕ
tasks_size tasks = sum_by task_size tasks

-- each variable of the tasks has this property
pub record EachTaskVar (P : ℕ → Type 0) (t : Task) : Type 0 where
  pub start : P t.start
  pub present : IfSome t.present (λ l. P l.var)

abbrev pub EachTasksVar : (ℕ → Type 0) → List Task → Type 0
EachTasksVar P tasks = All (EachTaskVar P) tasks

-- a task is present where it has no literal, or its literal is true
abbrev pub is_true_if_any : Point → Option Literal → Bool
is_true_if_any a None = true
is_true_if_any a (Some l) = is_true a l

abbrev pub is_present : Point → Task → Bool
is_present a t = is_true_if_any a t.present

-- when a task starts and ends, times the denominator
abbrev pub start_at : Point → Task → ℤ
start_at a t = a.numerator t.start

abbrev pub end_at : Point → Task → ℤ
end_at a t = start_at a t +ℤ (t.duration *ℤ a.denominator)

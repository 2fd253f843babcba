-- Disjunctive: of each two present tasks with positive durations one ends at or before the other's start.
use Rattle.std.specs.Prelude.{◌≡◌, ℕ, ◌⊎◌, List, pos, ◌≤ℤ◌, Bool, true, ◌&&◌, int_lt, All, AllPairs}
use Rattle.sm_kinds.specs.declared.var.Var.{Var}
use Rattle.sm_kinds.specs.declared.tasks.Task.{Task}
use Rattle.sm_kinds.specs.Points.{Point}
use Rattle.sm_kinds.specs.Tasks.{AreTasks, tasks_size, EachTasksVar, is_present, start_at, end_at}

-- ---- its limits, and how its parts fit

pub record IsDisjunctive (vars : List Var) (tasks : List Task) : Type 0 where
  pub fit : AreTasks vars tasks
  pub demands : All (λ (t : Task). t.demand ≡ pos 1) tasks

-- ---- its size

abbrev pub disjunctive_size : List Task → ℕ
disjunctive_size tasks = tasks_size tasks

-- ---- its variables

-- each of its variables has this property
abbrev pub EachDisjunctiveVar : (ℕ → Type 0) → List Task → Type 0
EachDisjunctiveVar P tasks = EachTasksVar P tasks

-- ---- when it holds

-- a present task that takes time
abbrev pub takes_time : Point → Task → Bool
takes_time a t = is_present a t && int_lt (pos 0) t.duration

-- where both are present and take time, one of the tasks ends before the other starts, or just then
pub record AreApart (a : Point) (t u : Task) : Type 0 where
  pub apart : takes_time a t ≡ true → takes_time a u ≡ true → (end_at a t ≤ℤ start_at a u) ⊎ (end_at a u ≤ℤ start_at a t)

-- Of any two present tasks that take time, one ends before the other starts, or just then.
abbrev pub SatDisjunctive : List Task → Point → Type 0
SatDisjunctive tasks a = AllPairs (AreApart a) tasks

-- Cumulative: at the start of each present task, the demands of the present tasks that run then sum to at most the capacity.
use Rattle.std.specs.Prelude.{◌≡◌, ℕ, List, [], ◌∷◌, ℤ, pos, ◌+ℤ◌, ◌≤ℤ◌, Bool, true, ◌&&◌, if◌then◌else◌, int_le, int_lt, All}
use Rattle.sm_kinds.specs.declared.var.Var.{Var}
use Rattle.sm_kinds.specs.declared.tasks.Task.{Task}
use Rattle.sm_kinds.specs.Limits.{IsAmount}
use Rattle.sm_kinds.specs.Points.{Point}
use Rattle.sm_kinds.specs.Tasks.{AreTasks, tasks_size, EachTasksVar, is_present, start_at, end_at}

-- ---- its limits, and how its parts fit

pub record IsCumulative (vars : List Var) (capacity : ℤ) (tasks : List Task) : Type 0 where
  pub room : IsAmount capacity
  pub fit : AreTasks vars tasks

-- ---- its size

abbrev pub cumulative_size : List Task → ℕ
cumulative_size tasks = tasks_size tasks

-- ---- its variables

-- each of its variables has this property
abbrev pub EachCumulativeVar : (ℕ → Type 0) → List Task → Type 0
EachCumulativeVar P tasks = EachTasksVar P tasks

-- ---- when it holds

-- a present task runs from its start on, and no more at its end
abbrev pub runs_at : Point → ℤ → Task → Bool
runs_at a time t = is_present a t && (int_le (start_at a t) time && int_lt time (end_at a t))

-- what a task demands at a time
abbrev pub demand_at : Point → ℤ → Task → ℤ
demand_at a time t = if runs_at a time t then t.demand else pos 0

-- the demands of the tasks that run at a time
abbrev pub load_at : Point → ℤ → List Task → ℤ
load_at a time [] = pos 0
load_at a time (t ∷ ts) = demand_at a time t +ℤ load_at a time ts

-- where the task is present, what runs at its start fits the capacity
pub record StartFits (a : Point) (capacity : ℤ) (tasks : List Task) (t : Task) : Type 0 where
  pub fits : is_present a t ≡ true → load_at a (start_at a t) tasks ≤ℤ capacity

-- Whenever a present task starts, the present tasks that run then demand no more than the capacity together.
abbrev pub SatCumulative : ℤ → List Task → Point → Type 0
SatCumulative capacity tasks a = All (StartFits a capacity tasks) tasks

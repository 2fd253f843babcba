-- Tasks whose parts have their roles, with numbers and a horizon within the limits, fit the variables.
use Rattle.std.proofs.Common.{◌≤◌, arith, ℤ, pos, List, [], ◌∷◌, map, get_or, All, Option, Some, None, IfSome}
use Rattle.std.specs.Prelude.{◌-ℤ◌, ◌≤ℤ◌, unsigned_abs}
use Rattle.std.proofs.lemmas.Int.{ints}
use Rattle.std.proofs.lemmas.List.Elements.{All-nil, All-head, All-tail}
use Rattle.sm_kinds.specs.declared.var.Var.{Var}
use Rattle.sm_kinds.specs.declared.literal.Literal.{Literal}
use Rattle.sm_kinds.specs.declared.tasks.Task.{Task}
use Rattle.sm_kinds.specs.Limits.{IsSmall, greatest_number, most_horizon}
use Rattle.sm_kinds.specs.Literals.{IsLiteral}
use Rattle.sm_kinds.specs.Tasks.{IsTask, IsNear, EndsNear, earliest_start, latest_end}
use Rattle.sm_kinds.specs.Vars.{IsSet, IsDiscrete}
use Rattle.sm_meaning.specs.Limits.{presence_bounds, task_bounds, least_of, greatest_of, horizon_of}
use Rattle.sm_flattening.proofs.Lists.{all_map}
use Rattle.sm_flattening.proofs.Rising.{least_within, greatest_within}

-- ---- one task

-- its variables and the signs of its numbers are right
pub record HasTaskParts (vars : List Var) (t : Task) : Type 0 where
  pub start : IsSet vars t.start
  pub duration : pos 0 ≤ℤ t.duration
  pub demand : pos 0 ≤ℤ t.demand
  pub present : IfSome t.present (λ (l : Literal). IsDiscrete vars l.var)

presence_fits : (vars : List Var) (o : Option Literal) → IfSome o (λ (l : Literal). IsDiscrete vars l.var) → All IsSmall (presence_bounds o) → IfSome o (IsLiteral vars greatest_number)
presence_fits vars None h small = tt
presence_fits vars (Some l) h small = record { discrete = h; small = All-head IsSmall l.bound [] small }

pub task_fits : (vars : List Var) (t : Task) → HasTaskParts vars t → All IsSmall (task_bounds t) → IsTask vars t
task_fits vars t h small =
    let others = All-tail IsSmall t.duration (t.demand ∷ presence_bounds t.present) small in
    record {
      start = h.start;
      duration = record { least = h.duration; small = All-head IsSmall t.duration (t.demand ∷ presence_bounds t.present) small };
      demand = record { least = h.demand; small = All-head IsSmall t.demand (presence_bounds t.present) others };
      present = presence_fits vars t.present h.present (All-tail IsSmall t.demand (presence_bounds t.present) others);
    }

-- ---- how far tasks reach

abbrev first_start : List Var → Task → List Task → ℤ
first_start vars t ts = least_of (earliest_start vars t) (map (earliest_start vars) ts)

abbrev last_end : List Var → Task → List Task → ℤ
last_end vars t ts = greatest_of (latest_end vars t) (map (latest_end vars) ts)

starts_after : (vars : List Var) (t : Task) (ts : List Task) → All (λ (u : Task). first_start vars t ts ≤ℤ earliest_start vars u) (t ∷ ts)
starts_after vars t ts = let start = earliest_start vars in (all_map (λ z. first_start vars t ts ≤ℤ z) start (t ∷ ts)).1 (least_within (start t) (map start ts))

ends_before : (vars : List Var) (t : Task) (ts : List Task) → All (λ (u : Task). latest_end vars u ≤ℤ last_end vars t ts) (t ∷ ts)
ends_before vars t ts = let end = latest_end vars in (all_map (λ z. z ≤ℤ last_end vars t ts) end (t ∷ ts)).1 (greatest_within (end t) (map end ts))

between : (first last start end : ℤ) → unsigned_abs (last -ℤ first) ≤ most_horizon → first ≤ℤ start → end ≤ℤ last → (end -ℤ start) ≤ℤ pos most_horizon
between first last start end h low high = omega (arith, ints)

-- each end is at most the greatest, each start at least the least, and these are no further apart than the limit
pub tasks_near : (vars : List Var) (ts : List Task) → unsigned_abs (horizon_of vars ts) ≤ most_horizon → IsNear vars ts
tasks_near vars [] h = All-nil (λ (u : Task). All (EndsNear vars (earliest_start vars u)) [])
tasks_near vars (t ∷ ts) h = λ k d lt j c less.
    between (first_start vars t ts) (last_end vars t ts) (earliest_start vars (get_or (t ∷ ts) k d)) (latest_end vars (get_or (t ∷ ts) j c))
    h (starts_after vars t ts k d lt) (ends_before vars t ts j c less)

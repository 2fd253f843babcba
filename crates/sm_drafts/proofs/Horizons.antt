-- The first of the tasks, and the rest, in their horizon.
use Rattle.std.proofs.Common.{◌≡◌, ◌∙◌, ap, sym, refl, ℕ, ◌-◌, ◌≤◌, arith, List, [], ◌∷◌, map, length, take, drop, get_or, ℤ, if◌then◌else◌}
use Rattle.std.specs.Prelude.{◌-ℤ◌, int_lt, Result}
use Rattle.sm_data.specs.declared.refusal.Counted.{Counted}
use Rattle.sm_kinds.specs.declared.tasks.Task.{Task}
use Rattle.sm_kinds.specs.declared.var.Var.{Var}
use Rattle.sm_kinds.specs.Tasks.{earliest_start, latest_end}
use Rattle.sm_meaning.specs.declared.refusal.ExpandRefusal.{ExpandRefusal}
use Rattle.sm_meaning.specs.Refusals.{number_over}
use Rattle.sm_meaning.specs.Trials.{tried}
use Rattle.sm_meaning.specs.Limits.{least_of, greatest_of, horizon_of}
use Rattle.sm_drafts.specs.Drafts.{Passes}
use Rattle.sm_drafts.proofs.Parts.{passes_same}

abbrev pub rest_of : List Task → List Task
rest_of ts = take (length ts - 1) (drop 1 ts)

take_all : (ts : List Task) → take (length ts) ts ≡ ts
take_all [] = refl
take_all (t ∷ ts) = ap (λ us. t ∷ us) (take_all ts)

first_and_rest : (ts : List Task) (d : Task) → 1 ≤ length ts → ts ≡ get_or ts 0 d ∷ rest_of ts
first_and_rest [] d some = absurd (omega arith)
first_and_rest (t ∷ ts) d some =
    let e : length (t ∷ ts) - 1 ≡ length ts = omega arith in
    ap (λ us. t ∷ us) (sym (ap (λ (n : ℕ). take n ts) e ∙ take_all ts))

pub greatest_first : (f : Task → ℤ) (g : ℤ) (ts : List Task) (d : Task) → 1 ≤ length ts
    → greatest_of (if int_lt g (f (get_or ts 0 d)) then f (get_or ts 0 d) else g) (map f (rest_of ts)) ≡ greatest_of g (map f ts)
greatest_first f g ts d some = sym (ap (λ us. greatest_of g (map f us)) (first_and_rest ts d some))

pub horizon_first : (vars : List Var) (ts : List Task) (d : Task) → 1 ≤ length ts
    → greatest_of (latest_end vars (get_or ts 0 d)) (map (latest_end vars) (rest_of ts)) -ℤ least_of (earliest_start vars (get_or ts 0 d)) (map (earliest_start vars) (rest_of ts)) ≡ horizon_of vars ts
horizon_first vars ts d some = sym (ap (λ us. horizon_of vars us) (first_and_rest ts d some))

-- the same number
pub number_same : (what : Counted) (bound : ℕ) (y z : ℤ) (r : Result (Unit {0}) ExpandRefusal) → y ≡ z → Passes (tried (number_over what bound y)) r → Passes (tried (number_over what bound z)) r
number_same what bound y z r is h = passes_same (tried (number_over what bound y)) (tried (number_over what bound z)) r (λ count. ap (λ (x : ℤ). tried (number_over what bound x) count) is) h

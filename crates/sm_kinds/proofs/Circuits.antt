-- The walk from node 0 along the variables of a circuit.
use Rattle.std.proofs.Common.{◌≡◌, ◌≢◌, ℕ, zero, suc, ◌+◌, ◌-◌, ◌/◌, ◌<◌, ◌≤◌, ◌⊎◌, inl, inr, List, length, arith, refl, sym, ap, ◌∙◌, subst, add-one, add-zero, add-suc}
use Rattle.std.proofs.lemmas.Bool.{cases_order}
use Rattle.std.specs.Prelude.{pos, ◌≤ℤ◌, unsigned_abs}
use Rattle.sm_kinds.proofs.Pigeons.{IsInjective, hits_each, each_once}
use Rattle.sm_kinds.proofs.Places.{place_is_quotient}
use Rattle.sm_kinds.specs.Circuit.{SatCircuit, successor_of}
use Rattle.sm_kinds.specs.Points.{Point, HasValue}

-- the node after this one, where its variable has a whole value
abbrev pub next : Point → List ℕ → ℕ → ℕ
next a xs node = unsigned_abs (a.numerator (successor_of xs node)) / unsigned_abs a.denominator

-- the node that the walk from node 0 reaches by this many steps
abbrev pub walk : Point → List ℕ → ℕ → ℕ
walk a xs zero = 0
walk a xs (suc k) = next a xs (walk a xs k)

pub walk_more : (a : Point) (xs : List ℕ) (k : ℕ) → walk a xs (k + 1) ≡ next a xs (walk a xs k)
walk_more a xs k = ap (walk a xs) (add-one k)

-- the walk is at this node after this many steps, each along a variable's value, and wasn't at node 0 in between
pub record IsWalking (a : Point) (xs : List ℕ) (step node : ℕ) : Type 0 where
  pub here : node ≡ walk a xs step
  pub inside : node ≤ length xs - 1
  pub unit : 0 < step → pos 1 ≤ℤ a.denominator
  pub known : (k : ℕ) → k < step → HasValue a (successor_of xs (walk a xs k)) (pos (walk a xs (k + 1)))
  pub below : (k : ℕ) → k < step → walk a xs k < length xs
  pub away : (k : ℕ) → 0 < k → k < step → walk a xs k ≢ 0

pub IsWalking-none : (a : Point) (xs : List ℕ) → IsWalking a xs 0 0
IsWalking-none a xs = record {
  here = refl;
  inside = omega arith;
  unit = λ h. absurd (omega arith);
  known = λ k h. absurd (omega arith);
  below = λ k h. absurd (omega arith);
  away = λ k p h. absurd (omega arith);
}

-- what holds at the numbers below step and at step holds at the numbers below step + 1
pub below_step : (P : ℕ → Type 0) (step : ℕ) → ((k : ℕ) → k < step → P k) → P step → (k : ℕ) → k < step + 1 → P k
below_step P step h here k lt = cases (cases_order k step)
  where
    cases : (k ≡ step) ⊎ ((k < step) ⊎ (step < k)) → P k
    cases (inl e) = subst P (sym e) here
    cases (inr (inl less)) = h k less
    cases (inr (inr more)) = absurd (omega arith)

pub IsWalking-more : (a : Point) (xs : List ℕ) (step node after : ℕ) → step < length xs → IsWalking a xs step node → (0 < step → node ≢ 0) → pos 1 ≤ℤ a.denominator → after < length xs → HasValue a (successor_of xs node) (pos after) → IsWalking a xs (step + 1) after
IsWalking-more a xs step node after lt w ne unit inside value =
    let reached : after ≡ walk a xs (step + 1) = sym (walk_more a xs step ∙ ap (next a xs) (sym w.here) ∙ place_is_quotient (a.numerator (successor_of xs node)) a.denominator after unit value) in
    record {
      here = reached;
      inside = omega arith;
      unit = λ h. unit;
      known = below_step (λ k. HasValue a (successor_of xs (walk a xs k)) (pos (walk a xs (k + 1)))) step w.known (subst (λ n. HasValue a (successor_of xs n) (pos (walk a xs (step + 1)))) w.here (subst (λ n. HasValue a (successor_of xs node) (pos n)) reached value));
      below = below_step (λ k. walk a xs k < length xs) step w.below (omega (arith, w.here, w.inside));
      away = λ k p h. below_step (λ n. 0 < n → walk a xs n ≢ 0) step (λ n i q. w.away n q i) (λ q e. ne q (w.here ∙ e)) k h p;
    }

-- a walk that is at one node twice goes on in the same way after both
pub walk_same : (a : Point) (xs : List ℕ) (j k i : ℕ) → walk a xs j ≡ walk a xs k → walk a xs (j + i) ≡ walk a xs (k + i)
walk_same a xs j k zero e = subst (λ n. walk a xs n ≡ walk a xs (k + 0)) (sym (add-zero j)) (subst (λ n. walk a xs j ≡ walk a xs n) (sym (add-zero k)) e)
walk_same a xs j k (suc i) e = ap (walk a xs) (add-suc j i) ∙ ap (next a xs) (walk_same a xs j k i e) ∙ sym (ap (walk a xs) (add-suc k i))

-- The stops before the walk is first back at node 0 are different: two that are the same would bring it back before.
pub walk_apart : (a : Point) (xs : List ℕ) (n : ℕ) → walk a xs n ≡ 0 → ((k : ℕ) → 0 < k → k < n → walk a xs k ≢ 0) → IsInjective n (walk a xs)
walk_apart a xs n back away j k h i e = cases (cases_order j k)
  where
    early : (j k : ℕ) → j < k → k < n → walk a xs j ≡ walk a xs k → ⊥
    early j k less lt e =
        let end : k + (n - k) ≡ n = omega arith in
        away (j + (n - k)) (omega arith) (omega arith) (walk_same a xs j k (n - k) e ∙ ap (walk a xs) end ∙ back)

    cases : (j ≡ k) ⊎ ((j < k) ⊎ (k < j)) → j ≡ k
    cases (inl same) = same
    cases (inr (inl less)) = absurd (early j k less i e)
    cases (inr (inr more)) = absurd (early k j more h (sym e))

-- a walk that is first back after as many steps as there are nodes is a circuit
pub circuit_from_walk : (a : Point) (xs : List ℕ) → IsWalking a xs (length xs) 0 → SatCircuit xs a
circuit_from_walk a xs w = record {
  stop = walk a xs;
  first = refl;
  follows = w.known;
  visited = hits_each (length xs) (walk a xs) w.below (walk_apart a xs (length xs) (sym w.here) w.away);
  returns = sym w.here;
}

module _ (a : Point) (xs : List ℕ) (s : SatCircuit xs a) where
  -- the stops of a circuit are those of the walk
  pub stops_are_walk : pos 1 ≤ℤ a.denominator → (k : ℕ) → k ≤ length xs → s.stop k ≡ walk a xs k
  stops_are_walk unit zero h = s.first
  stops_are_walk unit (suc k) h =
      let value : HasValue a (successor_of xs (s.stop k)) (pos (s.stop (suc k))) = subst (λ n. HasValue a (successor_of xs (s.stop k)) (pos (s.stop n))) (add-one k) (s.follows k h) in
      sym (place_is_quotient (a.numerator (successor_of xs (s.stop k))) a.denominator (s.stop (suc k)) unit value) ∙ ap (next a xs) (stops_are_walk unit k (omega arith))

  -- no circuit is back at node 0 before it has been everywhere
  pub circuit_not_early : (step : ℕ) → IsWalking a xs step 0 → 0 < step → step < length xs → ⊥
  circuit_not_early step w p lt =
      let same : s.stop step ≡ s.stop 0 = stops_are_walk (w.unit p) step (omega arith) ∙ sym w.here ∙ sym s.first in
      omega (arith, (each_once (length xs) s.stop s.visited).1 step 0 lt (omega arith) same)

  -- a circuit goes on from each of its stops
  pub circuit_goes_on : (step node : ℕ) → pos 1 ≤ℤ a.denominator → IsWalking a xs step node → step < length xs → (j : ℕ) × (j < length xs) × HasValue a (successor_of xs node) (pos j)
  circuit_goes_on step node unit w lt =
      let at : s.stop step ≡ node = stops_are_walk unit step (omega arith) ∙ sym w.here in
      (s.stop (step + 1), ends (cases_order (step + 1) (length xs)), subst (λ n. HasValue a (successor_of xs n) (pos (s.stop (step + 1)))) at (s.follows step lt))
    where
      ends : (step + 1 ≡ length xs) ⊎ ((step + 1 < length xs) ⊎ (length xs < step + 1)) → s.stop (step + 1) < length xs
      ends (inl e) = omega (arith, lt, ap s.stop e ∙ s.returns)
      ends (inr (inl less)) = (each_once (length xs) s.stop s.visited).0 (step + 1) less
      ends (inr (inr more)) = absurd (omega arith)

  -- a circuit ends at node 0
  pub circuit_returns : (node : ℕ) → IsWalking a xs (length xs) node → node ≡ 0
  circuit_returns node w = ends (cases_order 0 (length xs))
    where
      ends : (0 ≡ length xs) ⊎ ((0 < length xs) ⊎ (length xs < 0)) → node ≡ 0
      ends (inl e) = w.here ∙ ap (walk a xs) (sym e)
      ends (inr (inl some)) = w.here ∙ sym (stops_are_walk (w.unit some) (length xs) (omega arith)) ∙ s.returns
      ends (inr (inr less)) = absurd (omega arith)

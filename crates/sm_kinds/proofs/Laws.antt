-- Laws of the kinds, beside their definitions.
use Rattle.std.proofs.Common.{◌≡◌, ◌∙◌, ◌↔◌, ap, sym, refl, subst₂, ℕ, ◌<◌, zero, suc, Bool, true, false, cond, arith, List, [], ◌∷◌, length, map, get_or}
use Rattle.std.proofs.lemmas.Int.{ints}
use Rattle.std.proofs.lemmas.Bool.{false≢true, and_parts}
use Rattle.std.proofs.lemmas.List.{get_or-map, length-map}
use Rattle.std.proofs.lemmas.List.Elements.{All-head, All-tail}
use Rattle.std.specs.Prelude.{ℤ, pos, ◌+ℤ◌, ◌≤ℤ◌, All, AllPairs, Contains, slice_index_or}
use Rattle.sm_kinds.proofs.Multiples.{times_cancel}
use Rattle.sm_kinds.proofs.Pigeons.{each_once}
use Rattle.sm_kinds.specs.Alldiff.{Differ, SatAlldiff}
use Rattle.sm_kinds.specs.Assign.{SatAssign}
use Rattle.sm_kinds.specs.Circuit.{SatCircuit}
use Rattle.sm_kinds.specs.Cumulative.{runs_at, load_at}
use Rattle.sm_kinds.specs.IndexSum.{SatIndexSum}
use Rattle.sm_kinds.specs.Limits.{IsAmount}
use Rattle.sm_kinds.specs.Linear.{SatLinear}
use Rattle.sm_kinds.specs.Logic.{has_true, satisfies_each, SatLogic}
use Rattle.sm_kinds.specs.Points.{Point, HasValue}
use Rattle.sm_kinds.specs.When.{SatWhen}
use Rattle.sm_kinds.specs.declared.choice.Choice.{Choice}
use Rattle.sm_kinds.specs.declared.linear.Cmp.TheVariants.{AtMost, AtLeast, Equal}
use Rattle.sm_kinds.specs.declared.linear.LinRow.{LinRow}
use Rattle.sm_kinds.specs.declared.logic.Clause.{Clause}
use Rattle.sm_kinds.specs.declared.tasks.Task.{Task}

-- Positions hold an alldiff where each has a whole value of its own: this many different ones, as a permutation gives them.
pub alldiff_of_permutation : (a : Point) (positions : List ℕ) (value : ℕ → ℤ) → pos 1 ≤ℤ a.denominator → ((k d : ℕ) → k < length positions → HasValue a (slice_index_or positions k d) (value k)) → ((j k : ℕ) → j < length positions → k < length positions → value j ≡ value k → j ≡ k) → SatAlldiff positions a
alldiff_of_permutation a positions value unit has own i j d less lt e =
    let earlier : i < length positions = omega arith in
    let same : value i ≡ value j = times_cancel (value i) (value j) a.denominator unit (sym (has i d earlier) ∙ e ∙ has j d lt) in
    omega (arith, own i j earlier lt same)

-- In a circuit each node is one of the first n stops, and only once.
pub circuit_visits_once : (successors : List ℕ) (a : Point) (s : SatCircuit successors a) (node : ℕ) → node < length successors → (k : ℕ) × (k < length successors) × (s.stop k ≡ node) × ((j : ℕ) → j < length successors → s.stop j ≡ node → j ≡ k)
circuit_visits_once successors a s node lt =
    let stop = s.visited node lt in
    (stop.0, stop.1, stop.2, λ j h e. (each_once (length successors) s.stop s.visited).1 j stop.0 h stop.1 (e ∙ sym stop.2))

-- Clauses of which one has no literal hold nowhere.
pub empty_clause_never_holds : (a : Point) (clauses : List Clause) (c : Clause) → Contains clauses c → c.literals ≡ [] → SatLogic clauses a → ⊥
empty_clause_never_holds a clauses c is_one none sat = at clauses is_one.0 c is_one.1 (ap (λ (x : Clause). x.literals) is_one.2 ∙ none) sat
  where
    at : (cs : List Clause) (k : ℕ) (d : Clause) → k < length cs → (get_or cs k d).literals ≡ [] → satisfies_each a cs ≡ true → ⊥
    at [] k d lt e h = omega arith
    at (x ∷ xs) zero d lt e h = false≢true (sym (ap (has_true a) e) ∙ (and_parts (has_true a x.literals) (satisfies_each a xs) h).0)
    at (x ∷ xs) (suc k) d lt e h = at xs k d (omega arith) e (and_parts (has_true a x.literals) (satisfies_each a xs) h).1

-- A row under no conditions holds where the row does.
pub when_without_conditions_is_its_row : (row : LinRow) (a : Point) → SatWhen [] row a ↔ SatLinear row a
when_without_conditions_is_its_row row a = ((λ s. s refl), (λ s h. s))

-- A row with an equation holds just where the same row holds both with at most and with at least.
pub equal_row_is_both : (row : LinRow) (a : Point) → SatLinear (record row { cmp = Equal }) a ↔ (SatLinear (record row { cmp = AtMost }) a × SatLinear (record row { cmp = AtLeast }) a)
equal_row_is_both row a = ((λ e. (omega (arith, ints, e), omega (arith, ints, e))), (λ s. omega (arith, ints, s.0, s.1)))

-- what holds of any two of a list's images holds of the images of any two
all_pairs_map : {X : Type 0} (R : ℕ → ℕ → Type 0) (f : X → ℕ) (d : X) (xs : List X) → AllPairs R (map f xs) ↔ AllPairs (λ p q. R (f p) (f q)) xs
all_pairs_map R f d xs =
    let inside : (k : ℕ) → k < length (map f xs) → k < length xs = λ k h. omega (arith, length-map xs f) in
    let image : (k e : ℕ) → k < length xs → get_or (map f xs) k e ≡ f (get_or xs k d) = λ k e h. get_or-map f xs k d e h in (
      (λ h i j e less lt. subst₂ R (get_or-map f xs i e 0 (omega arith)) (get_or-map f xs j e 0 lt) (h i j 0 less (omega (arith, length-map xs f)))),
      (λ h i j e less lt. subst₂ R (sym (image i e (omega (arith, inside j lt)))) (sym (image j e (inside j lt))) (h i j d less (inside j lt))),
    )

-- An assign is an indexsum whose variables are in an alldiff.
pub assign_is_indexsum_and_different : (c : Choice) (a : Point) → SatAssign c a ↔ (SatIndexSum c a × SatAlldiff (map (λ p. p.0) c.picks) a)
assign_is_indexsum_and_different c a =
    let differ = all_pairs_map {X = ℕ × List ℤ} (Differ a) (λ p. p.0) (0, []) c.picks in
    ((λ s. (s.sum, differ.1 s.different)), (λ s. record { different = differ.0 s.1; sum = s.0 }))

-- Tasks that demand nothing below 0 load no time with less than 0.
pub load_at_never_negative : (a : Point) (time : ℤ) (tasks : List Task) → All (λ (t : Task). IsAmount t.demand) tasks → pos 0 ≤ℤ load_at a time tasks
load_at_never_negative a time [] each = omega (arith, ints)
load_at_never_negative a time (t ∷ ts) each =
    let amount : pos 0 ≤ℤ t.demand = (All-head (λ (t : Task). IsAmount t.demand) t ts each).least in
    more (runs_at a time t) t.demand (load_at a time ts) amount (load_at_never_negative a time ts (All-tail (λ (t : Task). IsAmount t.demand) t ts each))
  where
    more : (b : Bool) (x y : ℤ) → pos 0 ≤ℤ x → pos 0 ≤ℤ y → pos 0 ≤ℤ (cond b x (pos 0) +ℤ y)
    more true x y h k = omega (arith, ints)
    more false x y h k = omega (arith, ints)

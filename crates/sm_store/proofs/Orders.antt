-- What is left of ordered numbers is ordered, and their ends.
use Rattle.std.proofs.Common.{◌≡◌, ℕ, zero, suc, ◌<◌, ◌≤◌, ◌^◌, Bool, true, false, cond, List, [], ◌∷◌, length, get_or, refl, arith, inl, inr, add-one}
use Rattle.std.specs.Prelude.{ℤ, pos, ◌<ℤ◌, ◌≤ℤ◌, int_le, AllPairs, unsigned_abs}
use Rattle.std.proofs.lemmas.Int.{ints}
use Rattle.std.proofs.lemmas.Bool.{cases_eq}
use Rattle.std.proofs.lemmas.List.{get_or_default}
use Rattle.std.proofs.lemmas.List.Elements.{All-filter}
use Rattle.std.proofs.lemmas.List.Kept.{AllPairs-filter}
use Rattle.sm_kinds.specs.declared.literal.Literal.{Literal}
use Rattle.sm_kinds.specs.declared.var.VarKind.{VarKind}
use Rattle.sm_kinds.specs.declared.var.VarKind.TheVariants.{Set, Int, Real}
use Rattle.sm_kinds.specs.Literals.{passes}
use Rattle.sm_kinds.specs.Vars.{IsRising, IsRange, IsDomain}
use Rattle.sm_store.specs.Stores.{IsOrdered, AreEnds, range, cut_range, kept_range, kept}
use Rattle.sm_store.proofs.Ranges.{all_none, all_two, cut_is}

ordered_range : (lo hi a b : ℤ) → unsigned_abs lo ≤ 2 ^ 31 → unsigned_abs hi ≤ 2 ^ 31 → lo ≤ℤ a → b ≤ℤ hi → IsOrdered Int (range a b)
ordered_range lo hi a b small_lo small_hi from to = cases (int_le a b) refl
  where
    cases : (c : Bool) → int_le a b ≡ c → IsOrdered Int (cond c (a ∷ b ∷ []) [])
    cases true e = record { order = grind (arith, ints); small = all_two (λ v. unsigned_abs v ≤ 2 ^ 31) a b (grind (arith, ints)) (grind (arith, ints)) }
    cases false e = record { order = record {}; small = all_none (λ v. unsigned_abs v ≤ 2 ^ 31) }

ordered_cut : (l : Literal) (lo hi : ℤ) → IsOrdered Int (lo ∷ hi ∷ []) → IsOrdered Int (cut_range l.test l.bound lo hi)
ordered_cut l lo hi ordered =
    let c = cut_is l.test l.bound lo hi in
    rw (c.2) (ordered_range lo hi c.0 c.1 (ordered.small 0 (pos 0) (omega arith)) (ordered.small 1 (pos 0) (omega arith)) c.3 c.4)

ordered_ends : (l : Literal) (values : List ℤ) → IsOrdered Int values → IsOrdered Int (kept_range l values)
ordered_ends l [] ordered = ordered
ordered_ends l (v ∷ []) ordered = absurd ordered.order
ordered_ends l (lo ∷ hi ∷ []) ordered = ordered_cut l lo hi ordered
ordered_ends l (lo ∷ hi ∷ v ∷ vs) ordered = absurd ordered.order

pub ordered_kept : (kind : VarKind) (l : Literal) (values : List ℤ) → IsOrdered kind values → IsOrdered kind (kept kind l values)
ordered_kept Set l values ordered = record {
  order = AllPairs-filter (λ (v w : ℤ). v <ℤ w) (passes l) values ordered.order;
  small = All-filter (passes l) (λ v. unsigned_abs v ≤ 2 ^ 31) values ordered.small;
}
ordered_kept Int l values ordered = ordered_ends l values ordered
ordered_kept Real l values ordered = ordered

-- where each number is below the next, it is below all that come after
pub rising_far : (values : List ℤ) → IsRising values → (i j : ℕ) → i < j → j < length values → (get_or values i (pos 0)) <ℤ (get_or values j (pos 0))
rising_far values rising i zero lt within = absurd (omega arith)
rising_far values rising i (suc j) lt within =
    let step : (get_or values j (pos 0)) <ℤ (get_or values (suc j) (pos 0)) = rw add-one at (rising j (omega arith)) in
    elim (cases_eq i j) [
      | inl e ↦ rw e step
      | inr ne ↦ omega (arith, ints, step, rising_far values rising i j (omega arith) (omega arith))
    ]

pub rising_pairs : (values : List ℤ) → IsRising values → AllPairs (λ (v w : ℤ). v <ℤ w) values
rising_pairs values rising i j d lt within =
    let first : get_or values i d ≡ get_or values i (pos 0) = get_or_default values i d (pos 0) (omega arith) in
    let second : get_or values j d ≡ get_or values j (pos 0) = get_or_default values j d (pos 0) within in
    rw (first, second) (rising_far values rising i j lt within)

ends_of_range : (values : List ℤ) → IsRange values → AreEnds values
ends_of_range [] domain = record {}
ends_of_range (v ∷ []) domain = let two = domain.two in absurd (omega (arith, two))
ends_of_range (lo ∷ hi ∷ []) domain = domain.ordered
ends_of_range (lo ∷ hi ∷ v ∷ vs) domain = let two = domain.two in absurd (omega (arith, two))

pub domain_ordered : (kind : VarKind) (values : List ℤ) → IsDomain kind values → IsOrdered kind values
domain_ordered Set values domain = record { order = rising_pairs values domain.rising; small = domain.small }
domain_ordered Int values domain = record { order = ends_of_range values domain; small = domain.small }
domain_ordered Real values domain = record { order = ends_of_range values domain; small = domain.small }

-- A value of a domain lies between the ends of the domain.
use Rattle.std.proofs.Common.{◌≡◌, ℕ, suc, ◌-◌, ◌<◌, List, [], ◌∷◌, length, get_or, arith, inl, inr}
use Rattle.std.specs.Prelude.{ℤ, pos, ◌*ℤ◌, ◌<ℤ◌, ◌≤ℤ◌, AllPairs}
use Rattle.std.proofs.lemmas.Int.{ints}
use Rattle.std.proofs.lemmas.Bool.{cases_eq}
use Rattle.sm_kinds.specs.declared.var.VarKind.{VarKind}
use Rattle.sm_kinds.specs.declared.var.VarKind.TheVariants.{Set, Int, Real}
use Rattle.sm_kinds.specs.Vars.{IsOneOf, IsBetween as LiesBetween, LiesIn}
use Rattle.sm_store.specs.Stores.{IsOrdered, AreEnds}
use Rattle.sm_store.proofs.Ranges.{times_mono}

-- the fraction is the number at this place
pub record IsAt (n d : ℤ) (vs : List ℤ) : Type 0 where
  pub place : ℕ
  pub within : place < length vs
  pub is : n ≡ get_or vs place (pos 0) *ℤ d

pub one_of_at : (n d : ℤ) (vs : List ℤ) → IsOneOf n d vs → IsAt n d vs
one_of_at n d [] h = elim h [ ]
one_of_at n d (v ∷ vs) (inl here) = record { place = 0; within = omega arith; is = here }
one_of_at n d (v ∷ vs) (inr there) =
    let at = one_of_at n d vs there in
    record { place = suc at.place; within = omega (arith, at.within); is = at.is }

low_le : (vs : List ℤ) → AllPairs (λ (v w : ℤ). v <ℤ w) vs → (j : ℕ) → j < length vs → (get_or vs 0 (pos 0)) ≤ℤ (get_or vs j (pos 0))
low_le vs rising j lt = elim (cases_eq 0 j) [
  | inl e ↦ rw (← e) (omega (arith, ints))
  | inr ne ↦ omega (arith, ints, rising 0 j (pos 0) (omega arith) lt)
]

le_high : (vs : List ℤ) → AllPairs (λ (v w : ℤ). v <ℤ w) vs → (j : ℕ) → j < length vs → (get_or vs j (pos 0)) ≤ℤ (get_or vs (length vs - 1) (pos 0))
le_high vs rising j lt = elim (cases_eq j (length vs - 1)) [
  | inl e ↦ rw e (omega (arith, ints))
  | inr ne ↦ omega (arith, ints, rising j (length vs - 1) (pos 0) (omega arith) (omega arith))
]

pub record IsBetween (low n high d : ℤ) : Type 0 where
  pub least : (low *ℤ d) ≤ℤ n
  pub most : n ≤ℤ (high *ℤ d)

between_ends : (vs : List ℤ) (n d : ℤ) → AreEnds vs → LiesBetween n d vs → IsBetween (get_or vs 0 (pos 0)) n (get_or vs (length vs - 1) (pos 0)) d
between_ends [] n d ends h = absurd h
between_ends (v ∷ []) n d ends h = absurd h
between_ends (low ∷ high ∷ []) n d ends h = record { least = h.0; most = h.1 }
between_ends (low ∷ high ∷ v ∷ vs) n d ends h = absurd ends

pub between : (kind : VarKind) (vs : List ℤ) (n d : ℤ) → pos 0 <ℤ d → IsOrdered kind vs → LiesIn kind vs n d → IsBetween (get_or vs 0 (pos 0)) n (get_or vs (length vs - 1) (pos 0)) d
between Set vs n d p ordered h =
    let at = one_of_at n d vs h in
    let low = times_mono _ _ d p (low_le vs ordered.order at.place at.within) in
    let high = times_mono _ _ d p (le_high vs ordered.order at.place at.within) in
    record { least = omega (arith, ints, low, at.is); most = omega (arith, ints, high, at.is) }
between Int vs n d p ordered h = between_ends vs n d ordered.order h.0
between Real vs n d p ordered h = between_ends vs n d ordered.order h

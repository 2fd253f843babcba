-- Halves of linear rows, and what a sum is at most over the boxes of a store.
use Rattle.std.specs.Prelude.{ℕ, ◌<◌, ◌≤◌, ◌==◌, List, [], ◌∷◌, length, map, All, ℤ, pos, ◌+ℤ◌, ◌-ℤ◌, ◌*ℤ◌, ◌<ℤ◌, ◌≤ℤ◌, neg_ℤ, int_le, Bool, true, false, Option, Some, None, option_map, if◌then◌else◌}
use Rattle.sm_kinds.specs.declared.linear.Cmp.{Cmp}
use Rattle.sm_kinds.specs.declared.linear.Cmp.TheVariants.{AtMost, AtLeast, Equal}
use Rattle.sm_kinds.specs.declared.linear.LinRow.{LinRow}
use Rattle.sm_kinds.specs.Limits.{IsSmall, most_terms}
use Rattle.sm_kinds.specs.Points.{Point}
use Rattle.sm_kinds.specs.Sums.{sum_at}
use Rattle.sm_store.specs.Stores.{Extent, extent_at, least_of, greatest_of}

-- a sum that is to be at least the bound
pub record Bounded : Type 0 where
  pub terms : List (ℕ × ℤ)
  pub bound : ℤ

abbrev pub negated : ℕ × ℤ → ℕ × ℤ
negated t = (t.0, neg_ℤ t.1)

abbrev pub turned_number : Bool → ℤ → ℤ
turned_number false z = z
turned_number true z = neg_ℤ z

-- the row, read as a sum that is at least the bound; or the turned row
abbrev pub side_of : LinRow → Bool → Bounded
side_of row false = record { terms = row.terms; bound = row.bound }
side_of row true = record { terms = map negated row.terms; bound = neg_ℤ row.bound }

-- whether half 0 of a row is turned, and whether half 1 is, where there is one
abbrev pub is_first_turned : Cmp → Bool
is_first_turned AtMost = true
is_first_turned AtLeast = false
is_first_turned Equal = false

abbrev pub second_turned : Cmp → Option Bool
second_turned AtMost = None
second_turned AtLeast = None
second_turned Equal = Some true

-- whether the half of this number is turned: half 0 says that the sum is at least the bound, half 1 of an equation that it is at most
abbrev pub turned_in : Cmp → ℕ → Option Bool
turned_in cmp half = if half == 0 then Some (is_first_turned cmp) else (if half == 1 then second_turned cmp else None)

abbrev pub half_of : LinRow → ℕ → Option Bounded
half_of row half = option_map (side_of row) (turned_in row.cmp half)

-- the sum is at least the bound
abbrev pub HalfHolds : Bounded → Point → Type 0
HalfHolds h a = (h.bound *ℤ a.denominator) ≤ℤ sum_at h.terms a.numerator

-- its terms are few and its numbers small
pub record IsGentle (h : Bounded) : Type 0 where
  pub few : length h.terms ≤ most_terms
  pub small : All (λ t. IsSmall t.1) h.terms
  pub bound : IsSmall h.bound

-- its variables are among the first n
abbrev pub IsOver : ℕ → Bounded → Type 0
IsOver n h = All (λ t. t.0 < n) h.terms

-- ---- over the boxes of a store

-- the greatest product of the coefficient with a number between the ends of the extent
abbrev pub greatest_product : ℤ → Extent → ℤ
greatest_product c e = if int_le (pos 0) c then c *ℤ greatest_of e else c *ℤ least_of e

abbrev pub greatest_term : List Extent → ℕ × ℤ → ℤ
greatest_term store t = greatest_product t.1 (extent_at store t.0)

-- the sum of the greatest terms
abbrev pub greatest_sum : List Extent → List (ℕ × ℤ) → ℤ
greatest_sum store [] = pos 0
greatest_sum store (t ∷ ts) = greatest_term store t +ℤ greatest_sum store ts

-- the sum of the greatest terms is below the bound
abbrev pub FallsShort : List Extent → Bounded → Type 0
FallsShort store h = greatest_sum store h.terms <ℤ h.bound

-- with this value of the term's variable, the sum is below the bound even with the greatest other terms
abbrev pub IsTooLittle : List Extent → Bounded → ℕ × ℤ → ℤ → Type 0
IsTooLittle store h t x = ((t.1 *ℤ x) +ℤ (greatest_sum store h.terms -ℤ greatest_term store t)) <ℤ h.bound

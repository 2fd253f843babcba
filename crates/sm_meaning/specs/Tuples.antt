-- Tuples in lexicographic order, and the members of a family.
use Rattle.std.specs.Prelude.{ℕ, zero, suc, ◌+◌, ◌*◌, List, [], ◌∷◌, ℤ, pos, ◌+ℤ◌, ◌-ℤ◌, unsigned_abs, int_le, Option, Some, if◌then◌else◌}
use Rattle.std.specs.List.{flat_map}
use Rattle.sm_syntax.specs.declared.tree.Bind.{Bind}
use Rattle.sm_meaning.specs.declared.range.Range.{Range}
use Rattle.sm_meaning.specs.Scopes.{Thing, index_set, found, Names, Tuple, with_number}

-- how many numbers a range has
abbrev pub size_of : Range → ℕ
size_of r = if int_le r.least r.greatest then unsigned_abs (r.greatest -ℤ r.least) + 1 else 0

-- the numbers from z on, so many of them
abbrev pub count_up : ℕ → ℤ → List ℤ
count_up zero z = []
count_up (suc k) z = z ∷ count_up k (z +ℤ pos 1)

abbrev pub numbers_of : Range → List ℤ
numbers_of r = count_up (size_of r) r.least

-- the numbers of an index set; another thing has none
abbrev pub set_numbers : Option Thing → List ℤ
set_numbers (Some (index_set r)) = numbers_of r
set_numbers _ = []

-- a binder with the numbers of its set
abbrev pub span_of : Names → Bind → List ℕ × List ℤ
span_of names x = (x.name.text, set_numbers (found names x.set.text))

-- the tuples, the first binder slowest, each behind what is bound already
abbrev pub tuples : List (List ℕ × List ℤ) → Tuple → List Tuple
tuples [] b = b ∷ []
tuples (x ∷ xs) b = flat_map (λ z. tuples xs (with_number b x.0 z)) x.1

-- how many members a family over these sets has
abbrev pub member_count : List Range → ℕ
member_count [] = 1
member_count (r ∷ rs) = size_of r * member_count rs

-- how many members stand before the one of these indices
abbrev pub members_before : List Range → List ℤ → ℕ
members_before (r ∷ rs) (z ∷ zs) = unsigned_abs (z -ℤ r.least) * member_count rs + members_before rs zs
members_before _ _ = 0

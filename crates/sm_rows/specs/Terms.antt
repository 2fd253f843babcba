-- Sums in which each column stands once.
use Rattle.std.specs.Prelude.{◌≡◌, ℕ, ◌+◌, List, [], ◌∷◌, filter, ℤ, pos, ◌+ℤ◌, ◌*ℤ◌, unsigned_abs, Bool, false, not, ◌&&◌, ◌==◌, if◌then◌else◌}
use Rattle.std.specs.Ordering.{int_eq}
use Rattle.sm_step.specs.declared.row.Col.{Col}
use Rattle.sm_step.specs.declared.row.Col.TheVariants.{Var, Is}

abbrev pub same_column : Col → Col → Bool
same_column (Var i) (Var j) = i == j
same_column (Var i) (Is j w) = false
same_column (Is i v) (Var j) = false
same_column (Is i v) (Is j w) = (i == j) && int_eq v w

-- the column is none of the terms'
abbrev pub Lacks : Col → List (Col × ℤ) → Type 0
Lacks c [] = Unit {0}
Lacks c (t ∷ ts) = (same_column t.0 c ≡ false) × Lacks c ts

-- no column stands twice
abbrev pub IsApart : List (Col × ℤ) → Type 0
IsApart [] = Unit {0}
IsApart (t ∷ ts) = Lacks t.0 ts × IsApart ts

-- the sum with k times the column more: a column that it has gets another coefficient, another stands at the end
abbrev pub add_term : List (Col × ℤ) → Col → ℤ → List (Col × ℤ)
add_term [] c k = (c, k) ∷ []
add_term (t ∷ ts) c k = if same_column t.0 c then (t.0, t.1 +ℤ k) ∷ ts else t ∷ add_term ts c k

-- the sum with these terms more, each `by` times
abbrev pub add_terms : List (Col × ℤ) → ℤ → List (Col × ℤ) → List (Col × ℤ)
add_terms sum by [] = sum
add_terms sum by (t ∷ ts) = add_terms (add_term sum t.0 (by *ℤ t.1)) by ts

-- the coefficient is not 0
abbrev pub is_nonzero : Col × ℤ → Bool
is_nonzero t = not (int_eq t.1 (pos 0))

-- a column whose coefficient is 0 is none of a row's
abbrev pub without_zeros : List (Col × ℤ) → List (Col × ℤ)
without_zeros terms = filter is_nonzero terms

-- the absolute values of the coefficients, added up
abbrev pub weight : List (Col × ℤ) → ℕ
weight [] = 0
weight (t ∷ ts) = unsigned_abs t.1 + weight ts

-- A merge of two lists of terms, and its steps.
use Rattle.std.specs.Prelude.{◌≡◌, ℕ, ◌+◌, ◌≤◌, ◌<◌, List, ℤ, ◌+ℤ◌, ◌*ℤ◌, drop}
use Rattle.sm_kinds.specs.Sums.{sum_at}
use Rattle.sm_forms.specs.Meanings.{Meaning}
use Rattle.sm_forms.specs.Forms.{Rises}
use Rattle.sm_forms.specs.declared.merge.Next.{Next}

-- what left + by * right comes to
abbrev pub terms_added : List (ℕ × ℤ) → ℤ → List (ℕ × ℤ) → Meaning
terms_added left by right a = sum_at left a.numerator +ℤ (by *ℤ sum_at right a.numerator)

-- the same beside other terms
abbrev pub added_to : List (ℕ × ℤ) → List (ℕ × ℤ) → ℤ → List (ℕ × ℤ) → Meaning
added_to terms left by right a = sum_at terms a.numerator +ℤ terms_added left by right a

-- what the terms from i on, and those from j on times `by`, come to
abbrev pub rest_at : List (ℕ × ℤ) → ℕ → ℤ → List (ℕ × ℤ) → ℕ → (ℕ → ℤ) → ℤ
rest_at left i by right j p = sum_at (drop i left) p +ℤ (by *ℤ sum_at (drop j right) p)

-- a step takes the next term, and goes on behind its variable
pub record Moves (n from : ℕ) (left : List (ℕ × ℤ)) (i : ℕ) (by : ℤ) (right : List (ℕ × ℤ)) (j : ℕ) (next : Next) : Type 0 where
  pub total : (p : ℕ → ℤ) → rest_at left i by right j p ≡ (next.coefficient *ℤ p next.var) +ℤ rest_at left next.i by right next.j p
  pub at_least : from ≤ next.var
  pub below : next.var < n
  pub left_behind : Rises n (next.var + 1) (drop next.i left)
  pub right_behind : Rises n (next.var + 1) (drop next.j right)

-- the variables of both lists come after those of the terms
pub record Starts (n : ℕ) (terms left right : List (ℕ × ℤ)) : Type 0 where
  pub first : ℕ
  pub in_range : first ≤ n
  pub terms_rise : Rises first 0 terms
  pub left_behind : Rises n first left
  pub right_behind : Rises n first right

-- The values of goals, and which of two assignments is better.
use Rattle.std.specs.Prelude.{◌≡◌, ℕ, ◌⊎◌, List, [], ◌∷◌, ℤ, pos, ◌+ℤ◌, ◌*ℤ◌, neg_ℤ, ◌<ℤ◌, slice_index_or}
use Rattle.sm_flat.specs.declared.goal.Goal.{Goal}
use Rattle.sm_flat.specs.declared.goal.Sense.{Sense}
use Rattle.sm_flat.specs.declared.goal.Sense.TheVariants.{Minimise, Maximise, Satisfy}
use Rattle.sm_flat.specs.Models.{FlatModel}
use Rattle.sm_kinds.specs.Points.{Point}
use Rattle.sm_kinds.specs.Sums.{sum_at}

abbrev pub no_goal : Goal
no_goal = record { sense = Satisfy; terms = []; constant = pos 0 }

abbrev pub goal_at : FlatModel → ℕ → Goal
goal_at m level = slice_index_or m.goals level no_goal

-- the goal's value, times the denominator
abbrev pub worth : Goal → Point → ℤ
worth g a = sum_at g.terms a.numerator +ℤ (g.constant *ℤ a.denominator)

-- as something to be minimised: a goal to be maximised is negated
abbrev pub minimised : Sense → ℤ → ℤ
minimised Minimise z = z
minimised Maximise z = neg_ℤ z
minimised Satisfy z = z

abbrev pub cost : Goal → Point → ℤ
cost g a = minimised g.sense (worth g a)

-- at the first goal where the values differ, the first assignment's is better
abbrev pub IsBetterBy : List Goal → Point → Point → Type 0
IsBetterBy [] a b = ⊥
IsBetterBy (g ∷ gs) a b = ((cost g a *ℤ b.denominator) <ℤ (cost g b *ℤ a.denominator)) ⊎ ((cost g a *ℤ b.denominator ≡ cost g b *ℤ a.denominator) × IsBetterBy gs a b)

abbrev pub IsBetter : FlatModel → Point → Point → Type 0
IsBetter m a b = IsBetterBy m.goals a b

-- the goals have these values, each a numerator and a denominator
abbrev pub HasValuesBy : List Goal → Point → List (ℤ × ℤ) → Type 0
HasValuesBy [] a [] = Unit {0}
HasValuesBy [] a (v ∷ vs) = ⊥
HasValuesBy (g ∷ gs) a [] = ⊥
HasValuesBy (g ∷ gs) a (v ∷ vs) = (worth g a *ℤ v.1 ≡ v.0 *ℤ a.denominator) × HasValuesBy gs a vs

abbrev pub HasValues : FlatModel → Point → List (ℤ × ℤ) → Type 0
HasValues m a vs = HasValuesBy m.goals a vs

-- Floors of goals, most important first, all taken as minimised, and when they end a node.
use Rattle.std.specs.Prelude.{◌≡◌, ℤ, ◌*ℤ◌, ◌⊎◌, List, [], ◌∷◌, map, Bool, true, int_lt, unsigned_abs, if◌then◌else◌}
use Rattle.sm_frac.specs.Rational.{ℚ, ◌-ℚ◌, ◌≤ℚ◌, ◌<ℚ◌, one_ℚ, whole_ℚ, fraction}

-- a goal's value at the best, and whether the goal has whole values alone
pub record Level : Type 0 where
  pub best : ℚ
  pub whole : Bool

-- nothing that costs at least the floor costs less than the best
abbrev pub Reaches : ℚ → Level → Type 0
Reaches g l = (l.best ≤ℚ g) ⊎ ((l.whole ≡ true) × ((l.best -ℚ one_ℚ) <ℚ g))

-- the floors reach the best at each goal down to one where the floor is above it, or down to the last
abbrev pub EndsNode : List ℚ → List Level → Type 0
EndsNode gs [] = Unit {0}
EndsNode [] (l ∷ ls) = ⊥
EndsNode (g ∷ gs) (l ∷ ls) = (l.best <ℚ g) ⊎ (Reaches g l × EndsNode gs ls)

-- the costs are at least the floors
abbrev pub AreFloors : List ℚ → List ℚ → Type 0
AreFloors [] vs = Unit {0}
AreFloors (g ∷ gs) [] = ⊥
AreFloors (g ∷ gs) (v ∷ vs) = (g ≤ℚ v) × AreFloors gs vs

-- these costs are better than the best: less at the first goal where they differ
abbrev pub CostLess : List ℚ → List Level → Type 0
CostLess vs [] = ⊥
CostLess [] (l ∷ ls) = ⊥
CostLess (v ∷ vs) (l ∷ ls) = (v <ℚ l.best) ⊎ ((v ≡ l.best) × CostLess vs ls)

pub record IsWholeNumber (x : ℚ) : Type 0 where
  pub number : ℤ
  pub is : x ≡ whole_ℚ number

-- of goals with whole values alone, cost and best are whole numbers
pub record FitsLevel (v : ℚ) (l : Level) : Type 0 where
  pub value : l.whole ≡ true → IsWholeNumber v
  pub best : l.whole ≡ true → IsWholeNumber l.best

abbrev pub FitLevels : List ℚ → List Level → Type 0
FitLevels vs [] = Unit {0}
FitLevels [] (l ∷ ls) = ⊥
FitLevels (v ∷ vs) (l ∷ ls) = FitsLevel v l × FitLevels vs ls

-- ---- floors as numerators and denominators

abbrev pub number_of : ℤ × ℤ → ℚ
number_of p = fraction p.0 (unsigned_abs p.1)

abbrev pub numbers_of : List (ℤ × ℤ) → List ℚ
numbers_of ps = map number_of ps

-- the second where it is greater, by cross products
abbrev pub greater : ℤ × ℤ → ℤ × ℤ → ℤ × ℤ
greater p q = if int_lt (p.0 *ℤ q.1) (q.0 *ℤ p.1) then q else p

-- of two lists of floors the greater one at each goal
abbrev pub raised : List (ℤ × ℤ) → List (ℤ × ℤ) → List (ℤ × ℤ)
raised [] xs = []
raised (g ∷ gs) [] = []
raised (g ∷ gs) (x ∷ xs) = greater g x ∷ raised gs xs

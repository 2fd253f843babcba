-- When a verdict is true of a text with its tables: optima, solutions, and texts that no values mean.
use Rattle.std.specs.Prelude.{◌≡◌, ◌⊎◌, List, [], ◌∷◌, map, ℤ, ◌*ℤ◌, ◌<ℤ◌, ◌≤ℤ◌, Option, None, MatchOption}
use Rattle.sm_frac.specs.declared.fraction.Frac.{Frac}
use Rattle.sm_kinds.specs.Points.{Point}
use Rattle.sm_flat.specs.Assignments as flat
use Rattle.sm_flat.specs.Assignments.{Numbers}
use Rattle.sm_flat.specs.Goals.{minimised}
use Rattle.sm_flat.specs.declared.goal.Sense.{Sense}
use Rattle.sm_flat.specs.declared.goal.Sense.TheVariants.{Minimise, Maximise, Satisfy}
use Rattle.sm_data.specs.Documents.{Entry}
use Rattle.sm_syntax.specs.Trees.{Tree}
use Rattle.sm_forms.specs.Meanings.{Values, Meaning}
use Rattle.sm_meaning.specs.Demands.{point_of}
use Rattle.sm_meaning.specs.Models.{Means, worths_of, listing_of}
use Rattle.sm_step.specs.Verdicts.{parts_of}
use Rattle.sm_step.specs.declared.verdict.Verdict.{Verdict}
use Rattle.sm_step.specs.declared.verdict.Verdict.TheVariants.{Optimal, Satisfied, Infeasible, Limit, Range}

-- ---- values of goals

-- at the first goal where their worths differ, the first values are better: a goal to be maximised is to be the greater
abbrev pub AreBetterBy : List Sense → List Meaning → Values → Values → Type 0
AreBetterBy (s ∷ ss) (g ∷ gs) a b =
    ((minimised s (g a) *ℤ b.denominator) <ℤ (minimised s (g b) *ℤ a.denominator))
    ⊎ ((minimised s (g a) *ℤ b.denominator ≡ minimised s (g b) *ℤ a.denominator) × AreBetterBy ss gs a b)
AreBetterBy _ _ a b = ⊥

abbrev pub AreBetter : Tree → List Entry → Values → Values → Type 0
AreBetter t tables a b = AreBetterBy (listing_of t tables).senses (worths_of t tables) a b

-- the goals are worth these fractions, each a numerator and a denominator
abbrev pub AreWorthBy : List Meaning → Values → List (ℤ × ℤ) → Type 0
AreWorthBy [] a [] = Unit {0}
AreWorthBy (g ∷ gs) a (v ∷ vs) = (g a *ℤ v.1 ≡ v.0 *ℤ a.denominator) × AreWorthBy gs a vs
AreWorthBy _ a _ = ⊥

abbrev pub AreWorth : Tree → List Entry → Values → List (ℤ × ℤ) → Type 0
AreWorth t tables a vs = AreWorthBy (worths_of t tables) a vs

-- the text means these values, its goals are worth these fractions, and no values that it means are better
pub record AreOptimal (t : Tree) (tables : List Entry) (a : Values) (fractions : List (ℤ × ℤ)) : Type 0 where
  pub means : Means t tables a
  pub worth : AreWorth t tables a fractions
  pub best : (b : Values) → Means t tables b → AreBetter t tables b a → ⊥

-- ---- verdicts

-- this holds of the values that have these numbers
pub record OfNumbers (n : Numbers) (P : Values → Type 0) : Type 0 where
  pub values : Values
  pub same : point_of values ≡ flat.point_of n
  pub holds : P values

-- the first goal is worth no more than the bound lets it: not less where it is to be minimised, and not more where it is to be maximised
abbrev pub IsNoBetterBy : List Sense → List Meaning → Values → Frac → Type 0
IsNoBetterBy (Minimise ∷ ss) (g ∷ gs) a bound = (bound.n *ℤ a.denominator) ≤ℤ (g a *ℤ bound.d)
IsNoBetterBy (Maximise ∷ ss) (g ∷ gs) a bound = (g a *ℤ bound.d) ≤ℤ (bound.n *ℤ a.denominator)
IsNoBetterBy (Satisfy ∷ ss) (g ∷ gs) a bound = (bound.n *ℤ a.denominator) ≤ℤ (g a *ℤ bound.d)
IsNoBetterBy _ _ a bound = ⊥

-- no values that the text means have a first goal that is better than the bound
abbrev pub BoundsText : Tree → List Entry → Frac → Type 0
BoundsText t tables bound = (a : Values) → Means t tables a → IsNoBetterBy (listing_of t tables).senses (worths_of t tables) a bound

-- the text means the best values, and their worths are those that are printed; where none are printed there are none
abbrev pub IsBestOf : Tree → List Entry → Option Numbers → Option (List Frac) → Type 0
IsBestOf t tables best printed = MatchOption printed (best ≡ None) (λ fractions. MatchOption best ⊥ (λ n. OfNumbers n (λ a. Means t tables a × AreWorth t tables a (map parts_of fractions))))

-- the verdict is true of the text, with the best values that were found
abbrev pub IsTrueOfText : Tree → List Entry → Option Numbers → Verdict → Type 0
IsTrueOfText t tables best (Optimal fractions) = MatchOption best ⊥ (λ n. OfNumbers n (λ a. AreOptimal t tables a (map parts_of fractions)))
IsTrueOfText t tables best Satisfied = MatchOption best ⊥ (λ n. OfNumbers n (Means t tables))
IsTrueOfText t tables best Infeasible = (a : Values) → Means t tables a → ⊥
IsTrueOfText t tables best (Limit nodes bound printed) = IsBestOf t tables best printed × BoundsText t tables bound
IsTrueOfText t tables best (Range bound printed) = IsBestOf t tables best printed × BoundsText t tables bound

-- From the flat model of a text to the text.
use Rattle.std.proofs.Common.{◌≡◌, ◌∙◌, ap, ap₂, sym, refl, subst, arith, inl, inr, ℕ, ◌<◌, List, [], ◌∷◌, map, length, ℤ}
use Rattle.std.specs.Prelude.{◌⊎◌, All, Option, Some, None, ◌*ℤ◌, ◌≤ℤ◌, slice_index_or}
use Rattle.std.proofs.lemmas.List.Elements.{All-head, All-tail}
use Rattle.sm_frac.specs.declared.fraction.Frac.{Frac}
use Rattle.sm_kinds.specs.Points.{Point}
use Rattle.sm_flat.specs.declared.goal.Goal.{Goal}
use Rattle.sm_flat.specs.declared.goal.Sense.{Sense}
use Rattle.sm_flat.specs.declared.goal.Sense.TheVariants.{Minimise, Maximise, Satisfy}
use Rattle.sm_flat.specs.Assignments as flat
use Rattle.sm_flat.specs.Assignments.{Numbers}
use Rattle.sm_flat.specs.Goals.{no_goal, worth, minimised, IsBetterBy, HasValuesBy}
use Rattle.sm_flat.specs.Models.{FlatModel}
use Rattle.sm_flat.specs.Solutions.{Solves, IsOptimum, HasNoSolution}
use Rattle.sm_data.specs.Documents.{Entry}
use Rattle.sm_syntax.specs.Trees.{Tree, tree, satisfy, aims}
use Rattle.std.proofs.lemmas.List.{length-map}
use Rattle.sm_forms.specs.Meanings.{Values, Meaning}
use Rattle.sm_meaning.specs.Demands.{point_of}
use Rattle.sm_meaning.specs.Models.{Means, worths_of, listing_of}
use Rattle.sm_flattening.specs.Flattening.{goal_numbers, meaning_numbers}
use Rattle.sm_flattening.specs.Regularity.{IsAffine}
use Rattle.sm_flattening.proofs.Goals.{goal_worth}
use Rattle.sm_flattening.proofs.Models.{solves_means, unsolved_means}
use Rattle.sm_step.specs.declared.verdict.Verdict.{Verdict}
use Rattle.sm_step.specs.declared.verdict.Verdict.TheVariants.{Optimal, Satisfied, Infeasible, Limit, Range}
use Rattle.sm_step.specs.Verdicts.{parts_of, IsNoBetter, Bounds, IsBest, IsTrueOf}
use Rattle.sm_expand.specs.Expanding.{IsFlatOf}
use Rattle.sm_answers.specs.Answers.{AreBetterBy, AreWorthBy, AreOptimal, OfNumbers, IsNoBetterBy, BoundsText, IsBestOf, IsTrueOfText}

-- each goal has its sense, and is worth what its meaning is
abbrev AreGoals : List Goal → List Sense → List Meaning → Type 0
AreGoals [] [] [] = Unit {0}
AreGoals (x ∷ xs) (s ∷ ss) (g ∷ gs) = (x.sense ≡ s) × ((a : Values) → worth x (point_of a) ≡ g a) × AreGoals xs ss gs
AreGoals _ _ _ = ⊥

are_goals : (n : ℕ) (xs : List Goal) (ss : List Sense) (gs : List Meaning) → All (IsAffine n) gs → map goal_numbers xs ≡ map (meaning_numbers n) gs → map (λ (x : Goal). x.sense) xs ≡ ss → AreGoals xs ss gs
are_goals n [] [] [] affine numbers senses = tt
are_goals n [] [] (g ∷ gs) affine numbers senses = absurd (cc)
are_goals n [] (s ∷ ss) gs affine numbers senses = absurd (cc)
are_goals n (x ∷ xs) ss [] affine numbers senses = absurd (cc)
are_goals n (x ∷ xs) [] (g ∷ gs) affine numbers senses = absurd (cc)
are_goals n (x ∷ xs) (s ∷ ss) (g ∷ gs) affine numbers senses =
    let first : goal_numbers x ≡ meaning_numbers n g = cc in
    let rest : map goal_numbers xs ≡ map (meaning_numbers n) gs = cc in
    let sense : x.sense ≡ s = cc in
    let others : map (λ (y : Goal). y.sense) xs ≡ ss = cc in
    (sense, (λ a. goal_worth n g x a (All-head (IsAffine n) g gs affine) first), are_goals n xs ss gs (All-tail (IsAffine n) g gs affine) rest others)

better_flat : (xs : List Goal) (ss : List Sense) (gs : List Meaning) → AreGoals xs ss gs → (a b : Values) → AreBetterBy ss gs a b → IsBetterBy xs (point_of a) (point_of b)
better_flat [] [] [] h a b k = k
better_flat [] [] (g ∷ gs) h a b k = absurd h
better_flat [] (s ∷ ss) gs h a b k = absurd h
better_flat (x ∷ xs) [] gs h a b k = absurd h
better_flat (x ∷ xs) (s ∷ ss) [] h a b k = absurd h
better_flat (x ∷ xs) (s ∷ ss) (g ∷ gs) h a b k = either (better_flat xs ss gs h.2 a b) k
  where
    cost_at : (c : Values) → minimised x.sense (worth x (point_of c)) ≡ minimised s (g c)
    cost_at c = ap₂ minimised h.0 (h.1 c)

    crossed : (c d : Values) → (minimised x.sense (worth x (point_of c)) *ℤ d.denominator) ≡ (minimised s (g c) *ℤ d.denominator)
    crossed c d = ap (λ (z : ℤ). z *ℤ d.denominator) (cost_at c)

    either : (AreBetterBy ss gs a b → IsBetterBy xs (point_of a) (point_of b)) → AreBetterBy (s ∷ ss) (g ∷ gs) a b → IsBetterBy (x ∷ xs) (point_of a) (point_of b)
    either later (inl less) = inl (rw (crossed a b, crossed b a) less)
    either later (inr same) = inr (crossed a b ∙ same.0 ∙ sym (crossed b a), later same.1)

worth_text : (xs : List Goal) (ss : List Sense) (gs : List Meaning) → AreGoals xs ss gs → (a : Values) (vs : List (ℤ × ℤ)) → HasValuesBy xs (point_of a) vs → AreWorthBy gs a vs
worth_text [] [] [] h a [] k = tt
worth_text [] [] [] h a (v ∷ vs) k = absurd k
worth_text [] [] (g ∷ gs) h a vs k = absurd h
worth_text [] (s ∷ ss) gs h a vs k = absurd h
worth_text (x ∷ xs) [] gs h a vs k = absurd h
worth_text (x ∷ xs) (s ∷ ss) [] h a vs k = absurd h
worth_text (x ∷ xs) (s ∷ ss) (g ∷ gs) h a [] k = absurd k
worth_text (x ∷ xs) (s ∷ ss) (g ∷ gs) h a (v ∷ vs) k = (sym (ap (λ (z : ℤ). z *ℤ v.1) (h.1 a)) ∙ k.0, worth_text xs ss gs h.2 a vs k.1)

bound_text : (xs : List Goal) (ss : List Sense) (gs : List Meaning) → AreGoals xs ss gs → 0 < length xs → (a : Values) (f : Frac)
    → IsNoBetter (slice_index_or xs 0 no_goal) (slice_index_or xs 0 no_goal).sense (point_of a) f → IsNoBetterBy ss gs a f
bound_text [] ss gs h some a f k = absurd (omega arith)
bound_text (x ∷ xs) [] gs h some a f k = absurd h
bound_text (x ∷ xs) (s ∷ ss) [] h some a f k = absurd h
bound_text (x ∷ xs) (s ∷ ss) (g ∷ gs) h some a f k = by_sense s (subst (λ (q : Sense). IsNoBetter x q (point_of a) f) h.0 k)
  where
    by_sense : (q : Sense) → IsNoBetter x q (point_of a) f → IsNoBetterBy (q ∷ ss) (g ∷ gs) a f
    by_sense Minimise c = subst (λ (z : ℤ). (f.n *ℤ a.denominator) ≤ℤ (z *ℤ f.d)) (h.1 a) c
    by_sense Maximise c = subst (λ (z : ℤ). (z *ℤ f.d) ≤ℤ (f.n *ℤ a.denominator)) (h.1 a) c
    by_sense Satisfy c = subst (λ (z : ℤ). (f.n *ℤ a.denominator) ≤ℤ (z *ℤ f.d)) (h.1 a) c

-- a text has a goal
some_worth : (t : Tree) (tables : List Entry) → 0 < length (worths_of t tables)
some_worth (tree p items (satisfy q)) tables = omega arith
some_worth (tree p items (aims q x xs)) tables = omega arith

goals_some : (t : Tree) (tables : List Entry) (m : FlatModel) → IsFlatOf t tables m → 0 < length m.goals
goals_some t tables m h =
    let same : length m.goals ≡ length (worths_of t tables) = sym (length-map m.goals goal_numbers) ∙ ap length h.goals ∙ length-map (worths_of t tables) (meaning_numbers (length m.vars)) in
    subst (λ (k : ℕ). 0 < k) (sym same) (some_worth t tables)

module _ (t : Tree) (tables : List Entry) (m : FlatModel) (h : IsFlatOf t tables m) where
  goals_are : AreGoals m.goals (listing_of t tables).senses (worths_of t tables)
  goals_are = are_goals (length m.vars) m.goals (listing_of t tables).senses (worths_of t tables) h.affine h.goals h.senses

  -- the point of a solution is that of values
  abbrev values_at : (p : Point) → Solves m p → Values
  values_at p s = record { denominator = p.denominator; numerator = p.numerator; positive = s.fits.positive }

  means_at : (p : Point) (s : Solves m p) → Means t tables (values_at p s)
  means_at p s = (solves_means t tables m h.parts (values_at p s)).0 s

  solution_text : (n : Numbers) → Solves m (flat.point_of n) → OfNumbers n (Means t tables)
  solution_text n s = record { values = values_at (flat.point_of n) s; same = refl; holds = means_at (flat.point_of n) s }

  optimum_text : (n : Numbers) (vs : List (ℤ × ℤ)) → IsOptimum m (flat.point_of n) vs → OfNumbers n (λ a. AreOptimal t tables a vs)
  optimum_text n vs o =
      let p = flat.point_of n in
      let a = values_at p o.solves in
      record {
        values = a;
        same = refl;
        holds = record {
          means = means_at p o.solves;
          worth = worth_text m.goals (listing_of t tables).senses (worths_of t tables) goals_are a vs o.attains;
          best = λ b k better. o.best (point_of b) ((solves_means t tables m h.parts b).1 k) (better_flat m.goals (listing_of t tables).senses (worths_of t tables) goals_are b a better);
        };
      }

  best_text : (best : Option Numbers) (printed : Option (List Frac)) → IsBest m best printed → IsBestOf t tables best printed
  best_text best None k = k
  best_text None (Some vs) k = k
  best_text (Some n) (Some vs) k =
      let p = flat.point_of n in
      let a = values_at p k.0 in
      record { values = a; same = refl; holds = (means_at p k.0, worth_text m.goals (listing_of t tables).senses (worths_of t tables) goals_are a (map parts_of vs) k.1) }

  some_goal : 0 < length m.goals
  some_goal = goals_some t tables m h

  bounds_text : (f : Frac) → Bounds m f → BoundsText t tables f
  bounds_text f k a means =
      bound_text m.goals (listing_of t tables).senses (worths_of t tables) goals_are some_goal a f (k (point_of a) ((solves_means t tables m h.parts a).1 means))

  pub true_of_text : (best : Option Numbers) (v : Verdict) → IsTrueOf m best v → IsTrueOfText t tables best v
  true_of_text None (Optimal vs) k = k
  true_of_text (Some n) (Optimal vs) k = optimum_text n (map parts_of vs) k
  true_of_text None Satisfied k = k
  true_of_text (Some n) Satisfied k = solution_text n k
  true_of_text best Infeasible k = (unsolved_means t tables m h.parts).0 k
  true_of_text best (Limit nodes bound printed) k = (best_text best printed k.0, bounds_text bound k.1)
  true_of_text best (Range bound printed) k = (best_text best printed k.0, bounds_text bound k.1)

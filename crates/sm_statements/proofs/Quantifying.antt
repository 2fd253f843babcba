-- Formulas of tuples, one after another.
use Rattle.std.proofs.Common.{◌≡◌, ◌∙◌, ap, sym, refl, List, [], ◌∷◌, ◌++◌, map}
use Rattle.std.specs.List.{flat_map}
use Rattle.sm_clausify.specs.declared.formula.Formula.{Formula}
use Rattle.sm_clausify.specs.Propositions.{Proposition, meaning}

-- one for each
pub each_once : {X Y : Type 0} (g : X → Y) (xs : List X) → flat_map (λ x. g x ∷ []) xs ≡ map g xs
each_once g [] = refl
each_once g (x ∷ xs) = ap (λ ys. g x ∷ ys) (each_once g xs)

maps_last : (xs : List Formula) (x : Formula) → map meaning (xs ++ x ∷ []) ≡ map meaning xs ++ meaning x ∷ []
maps_last [] x = refl
maps_last (y ∷ ys) x = ap (λ ps. meaning y ∷ ps) (maps_last ys x)

pub pushed : (old new : List Formula) (x : Formula) (q : Proposition) → new ≡ old ++ x ∷ [] → q ≡ meaning x → map meaning new ≡ map meaning old ++ q ∷ []
pushed old new x q is means = ap (map meaning) is ∙ maps_last old x ∙ ap (λ p. map meaning old ++ p ∷ []) (sym means)

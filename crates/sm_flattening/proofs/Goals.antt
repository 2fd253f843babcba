-- A goal with the numbers of an affine meaning is worth what that is.
use Rattle.std.proofs.Common.{◌≡◌, ◌∙◌, ap, ap₂, sym, refl, ℕ, List, [], ◌∷◌, map}
use Rattle.std.specs.Prelude.{ℤ, ◌+ℤ◌, ◌*ℤ◌, All}
use Rattle.std.proofs.lemmas.List.Elements.{All-head, All-tail}
use Rattle.sm_kinds.specs.Sums.{sum_at}
use Rattle.sm_flat.specs.declared.goal.Goal.{Goal}
use Rattle.sm_flat.specs.Goals.{worth}
use Rattle.sm_forms.specs.Meanings.{Values, Meaning}
use Rattle.sm_meaning.specs.Demands.{point_of}
use Rattle.sm_flattening.specs.Flattening.{goal_numbers, meaning_numbers}
use Rattle.sm_flattening.specs.Regularity.{IsAffine}

-- what the numbers come to
abbrev comes_to : Values → List (ℕ × ℤ) × ℤ → ℤ
comes_to a x = sum_at x.0 a.numerator +ℤ (x.1 *ℤ a.denominator)

pub goal_worth : (n : ℕ) (g : Meaning) (goal : Goal) (a : Values) → IsAffine n g → goal_numbers goal ≡ meaning_numbers n g → worth goal (point_of a) ≡ g a
goal_worth n g goal a affine same = ap (comes_to a) same ∙ sym (affine.comes_to a)

pub goal_worths : (n : ℕ) (gs : List Meaning) (goals : List Goal) (a : Values) → All (IsAffine n) gs → map goal_numbers goals ≡ map (meaning_numbers n) gs
    → map (λ (goal : Goal). worth goal (point_of a)) goals ≡ map (λ (g : Meaning). g a) gs
goal_worths n [] [] a affine same = refl
goal_worths n [] (goal ∷ goals) a affine same = absurd (cc)
goal_worths n (g ∷ gs) [] a affine same = absurd (cc)
goal_worths n (g ∷ gs) (goal ∷ goals) a affine same =
    let first : goal_numbers goal ≡ meaning_numbers n g = cc in
    let rest : map goal_numbers goals ≡ map (meaning_numbers n) gs = cc in
    ap₂ (λ (z : ℤ) zs. z ∷ zs)
    (goal_worth n g goal a (All-head (IsAffine n) g gs affine) first)
    (goal_worths n gs goals a (All-tail (IsAffine n) g gs affine) rest)

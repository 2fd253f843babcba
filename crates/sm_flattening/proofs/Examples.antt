-- The definitions on small demands; what is expected is by hand.
use Rattle.std.proofs.Common.{◌≡◌, refl, [], ◌∷◌, pos, negsuc}
use Rattle.std.specs.Prelude.{◌-ℤ◌, ◌*ℤ◌}
use Rattle.sm_kinds.specs.declared.linear.Cmp.TheVariants.{AtLeast}
use Rattle.sm_kinds.specs.declared.literal.Literal.{Literal}
use Rattle.sm_kinds.specs.declared.literal.Test.TheVariants as test
use Rattle.sm_flat.specs.declared.form.Form.TheVariants as form
use Rattle.sm_clausify.specs.Propositions.{implication, literal}
use Rattle.sm_forms.specs.Meanings.{Meaning}
use Rattle.sm_meaning.specs.Demands.{row, row_when, formula}
use Rattle.sm_flattening.specs.Flattening.{form_of}

-- 3 * x2 - x0 - 7, of the variables x0, x1 and x2
abbrev margin : Meaning
margin a = ((pos 3 *ℤ a.numerator 2) -ℤ a.numerator 0) -ℤ (pos 7 *ℤ a.denominator)

-- x1 is at most 4; and its complement
abbrev low : Literal
low = record { var = 1; test = test.AtMost; bound = pos 4 }

abbrev high : Literal
high = record { var = 1; test = test.AtLeast; bound = pos 5 }

-- 3 * x2 - x0 - 7 >= 0 is 3 * x2 - x0 >= 7
row_flattened : form_of 3 (row AtLeast margin) ≡ form.Linear (record { terms = (0, negsuc 0) ∷ (2, pos 3) ∷ []; cmp = AtLeast; bound = pos 7 })
row_flattened = refl

-- under a condition, and among more variables
conditional_flattened : form_of 9 (row_when (low ∷ []) AtLeast margin) ≡ form.When (low ∷ []) (record { terms = (0, negsuc 0) ∷ (2, pos 3) ∷ []; cmp = AtLeast; bound = pos 7 })
conditional_flattened = refl

formula_flattened : form_of 3 (formula (implication (literal low) (literal low))) ≡ form.Logic (record { literals = high ∷ low ∷ [] } ∷ [])
formula_flattened = refl

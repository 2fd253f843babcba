-- The texts of the parts that stand in several kinds of lines.
use Rattle.std.specs.Prelude.{◌++◌, ◌==◌, ℕ, List, [], ◌∷◌, ℤ, pos, codes, unsigned_abs, if◌then◌else◌}
use Rattle.sm_base.specs.Whole.{whole_text}
use Rattle.sm_frac.specs.declared.fraction.Frac.{Frac}
use Rattle.sm_kinds.specs.declared.literal.Literal.{Literal}
use Rattle.sm_kinds.specs.declared.literal.Test.{Test}
use Rattle.sm_kinds.specs.declared.literal.Test.TheVariants.{AtMost, AtLeast, Equal, Unequal}

abbrev pub number_text : ℕ → List ℕ
number_text n = whole_text (pos n)

abbrev pub test_text : Test → List ℕ
test_text AtMost = codes "<="
test_text AtLeast = codes ">="
test_text Equal = codes "="
test_text Unequal = codes "!="

-- `v`, the variable's number, the test and the bound
abbrev pub literal_text : Literal → List ℕ
literal_text l = codes "v" ++ number_text l.var ++ test_text l.test ++ whole_text l.bound

-- a whole number, or numerator and denominator round a `/`
abbrev pub fraction_text : Frac → List ℕ
fraction_text f = if unsigned_abs f.d == 1 then whole_text f.n else whole_text f.n ++ codes "/" ++ whole_text f.d

-- each part after a mark
abbrev pub each_after : {X : Type 0} → ℕ → (X → List ℕ) → List X → List ℕ
each_after mark text [] = []
each_after mark text (x ∷ xs) = (mark ∷ text x) ++ each_after mark text xs

-- parts with a mark between them
abbrev pub joined : {X : Type 0} → ℕ → (X → List ℕ) → List X → List ℕ
joined mark text [] = []
joined mark text (x ∷ xs) = text x ++ each_after mark text xs

-- the same, or a `-` for none
abbrev pub joined_or_none : {X : Type 0} → ℕ → (X → List ℕ) → List X → List ℕ
joined_or_none mark text [] = codes "-"
joined_or_none mark text (x ∷ xs) = joined mark text (x ∷ xs)

-- each number after a space
abbrev pub spaced : List ℤ → List ℕ
spaced = each_after 32 whole_text

-- fractions joined by commas
abbrev pub value_text : List Frac → List ℕ
value_text = joined 44 fraction_text

-- numbers joined by commas, or a `-` for none
abbrev pub list_text : List ℕ → List ℕ
list_text = joined_or_none 44 number_text

-- whole numbers joined by commas, or a `-` for none
abbrev pub prices_text : List ℤ → List ℕ
prices_text = joined_or_none 44 whole_text

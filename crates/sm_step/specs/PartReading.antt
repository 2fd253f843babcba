-- Reading the parts that stand in several kinds of lines.
use Rattle.std.specs.Prelude.{◌^◌, ℤ, pos, negsuc, Bool, false, List, codes, nat_lt, None, option_map, if◌then◌else◌}
use Rattle.sm_frac.specs.declared.fraction.Frac.{Frac}
use Rattle.sm_kinds.specs.declared.literal.Literal.{Literal}
use Rattle.sm_kinds.specs.declared.literal.Test.{Test}
use Rattle.sm_kinds.specs.declared.literal.Test.TheVariants.{AtMost, AtLeast, Equal, Unequal}
use Rattle.sm_step.specs.Fractions.{fraction_of}
use Rattle.sm_step.specs.Reading.{Reads, done, ◌>>=◌, rest_behind, either, behind, whole_in, narrow_in, natural_in, each_in, joined_in}

abbrev pub is_above_one : ℤ → Bool
is_above_one (pos n) = nat_lt 1 n
is_above_one (negsuc n) = false

abbrev pub fraction_over : ℤ → ℤ → Reads Frac
fraction_over n d bytes = option_map (λ f. (f, bytes)) (fraction_of n d)

-- a fraction whose numerator has been read
abbrev pub denominator_in : ℤ → Reads Frac
denominator_in n = whole_in >>= λ d bytes. if is_above_one d then fraction_over n d bytes else None

unfoldable pub fraction_in : Reads Frac
fraction_in = whole_in >>= λ n. either (rest_behind (codes "/")) (denominator_in n) (fraction_over n (pos 1))

-- one or more fractions joined by commas
abbrev pub value_in : Reads (List Frac)
value_in = joined_in 44 fraction_in

-- `<=`, `>=`, `=` or `!=`
unfoldable pub test_in : Reads Test
test_in = either (rest_behind (codes "<=")) (done AtMost)
    (either (rest_behind (codes ">=")) (done AtLeast)
    (either (rest_behind (codes "=")) (done Equal)
    (behind (codes "!=") (done Unequal))))

unfoldable pub literal_in : Reads Literal
literal_in = behind (codes "v") (natural_in (2 ^ 32) >>= λ var. test_in >>= λ test. narrow_in >>= λ bound. done (record { var = var; test = test; bound = bound }))

-- a denominator and numerators
unfoldable pub values_in : Reads (ℤ × List ℤ)
values_in = narrow_in >>= λ denominator. each_in 32 whole_in >>= λ values. done (denominator, values)

-- Refusals: what is wrong at a place, and what is over its limit.
use Rattle.std.specs.Prelude.{ℕ, ◌+◌, ◌-◌, ◌^◌, min, ℤ, pos, Bool, nat_lt, Option, Some, None, option_map, if◌then◌else◌}
use Rattle.sm_syntax.specs.declared.place.Place.{Place}
use Rattle.sm_data.specs.declared.refusal.Counted.{Counted}
use Rattle.sm_forms.specs.Meanings.{above}
use Rattle.sm_meaning.specs.declared.refusal.Wrong.{Wrong}
use Rattle.sm_meaning.specs.declared.refusal.ExpandRefusal.{ExpandRefusal}
use Rattle.sm_meaning.specs.declared.refusal.ExpandRefusal.TheVariants.{Meaning, Limit}

-- this is wrong at this place, where the test holds
abbrev pub wrong_if : Bool → Place → Wrong → Option ExpandRefusal
wrong_if test p what = if test then Some (Meaning p.line p.column what) else None

-- what is told of a number is at most 2^127 - 1
abbrev pub over : Counted → ℕ → ℕ → ExpandRefusal
over what bound found = Limit what (pos (min found (2 ^ 127 - 1))) (pos bound)

-- a number that is above the limit is told itself, without its sign
abbrev pub number_over : Counted → ℕ → ℤ → Option ExpandRefusal
number_over what bound z = option_map (over what bound) (above bound z)

-- a count isn't followed beyond the limit
abbrev pub count_over : Counted → ℕ → ℕ → Option ExpandRefusal
count_over what bound n = if nat_lt bound n then Some (over what bound (bound + 1)) else None

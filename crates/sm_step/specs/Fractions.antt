-- Fractions by their parts.
use Rattle.std.specs.Prelude.{ℤ, Option, Some, None, ◌⊎◌}
use mathlib.Core.Logic.{inl, inr}
use Rattle.sm_frac.specs.declared.fraction.Frac.{Frac}
use Rattle.sm_frac.proofs.Deciding.{IsFraction, fraction_or_not}

abbrev pub from_parts : (n d : ℤ) → IsFraction n d ⊎ (IsFraction n d → ⊥) → Option Frac
from_parts n d (inl is) = Some (record { n = n; d = d; positive = is.positive; bounded = is.bounded; small = is.small; lowest = is.lowest })
from_parts n d (inr is) = None

-- the fraction of these parts, where they are in lowest terms and in range
unfoldable pub fraction_of : ℤ → ℤ → Option Frac
fraction_of n d = from_parts n d (fraction_or_not n d)

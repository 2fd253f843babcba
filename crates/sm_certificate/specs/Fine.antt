-- Operations that stay in range.
use Rattle.std.specs.Prelude.{◌≡◌}
use Rattle.sm_frac.specs.Rational.{ℚ}
use Rattle.sm_frac.specs.Frac.{value_of}
use Rattle.sm_frac.specs.Passes.{Passes}
use Rattle.sm_frac.specs.declared.fraction.Frac.{Frac}
use Rattle.sm_frac.specs.declared.operation.Op.{Op}

-- the operation on these numbers stays in range, whatever fractions they are
pub record IsFine (op : Op) (x y : ℚ) : Type 0 where
  pub fine : (f h : Frac) → value_of f ≡ x → value_of h ≡ y → Passes op f h → ⊥

-- none of these steps passes
abbrev pub AreFine : (Op → ℚ → ℚ → Type 0) → Type 0
AreFine IsStep = (op : Op) (x y : ℚ) → IsStep op x y → IsFine op x y

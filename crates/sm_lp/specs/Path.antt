-- The path of a program, and the dictionaries of its bases.
use Rattle.std.specs.Prelude.{◌≡◌, ℕ, zero, suc, ◌↔◌, Option, Some, Bool, if◌then◌else◌, List, [], ◌∷◌, ◌++◌}
use Rattle.sm_frac.specs.Rational.{ℚ}
use Rattle.sm_certificate.specs.declared.program.Program.{Program}
use Rattle.sm_lp.specs.Dictionary.{Dictionary, Solves}
use Rattle.sm_lp.specs.Moves.{IsGood}
use Rattle.sm_lp.specs.Rule.{next, is_basic}
use Rattle.sm_certificate.specs.Program.{column_count}
use Rattle.sm_lp.specs.First.{first}
use Rattle.sm_certificate.specs.Slacks.{slack_count, number_count}
use Rattle.sm_lp.specs.Steps.{Stands}

-- d writes its basic numbers, and the goal, by the nonbasic ones, and has the solutions of the program
pub record IsDictionary (p : Program) (d : Dictionary) : Type 0 where
  pub good : IsGood d (column_count p) (slack_count p) (number_count p)
  pub constant : d.nonbasic (column_count p) ≡ suc (number_count p)
  pub goal : d.basic (slack_count p) ≡ number_count p
  pub height : d.height ≡ suc (slack_count p)
  pub width : d.width ≡ suc (column_count p)
  pub solutions : (v : ℕ → ℚ) → Solves (first p) v ↔ Solves d v

-- the dictionary after the next move, or none at the end of the path
abbrev pub successor : Program → Dictionary → Option Dictionary
successor p = next (column_count p) (slack_count p) (number_count p)

-- d comes after k moves, and no step passed before
abbrev pub IsReached : Program → ℕ → Dictionary → Type 0
IsReached p zero d = d ≡ first p
IsReached p (suc k) d = (e : Dictionary) × IsReached p k e × Stands p e × (successor p e ≡ Some d)

-- d is on the path, which ends at the first dictionary with a step that passes
abbrev pub IsOnPath : Program → Dictionary → Type 0
IsOnPath p d = (k : ℕ) × IsReached p k d

-- the numbers below n that pass the test, increasing
unfoldable pub numbers_below : (ℕ → Bool) → ℕ → List ℕ
numbers_below test zero = []
numbers_below test (suc n) = if test n then numbers_below test n ++ n ∷ [] else numbers_below test n

-- the basis of a dictionary: its basic numbers but the goal's, increasing
abbrev pub basis_of : Program → Dictionary → List ℕ
basis_of p d = numbers_below (is_basic d) (number_count p)

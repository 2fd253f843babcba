-- What the rule of the least number says at a dictionary.
use Rattle.std.specs.Prelude.{ℕ, ◌<◌}
use Rattle.sm_lp.specs.declared.turn.Turn.{Turn}
use Rattle.sm_lp.specs.declared.turn.Turn.TheVariants.{Optimal, Infeasible, Move}
use Rattle.sm_lp.specs.Dictionary.{Dictionary}
use Rattle.sm_certificate.specs.Signs.{AtLeast, Below}
use Rattle.sm_lp.specs.Moves.{IsMove, IsOptimal, IsInfeasible}

abbrev pub IsTurn : Dictionary → ℕ → ℕ → Turn → Type 0
IsTurn d f g Optimal = IsOptimal d f g
IsTurn d f g (Infeasible r) = IsInfeasible d f g r
IsTurn d f g (Move r c) = IsMove d f g r c

-- the number of row r has a negative constant, and no lesser number needs a move
pub record NeedsByRow (d : Dictionary) (f g r : ℕ) : Type 0 where
  pub row : r < g
  pub constant : Below (d.entry r f)
  pub goal : (j : ℕ) → j < f → d.nonbasic j < d.basic r → AtLeast (d.entry g j)
  pub constants : (i : ℕ) → i < g → d.basic i < d.basic r → AtLeast (d.entry i f)

-- the number of column c has a negative coefficient in the goal, and no lesser number needs a move
pub record NeedsByColumn (d : Dictionary) (f g c : ℕ) : Type 0 where
  pub column : c < f
  pub coefficient : Below (d.entry g c)
  pub goal : (j : ℕ) → j < f → d.nonbasic j < d.nonbasic c → AtLeast (d.entry g j)
  pub constants : (i : ℕ) → i < g → d.basic i < d.nonbasic c → AtLeast (d.entry i f)

-- in each column but the constant's some entry above the goal's row is negative
abbrev pub HasLeaving : Dictionary → ℕ → ℕ → Type 0
HasLeaving d f g = (c : ℕ) → c < f → ((i : ℕ) → i < g → AtLeast (d.entry i c)) → ⊥

-- The moves of the rule of the least number, as facts.
use Rattle.std.specs.Prelude.{◌≢◌, ℕ, ◌<◌, ◌≤◌, ◌⊎◌}
use Rattle.sm_lp.specs.Dictionary.{Dictionary, IsProper}
use Rattle.sm_certificate.specs.Signs.{AtLeast, Below, AtMost, Above}

-- no number stands twice; the constant is the column f, the goal the row g, and all other numbers are below n
pub record IsGood (d : Dictionary) (f g n : ℕ) : Type 0 where
  pub proper : IsProper d
  pub f_inside : f < d.width
  pub g_inside : g < d.height
  pub nonbasic_small : (j : ℕ) → j < d.width → j ≢ f → d.nonbasic j < n
  pub basic_small : (i : ℕ) → i < d.height → i ≢ g → d.basic i < n
  pub f_great : n ≤ d.nonbasic f
  pub g_great : n ≤ d.basic g

-- the number of row r has a negative constant, and no lesser number needs a move; that of column c is the least that can enter
pub record MovesByRow (d : Dictionary) (f g r c : ℕ) : Type 0 where
  pub constant : Below (d.entry r f)
  pub positive : Above (d.entry r c)
  pub others : (j : ℕ) → j < d.width → j ≢ f → d.nonbasic j < d.nonbasic c → AtMost (d.entry r j)
  pub goal : (j : ℕ) → j < d.width → j ≢ f → d.nonbasic j < d.basic r → AtLeast (d.entry g j)
  pub constants : (i : ℕ) → i < d.height → i ≢ g → d.basic i < d.basic r → AtLeast (d.entry i f)

-- the number of column c has a negative coefficient in the goal, and no lesser number needs a move; that of row r is the least that can leave
pub record MovesByColumn (d : Dictionary) (f g r c : ℕ) : Type 0 where
  pub coefficient : Below (d.entry g c)
  pub negative : Below (d.entry r c)
  pub others : (i : ℕ) → i < d.height → i ≢ g → d.basic i < d.basic r → AtLeast (d.entry i c)
  pub goal : (j : ℕ) → j < d.width → j ≢ f → d.nonbasic j < d.nonbasic c → AtLeast (d.entry g j)
  pub constants : (i : ℕ) → i < d.height → i ≢ g → d.basic i < d.nonbasic c → AtLeast (d.entry i f)

pub record IsMove (d : Dictionary) (f g r c : ℕ) : Type 0 where
  pub row : r < d.height
  pub not_goal : r ≢ g
  pub column : c < d.width
  pub not_constant : c ≢ f
  pub rule : MovesByRow d f g r c ⊎ MovesByColumn d f g r c

-- no number needs a move
pub record IsOptimal (d : Dictionary) (f g : ℕ) : Type 0 where
  pub goal : (j : ℕ) → j < d.width → j ≢ f → AtLeast (d.entry g j)
  pub constants : (i : ℕ) → i < d.height → i ≢ g → AtLeast (d.entry i f)

-- the number of row r is the least that needs a move, its constant is negative, and no number can enter for it
pub record IsInfeasible (d : Dictionary) (f g r : ℕ) : Type 0 where
  pub row : r < d.height
  pub not_goal : r ≢ g
  pub constant : Below (d.entry r f)
  pub none : (j : ℕ) → j < d.width → j ≢ f → AtMost (d.entry r j)
  pub goal : (j : ℕ) → j < d.width → j ≢ f → d.nonbasic j < d.basic r → AtLeast (d.entry g j)
  pub constants : (i : ℕ) → i < d.height → i ≢ g → d.basic i < d.basic r → AtLeast (d.entry i f)

-- What lets a demand be flattened: rows are affine, and formulas speak of variables with whole values.
use Rattle.std.specs.Prelude.{◌≡◌, ℕ, ◌≤◌, List, length, ◌+ℤ◌, ◌*ℤ◌, false, All}
use Rattle.sm_kinds.specs.declared.literal.Literal.{Literal}
use Rattle.sm_kinds.specs.declared.var.Var.{Var}
use Rattle.sm_kinds.specs.Limits.{most_clauses}
use Rattle.sm_kinds.specs.Sums.{sum_at}
use Rattle.sm_kinds.specs.Vars.{IsDiscrete}
use Rattle.sm_clausify.specs.Propositions.{EachLiteral}
use Rattle.sm_clausify.specs.Clauses.{clauses_of}
use Rattle.sm_clausify.specs.Truth.{IsWholeOn}
use Rattle.sm_forms.specs.Meanings.{Values, Meaning, constant_of, terms_of}
use Rattle.sm_meaning.specs.Demands.{Demand, row, formula, row_when, kind, point_of}
use Rattle.sm_meaning.specs.Expansions.{Post}

-- the meaning is the sum of its terms, of n variables, and its constant
pub record IsAffine (n : ℕ) (g : Meaning) : Type 0 where
  pub comes_to : (a : Values) → g a ≡ sum_at (terms_of n g) a.numerator +ℤ (constant_of g *ℤ a.denominator)

-- what a row compares with 0 is affine
abbrev pub HasAffineRow : ℕ → Demand → Type 0
HasAffineRow n (row c g) = IsAffine n g
HasAffineRow n (formula q) = Unit {0}
HasAffineRow n (row_when ls c g) = IsAffine n g
HasAffineRow n (kind f) = Unit {0}

-- each literal of a formula is of a variable with whole values alone
abbrev pub HasDiscreteLiterals : List Var → Demand → Type 0
HasDiscreteLiterals vars (row c g) = Unit {0}
HasDiscreteLiterals vars (formula q) = EachLiteral (λ (l : Literal). IsDiscrete vars l.var) q
HasDiscreteLiterals vars (row_when ls c g) = Unit {0}
HasDiscreteLiterals vars (kind f) = Unit {0}

-- each variable of a formula has a whole value
abbrev pub HasWholeLiterals : Demand → Values → Type 0
HasWholeLiterals (row c g) a = Unit {0}
HasWholeLiterals (formula q) a = IsWholeOn q (point_of a)
HasWholeLiterals (row_when ls c g) a = Unit {0}
HasWholeLiterals (kind f) a = Unit {0}

-- the demand can be flattened over these variables
pub record IsRegular (vars : List Var) (d : Demand) : Type 0 where
  pub affine : HasAffineRow (length vars) d
  pub discrete : HasDiscreteLiterals vars d

-- all that is posted can be flattened over these variables
abbrev pub AreRegular : List Var → List Post → Type 0
AreRegular vars ps = All (λ (p : Post). IsRegular vars p.demand) ps

-- the clauses of a formula are within their limit
abbrev pub HasFewClauses : Demand → Type 0
HasFewClauses (row c g) = Unit {0}
HasFewClauses (formula q) = length (clauses_of q false) ≤ most_clauses
HasFewClauses (row_when ls c g) = Unit {0}
HasFewClauses (kind f) = Unit {0}

abbrev pub HaveFewClauses : List Post → Type 0
HaveFewClauses ps = All (λ (p : Post). HasFewClauses p.demand) ps

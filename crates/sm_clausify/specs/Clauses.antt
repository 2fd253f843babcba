-- The clauses of a formula: negations go down to the literals, those of `and` follow each other, and those of
-- `or` are joined, each of the first part with each of the rest.
use Rattle.std.specs.Prelude.{◌++◌, Bool, not, if◌then◌else◌, List, [], ◌∷◌, map}
use Rattle.std.specs.List.{flat_map}
use Rattle.sm_kinds.specs.Literals.{complement}
use Rattle.sm_kinds.specs.declared.literal.Literal.{Literal}
use Rattle.sm_kinds.specs.declared.logic.Clause.{Clause}
use Rattle.sm_clausify.specs.Propositions.{Proposition, literal, negation, conjunction, disjunction, Propositions, no_parts, part}

-- the literal, or its complement
abbrev pub signed : Bool → Literal → Literal
signed negated l = if negated then complement l else l

-- the clause that has the literals of both
abbrev pub beside : Clause → Clause → Clause
beside x y = record { literals = x.literals ++ y.literals }

abbrev pub empty_clause : Clause
empty_clause = record { literals = [] }

-- each clause of the first, in order, with each of the others, in order
abbrev pub join : List Clause → List Clause → List Clause
join xs ys = flat_map (λ x. map (beside x) ys) xs

-- the clauses of a formula, or of its negation
abbrev mutual
  pub clauses_of : Proposition → Bool → List Clause
  clauses_of (literal l) negated = record { literals = signed negated l ∷ [] } ∷ []
  clauses_of (negation p) negated = clauses_of p (not negated)
  clauses_of (conjunction ps) negated = if negated then joined ps negated else in_turn ps negated
  clauses_of (disjunction ps) negated = if negated then in_turn ps negated else joined ps negated

  -- the clauses of the parts follow each other
  pub in_turn : Propositions → Bool → List Clause
  in_turn no_parts negated = []
  in_turn (part p ps) negated = clauses_of p negated ++ in_turn ps negated

  -- the clauses of the parts, joined; over nothing there is one empty clause
  pub joined : Propositions → Bool → List Clause
  joined no_parts negated = empty_clause ∷ []
  joined (part p ps) negated = join (clauses_of p negated) (joined ps negated)

-- A formula as plain data: literals, negations, and `and` and `or` over any number of parts.
use Rattle.std.specs.Prelude.{◌<◌, ◌^◌, List, [], ◌∷◌, map, unsigned_abs}
use Rattle.sm_kinds.specs.declared.literal.Literal.{Literal}
use Rattle.sm_clausify.specs.declared.formula.Formula.{Formula, fold-Formula}
use Rattle.sm_clausify.specs.declared.formula.Formula.TheOpen.{Formula-F}

mutual
  pub data Proposition : Type 0 where
    literal : Literal → Proposition
    negation : Proposition → Proposition
    conjunction : Propositions → Proposition
    disjunction : Propositions → Proposition

  pub data Propositions : Type 0 where
    no_parts : Propositions
    part : Proposition → Propositions → Propositions

abbrev pub parts_of : List Proposition → Propositions
parts_of [] = no_parts
parts_of (p ∷ ps) = part p (parts_of ps)

-- `p implies q` is `not p or q`
abbrev pub implication : Proposition → Proposition → Proposition
implication p q = disjunction (part (negation p) (part q no_parts))

-- `p iff q` is `(p implies q) and (q implies p)`
abbrev pub equivalence : Proposition → Proposition → Proposition
equivalence p q = conjunction (part (implication p q) (part (implication q p) no_parts))

-- one level, with what each part means
abbrev pub meaning_step : Formula-F Proposition → Proposition
meaning_step (Formula-F.Lit l) = literal l
meaning_step (Formula-F.Not p) = negation p
meaning_step (Formula-F.And ps) = conjunction (parts_of ps)
meaning_step (Formula-F.Or ps) = disjunction (parts_of ps)
meaning_step (Formula-F.Implies p q) = implication p q
meaning_step (Formula-F.Iff p q) = equivalence p q

abbrev pub meaning : Formula → Proposition
meaning = fold-Formula Proposition meaning_step

abbrev pub meanings : List Formula → Propositions
meanings fs = parts_of (map meaning fs)

-- each literal that stands in the formula has the property
abbrev mutual
  pub EachLiteral : (Literal → Type 0) → Proposition → Type 0
  EachLiteral P (literal l) = P l
  EachLiteral P (negation p) = EachLiteral P p
  EachLiteral P (conjunction ps) = EachLiteralOfAll P ps
  EachLiteral P (disjunction ps) = EachLiteralOfAll P ps

  pub EachLiteralOfAll : (Literal → Type 0) → Propositions → Type 0
  EachLiteralOfAll P no_parts = Unit {0}
  EachLiteralOfAll P (part p ps) = EachLiteral P p × EachLiteralOfAll P ps

-- a bound whose complement fits the numbers of literals
abbrev pub HasSmallBound : Literal → Type 0
HasSmallBound l = unsigned_abs l.bound < 2 ^ 62

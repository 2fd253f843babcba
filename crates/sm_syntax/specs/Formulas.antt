-- Formulas as plain data.
use Rattle.std.specs.Prelude.{List, [], ◌∷◌}
use Rattle.sm_syntax.specs.declared.place.Place.{Place}
use Rattle.sm_syntax.specs.declared.formula.Quantifier.{Quantifier}
use Rattle.sm_syntax.specs.declared.formula.Formula.{Formula, fold-Formula}
use Rattle.sm_syntax.specs.declared.formula.Conclusion.{Conclusion, fold-Conclusion}
use Rattle.sm_syntax.specs.declared.formula.Disj.{Disj, fold-Disj}
use Rattle.sm_syntax.specs.declared.formula.Conj.{Conj, fold-Conj}
use Rattle.sm_syntax.specs.declared.formula.Unit.{Unit as UnitNode, fold-Unit}
use Rattle.sm_syntax.specs.declared.formula.Atom.{Atom, fold-Atom}
use Rattle.sm_syntax.specs.declared.formula.Atom.TheOpen.{Formula-F, Conclusion-F, Disj-F, Conj-F, Unit-F, Atom-F}
use Rattle.sm_syntax.specs.Expressions.{Binding, Literal, binding_of, literal_of}

mutual
  pub data Statement : Type 0 where
    statement : Place → Disjunction → Ending → Statement

  -- what may stand behind the first disjunction
  pub data Ending : Type 0 where
    nothing : Ending
    implied : Disjunction → Ending
    equivalent : Disjunction → Ending

  pub data Disjunction : Type 0 where
    disjunction : Place → Conjunction → Conjunctions → Disjunction

  pub data Conjunctions : Type 0 where
    no_conjunctions : Conjunctions
    or_else : Conjunction → Conjunctions → Conjunctions

  pub data Conjunction : Type 0 where
    conjunction : Place → Claim → Claims → Conjunction

  pub data Claims : Type 0 where
    no_claims : Claims
    and_also : Claim → Claims → Claims

  pub data Claim : Type 0 where
    literal : Place → Literal → Claim
    negation : Place → Claim → Claim
    group : Place → Statement → Claim
    quantified : Place → Quantifier → Statement → Binding → Claim

-- ---- the plain data of a tree, by one fold

abbrev pub conjunctions_of : List Conjunction → Conjunctions
conjunctions_of [] = no_conjunctions
conjunctions_of (x ∷ xs) = or_else x (conjunctions_of xs)

abbrev pub claims_of : List Claim → Claims
claims_of [] = no_claims
claims_of (x ∷ xs) = and_also x (claims_of xs)

-- each negation begins a claim
abbrev pub negated : List Place → Claim → Claim
negated [] x = x
negated (p ∷ ps) x = negation p (negated ps x)

-- one level of a tree, with the plain data of each part
abbrev pub conclusion_step : Conclusion-F Claim Ending Conjunction Disjunction Statement Claim → Ending
conclusion_step Conclusion-F.None = nothing
conclusion_step (Conclusion-F.Implies d) = implied d
conclusion_step (Conclusion-F.Iff d) = equivalent d

abbrev pub atom_step : Atom-F Claim Ending Conjunction Disjunction Statement Claim → Claim
atom_step (Atom-F.Lit p l) = literal p (literal_of l)
atom_step (Atom-F.Group p f) = group p f
atom_step (Atom-F.Quantified p q f b) = quantified p q f (binding_of b)

abbrev pub formula_step : Formula-F Claim Ending Conjunction Disjunction Statement Claim → Statement
formula_step f = statement f.place f.left f.conclusion

abbrev pub disj_step : Disj-F Claim Ending Conjunction Disjunction Statement Claim → Disjunction
disj_step d = disjunction d.place d.first (conjunctions_of d.more)

abbrev pub conj_step : Conj-F Claim Ending Conjunction Disjunction Statement Claim → Conjunction
conj_step c = conjunction c.place c.first (claims_of c.more)

abbrev pub unit_step : Unit-F Claim Ending Conjunction Disjunction Statement Claim → Claim
unit_step u = negated u.negations u.inner

abbrev pub conclusion_of : Conclusion → Ending
conclusion_of = fold-Conclusion Claim Ending Conjunction Disjunction Statement Claim atom_step conclusion_step conj_step disj_step formula_step unit_step

abbrev pub atom_of : Atom → Claim
atom_of = fold-Atom Claim Ending Conjunction Disjunction Statement Claim atom_step conclusion_step conj_step disj_step formula_step unit_step

abbrev pub formula_of : Formula → Statement
formula_of = fold-Formula Claim Ending Conjunction Disjunction Statement Claim atom_step conclusion_step conj_step disj_step formula_step unit_step

abbrev pub disj_of : Disj → Disjunction
disj_of = fold-Disj Claim Ending Conjunction Disjunction Statement Claim atom_step conclusion_step conj_step disj_step formula_step unit_step

abbrev pub conj_of : Conj → Conjunction
conj_of = fold-Conj Claim Ending Conjunction Disjunction Statement Claim atom_step conclusion_step conj_step disj_step formula_step unit_step

abbrev pub unit_of : UnitNode → Claim
unit_of = fold-Unit Claim Ending Conjunction Disjunction Statement Claim atom_step conclusion_step conj_step disj_step formula_step unit_step

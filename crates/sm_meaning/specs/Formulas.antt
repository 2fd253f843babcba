-- Literals and formulas of a text, as literals of variables and as propositions, and what is tried of them.
use Rattle.std.specs.Prelude.{List, map}
use Rattle.sm_kinds.specs.declared.literal.Literal.{Literal as Condition}
use Rattle.sm_kinds.specs.declared.literal.Test.{Test}
use Rattle.sm_kinds.specs.declared.literal.Test.TheVariants as test
use Rattle.sm_syntax.specs.declared.tree.LitRelation.{LitRelation}
use Rattle.sm_syntax.specs.declared.tree.LitRelation.TheVariants as relation
use Rattle.sm_syntax.specs.declared.formula.Quantifier.{Quantifier}
use Rattle.sm_syntax.specs.declared.formula.Quantifier.TheVariants as quantifier
use Rattle.sm_syntax.specs.Expressions.{Literal, a_literal}
use Rattle.sm_syntax.specs.Formulas.{Statement, statement, Ending, nothing, implied, equivalent, Disjunction, disjunction, Conjunctions, no_conjunctions, or_else, Conjunction, conjunction, Claims, no_claims, and_also, Claim, literal, negation, group, quantified}
use Rattle.sm_clausify.specs.Propositions as prop
use Rattle.sm_clausify.specs.Propositions.{Proposition, Propositions, no_parts, part, parts_of, implication, equivalence}
use Rattle.sm_meaning.specs.Trials.{Trial, ◌▸◌, nothing_tried}
use Rattle.sm_meaning.specs.Scopes.{Tuple, Scope}
use Rattle.sm_meaning.specs.Worths.{cases}
use Rattle.sm_meaning.specs.Cases.{cases_tried, number_of, number_tried, variable_at, discrete_tried}

-- ---- literals

abbrev pub test_of : LitRelation → Test
test_of relation.AtMost = test.AtMost
test_of relation.AtLeast = test.AtLeast
test_of relation.Equal = test.Equal
test_of relation.Unequal = test.Unequal

-- a variable that compares with a whole number
abbrev pub condition_of : Scope → Literal → Tuple → Condition
condition_of s (a_literal p x r y) b = record { var = variable_at s x b; test = test_of r; bound = number_of s y b }

abbrev pub condition_tried : Scope → Literal → Tuple → Trial
condition_tried s (a_literal p x r y) b = discrete_tried s x b ▸ number_tried s y b

-- ---- formulas

-- one alternative stands for itself
abbrev pub any_of : Proposition → Propositions → Proposition
any_of q no_parts = q
any_of q (part r rs) = prop.disjunction (part q (part r rs))

abbrev pub all_of : Proposition → Propositions → Proposition
all_of q no_parts = q
all_of q (part r rs) = prop.conjunction (part q (part r rs))

abbrev pub for_tuples : Quantifier → List Proposition → Proposition
for_tuples quantifier.All qs = prop.conjunction (parts_of qs)
for_tuples quantifier.Any qs = prop.disjunction (parts_of qs)

abbrev mutual
  pub proposition_of : Statement → Scope → Tuple → Proposition
  proposition_of (statement p d e) s b = concluded e s b (alternatives_of d s b)

  pub concluded : Ending → Scope → Tuple → Proposition → Proposition
  concluded nothing s b q = q
  concluded (implied d) s b q = implication q (alternatives_of d s b)
  concluded (equivalent d) s b q = equivalence q (alternatives_of d s b)

  pub alternatives_of : Disjunction → Scope → Tuple → Proposition
  alternatives_of (disjunction p c cs) s b = any_of (claims_of c s b) (more_alternatives cs s b)

  pub more_alternatives : Conjunctions → Scope → Tuple → Propositions
  more_alternatives no_conjunctions s b = no_parts
  more_alternatives (or_else c cs) s b = part (claims_of c s b) (more_alternatives cs s b)

  pub claims_of : Conjunction → Scope → Tuple → Proposition
  claims_of (conjunction p c cs) s b = all_of (claim_of c s b) (more_claims cs s b)

  pub more_claims : Claims → Scope → Tuple → Propositions
  more_claims no_claims s b = no_parts
  more_claims (and_also c cs) s b = part (claim_of c s b) (more_claims cs s b)

  pub claim_of : Claim → Scope → Tuple → Proposition
  claim_of (literal p l) s b = prop.literal (condition_of s l b)
  claim_of (negation p c) s b = prop.negation (claim_of c s b)
  claim_of (group p f) s b = proposition_of f s b
  claim_of (quantified p q f bs) s b = for_tuples q (map (λ c. proposition_of f s c) (cases bs s.names b))

-- ---- what is tried of them, in the order of the text

abbrev mutual
  pub statement_tried : Statement → Scope → Tuple → Trial
  statement_tried (statement p d e) s b = alternatives_tried d s b ▸ ending_tried e s b

  pub ending_tried : Ending → Scope → Tuple → Trial
  ending_tried nothing s b = nothing_tried
  ending_tried (implied d) s b = alternatives_tried d s b
  ending_tried (equivalent d) s b = alternatives_tried d s b

  pub alternatives_tried : Disjunction → Scope → Tuple → Trial
  alternatives_tried (disjunction p c cs) s b = claims_tried c s b ▸ more_alternatives_tried cs s b

  pub more_alternatives_tried : Conjunctions → Scope → Tuple → Trial
  more_alternatives_tried no_conjunctions s b = nothing_tried
  more_alternatives_tried (or_else c cs) s b = claims_tried c s b ▸ more_alternatives_tried cs s b

  pub claims_tried : Conjunction → Scope → Tuple → Trial
  claims_tried (conjunction p c cs) s b = claim_tried c s b ▸ more_claims_tried cs s b

  pub more_claims_tried : Claims → Scope → Tuple → Trial
  more_claims_tried no_claims s b = nothing_tried
  more_claims_tried (and_also c cs) s b = claim_tried c s b ▸ more_claims_tried cs s b

  pub claim_tried : Claim → Scope → Tuple → Trial
  claim_tried (literal p l) s b = condition_tried s l b
  claim_tried (negation p c) s b = claim_tried c s b
  claim_tried (group p f) s b = statement_tried f s b
  claim_tried (quantified p q f bs) s b = cases_tried bs s b (λ c. statement_tried f s c)

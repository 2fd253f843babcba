-- Each literal of a formula that isn't refused is of a variable with whole values; and what holds of the literals of a
-- formula holds of those of its clauses.
use Rattle.std.proofs.Common.{List, [], ◌∷◌, map, get_or, Bool, true, false, All}
use Rattle.std.specs.Prelude.{not}
use Rattle.std.proofs.lemmas.List.Elements.{All-nil, All-cons, All-head, All-tail, All-append, All-map}
use Rattle.sm_kinds.specs.declared.literal.Literal.{Literal as Condition}
use Rattle.sm_kinds.specs.declared.logic.Clause.{Clause}
use Rattle.sm_syntax.specs.declared.formula.Quantifier.{Quantifier}
use Rattle.sm_syntax.specs.declared.formula.Quantifier.TheVariants as quantifier
use Rattle.sm_syntax.specs.Expressions.{Literal}
use Rattle.sm_syntax.specs.Formulas.{Statement, statement, Ending, nothing, implied, equivalent, Disjunction, disjunction, Conjunctions, no_conjunctions, or_else, Conjunction, conjunction, Claims, no_claims, and_also, Claim, literal, negation, group, quantified}
use Rattle.sm_clausify.specs.Propositions as prop
use Rattle.sm_clausify.specs.Propositions.{Proposition, Propositions, no_parts, part, parts_of, EachLiteral, EachLiteralOfAll}
use Rattle.sm_clausify.specs.Clauses.{signed, beside, empty_clause, join, clauses_of, in_turn, joined}
use Rattle.sm_meaning.specs.Scopes.{Tuple, Scope}
use Rattle.sm_meaning.specs.Worths.{cases}
use Rattle.sm_meaning.specs.Formulas.{condition_of, condition_tried, any_of, all_of, for_tuples, proposition_of, concluded, alternatives_of, more_alternatives, claims_of, more_claims, claim_of, statement_tried, ending_tried, alternatives_tried, more_alternatives_tried, claims_tried, more_claims_tried, claim_tried}
use Rattle.sm_flattening.proofs.Reached.{Reaches, both}
use Rattle.sm_flattening.proofs.Lists.{All-flat_map}
use Rattle.sm_flattening.proofs.Tuples.{cases_all}

-- ---- the literals of a formula

-- what holds of each literal that is tried holds of each literal of the formula
module _ (P : Condition → Type 0) (s : Scope) (holds : (l : Literal) (b : Tuple) → Reaches (condition_tried s l b) → P (condition_of s l b)) where
  any_each : (q : Proposition) (rs : Propositions) → EachLiteral P q → EachLiteralOfAll P rs → EachLiteral P (any_of q rs)
  any_each q no_parts h k = h
  any_each q (part r rs) h k = (h, k)

  all_each : (q : Proposition) (rs : Propositions) → EachLiteral P q → EachLiteralOfAll P rs → EachLiteral P (all_of q rs)
  all_each q no_parts h k = h
  all_each q (part r rs) h k = (h, k)

  parts_each : (qs : List Proposition) → All (EachLiteral P) qs → EachLiteralOfAll P (parts_of qs)
  parts_each [] h = tt
  parts_each (q ∷ qs) h = (All-head (EachLiteral P) q qs h, parts_each qs (All-tail (EachLiteral P) q qs h))

  tuples_each : (q : Quantifier) (qs : List Proposition) → All (EachLiteral P) qs → EachLiteral P (for_tuples q qs)
  tuples_each quantifier.All qs h = parts_each qs h
  tuples_each quantifier.Any qs h = parts_each qs h

  mutual
    pub statement_each : (f : Statement) (b : Tuple) → Reaches (statement_tried f s b) → EachLiteral P (proposition_of f s b)
    statement_each (statement p d e) b h =
        let r = both (alternatives_tried d s b) (ending_tried e s b) h in
        ending_each e b (alternatives_of d s b) (alternatives_each d b r.0) r.1

    ending_each : (e : Ending) (b : Tuple) (q : Proposition) → EachLiteral P q → Reaches (ending_tried e s b) → EachLiteral P (concluded e s b q)
    ending_each nothing b q k h = k
    ending_each (implied d) b q k h = (k, (alternatives_each d b h, tt))
    ending_each (equivalent d) b q k h = let r = alternatives_each d b h in ((k, (r, tt)), ((r, (k, tt)), tt))

    alternatives_each : (d : Disjunction) (b : Tuple) → Reaches (alternatives_tried d s b) → EachLiteral P (alternatives_of d s b)
    alternatives_each (disjunction p c cs) b h =
        let r = both (claims_tried c s b) (more_alternatives_tried cs s b) h in
        any_each (claims_of c s b) (more_alternatives cs s b) (claims_each c b r.0) (more_alternatives_each cs b r.1)

    more_alternatives_each : (cs : Conjunctions) (b : Tuple) → Reaches (more_alternatives_tried cs s b) → EachLiteralOfAll P (more_alternatives cs s b)
    more_alternatives_each no_conjunctions b h = tt
    more_alternatives_each (or_else c cs) b h =
        let r = both (claims_tried c s b) (more_alternatives_tried cs s b) h in (claims_each c b r.0, more_alternatives_each cs b r.1)

    claims_each : (c : Conjunction) (b : Tuple) → Reaches (claims_tried c s b) → EachLiteral P (claims_of c s b)
    claims_each (conjunction p c cs) b h =
        let r = both (claim_tried c s b) (more_claims_tried cs s b) h in
        all_each (claim_of c s b) (more_claims cs s b) (claim_each c b r.0) (more_claims_each cs b r.1)

    more_claims_each : (cs : Claims) (b : Tuple) → Reaches (more_claims_tried cs s b) → EachLiteralOfAll P (more_claims cs s b)
    more_claims_each no_claims b h = tt
    more_claims_each (and_also c cs) b h =
        let r = both (claim_tried c s b) (more_claims_tried cs s b) h in (claim_each c b r.0, more_claims_each cs b r.1)

    claim_each : (c : Claim) (b : Tuple) → Reaches (claim_tried c s b) → EachLiteral P (claim_of c s b)
    claim_each (literal p l) b h = holds l b h
    claim_each (negation p c) b h = claim_each c b h
    claim_each (group p f) b h = statement_each f b h
    claim_each (quantified p q f bs) b h =
        tuples_each q (map (λ c. proposition_of f s c) (cases bs s.names b))
        (All-map (EachLiteral P) (λ c. proposition_of f s c) (cases bs s.names b)
        (cases_all (λ c. EachLiteral P (proposition_of f s c)) (λ c. statement_tried f s c) (λ c. statement_each f c) bs s b h))

-- ---- the literals of its clauses

-- what holds of the literals or of their complements, as P of the formula's gives it
module _ (P Q : Condition → Type 0) (fits : (negated : Bool) (l : Condition) → P l → Q (signed negated l)) where
  abbrev Fits : Clause → Type 0
  Fits c = All Q c.literals

  joined_each : (xs ys : List Clause) → All Fits xs → All Fits ys → All Fits (join xs ys)
  joined_each xs ys h k =
      All-flat_map Fits (λ x. map (beside x) ys) xs
      (λ i d lt. All-map Fits (beside (get_or xs i d)) ys (λ j c less. All-append Q (get_or xs i d).literals (get_or ys j c).literals (h i d lt) (k j c less)))

  mutual
    pub clauses_each : (q : Proposition) (negated : Bool) → EachLiteral P q → All Fits (clauses_of q negated)
    clauses_each (prop.literal l) negated h = All-cons Fits (record { literals = signed negated l ∷ [] }) [] (All-cons Q (signed negated l) [] (fits negated l h) (All-nil Q)) (All-nil Fits)
    clauses_each (prop.negation q) negated h = clauses_each q (not negated) h
    clauses_each (prop.conjunction qs) true h = product_each qs true h
    clauses_each (prop.conjunction qs) false h = turns_each qs false h
    clauses_each (prop.disjunction qs) true h = turns_each qs true h
    clauses_each (prop.disjunction qs) false h = product_each qs false h

    turns_each : (qs : Propositions) (negated : Bool) → EachLiteralOfAll P qs → All Fits (in_turn qs negated)
    turns_each no_parts negated h = All-nil Fits
    turns_each (part q qs) negated h = All-append Fits (clauses_of q negated) (in_turn qs negated) (clauses_each q negated h.0) (turns_each qs negated h.1)

    product_each : (qs : Propositions) (negated : Bool) → EachLiteralOfAll P qs → All Fits (joined qs negated)
    product_each no_parts negated h = All-cons Fits empty_clause [] (All-nil Q) (All-nil Fits)
    product_each (part q qs) negated h = joined_each (clauses_of q negated) (joined qs negated) (clauses_each q negated h.0) (product_each qs negated h.1)

-- Negations in front of a claim.
use Rattle.std.proofs.Common.{◌≡◌, ap, refl, List, [], ◌∷◌}
use Rattle.sm_syntax.specs.declared.place.Place.{Place}
use Rattle.sm_syntax.specs.Formulas.{Claim, negated}
use Rattle.sm_clausify.specs.Propositions.{Proposition, negation}
use Rattle.sm_meaning.specs.Formulas.{claim_of, claim_tried}
use Rattle.sm_meaning.specs.Scopes.{Scope, Tuple}
use Rattle.sm_statements.specs.Negations.{behind}

-- it is the same whether a negation is the first or the last
pub one_more : (ps : List Place) (q : Proposition) → behind ps (negation q) ≡ negation (behind ps q)
one_more [] q = refl
one_more (p ∷ ps) q = ap negation (one_more ps q)

pub negated_means : (ps : List Place) (c : Claim) (s : Scope) (b : Tuple) → claim_of (negated ps c) s b ≡ behind ps (claim_of c s b)
negated_means [] c s b = refl
negated_means (p ∷ ps) c s b = ap negation (negated_means ps c s b)

pub negated_tried : (ps : List Place) (c : Claim) (s : Scope) (b : Tuple) → claim_tried (negated ps c) s b ≡ claim_tried c s b
negated_tried [] c s b = refl
negated_tried (p ∷ ps) c s b = negated_tried ps c s b

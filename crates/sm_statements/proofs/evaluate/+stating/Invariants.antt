use Rattle.std.proofs.Common.{◌+◌, ◌*◌, [], ◌∷◌, length, map, drop}
use Rattle.sm_syntax.specs.declared.formula.Formula.{size-Formula}
use Rattle.sm_syntax.specs.declared.formula.Conclusion.{size-Conclusion}
use Rattle.sm_syntax.specs.declared.formula.Conj.{out-Conj}
use Rattle.sm_syntax.specs.declared.formula.Disj.{out-Disj}
use Rattle.sm_syntax.specs.Expressions.{binding_of}
use Rattle.sm_syntax.specs.Formulas.{formula_of, conj_of, unit_of}
use Rattle.sm_clausify.specs.Propositions.{meaning}
use Rattle.sm_meaning.specs.Formulas.{proposition_of, claims_of, claim_of, statement_tried, claims_tried, claim_tried}
use Rattle.sm_parts.proofs.Eaches.{Left}
use Rattle.sm_parts.proofs.Loops.{Going}
use Rattle.sm_statements.proofs.evaluate.+stating.Given as goal

-- ---- each call goes to a part, or one step down at the same part

abbrev pub decreases-statement : goal.decreases-statement
decreases-statement a = 4 * goal.size-statement a

abbrev pub decreases-concluded : goal.decreases-concluded
decreases-concluded a = 4 * size-Conclusion a.x.now

abbrev pub decreases-alternatives : goal.decreases-alternatives
decreases-alternatives a = 4 * goal.size-alternatives a

abbrev pub decreases-claims : goal.decreases-claims
decreases-claims a = 4 * goal.size-claims a

abbrev pub decreases-claim : goal.decreases-claim
decreases-claim a = 4 * goal.size-claim a

abbrev pub decreases-atom : goal.decreases-atom
decreases-atom a = 4 * goal.size-atom a

abbrev pub decreases-push_at_tuples : goal.decreases-push_at_tuples
decreases-push_at_tuples a = 4 * size-Formula a.inner.now + 1

abbrev pub decreases-quantified : goal.decreases-quantified
decreases-quantified a = 4 * size-Formula a.inner.now + 2

-- ---- what is left to try, and what is left to make

abbrev pub invariant-alternatives-loop-other : goal.invariant-alternatives-loop-other
invariant-alternatives-loop-other l =
    Left (λ c. claims_tried c l.scope l.cases.tuple) (λ c. claims_of c l.scope l.cases.tuple ∷ []) (map conj_of ((out-Disj l.x).first ∷ (out-Disj l.x).more)) l.fn.visited []
    (map conj_of (drop l.other-index l.other-items)) l.visited (map meaning l.parts.items)

abbrev pub invariant-claims-loop-other : goal.invariant-claims-loop-other
invariant-claims-loop-other l =
    Left (λ c. claim_tried c l.scope l.cases.tuple) (λ c. claim_of c l.scope l.cases.tuple ∷ []) (map unit_of ((out-Conj l.x).first ∷ (out-Conj l.x).more)) l.fn.visited []
    (map unit_of (drop l.other-index l.other-items)) l.visited (map meaning l.parts.items)

abbrev pub invariant-push_at_tuples-tuples : goal.invariant-push_at_tuples-tuples
invariant-push_at_tuples-tuples l =
    Going (binding_of l.binders) l.scope l.cases.tuple (λ c. statement_tried (formula_of l.inner) l.scope c) (λ c. proposition_of (formula_of l.inner) l.scope c ∷ [])
    l.fn.visited (map meaning l.fn.made.items) l.tuples l.visited (map meaning l.made.items)

abbrev pub decreases-push_at_tuples-tuples : goal.decreases-push_at_tuples-tuples
decreases-push_at_tuples-tuples l = length l.tuples.to_come

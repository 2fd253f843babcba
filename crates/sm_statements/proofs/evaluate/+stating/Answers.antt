use Rattle.std.proofs.Common.{rules, ◌≡◌, ◌∙◌, ap, sym, subst, arith, ◌++◌, ◌+◌, [], ◌∷◌, List, map, drop, Bool, Ok}
use Rattle.std.proofs.lemmas.Result.{err_from_is_err_and}
use Rattle.std.proofs.lemmas.List.{drop_all}
use Rattle.sm_syntax.specs.declared.place.Place.{Place}
use Rattle.sm_syntax.specs.declared.formula.Conj.{Conj, out-Conj}
use Rattle.sm_syntax.specs.declared.formula.Disj.{out-Disj}
use Rattle.sm_syntax.specs.declared.formula.Unit.{Unit as UnitNode, out-Unit}
use Rattle.sm_syntax.specs.declared.formula.Formula.{Formula as Written}
use Rattle.sm_syntax.specs.Expressions.{binding_of}
use Rattle.sm_syntax.specs.Formulas.{Claim, quantified, formula_of, conj_of, unit_of, atom_of}
use Rattle.sm_clausify.specs.Propositions.{literal, meaning}
use Rattle.sm_meaning.specs.Scopes.{Tuple}
use Rattle.sm_meaning.specs.Worths.{cases}
use Rattle.sm_meaning.specs.Trials.{Trial, GoesThrough, IsStopped, reached}
use Rattle.sm_meaning.specs.Formulas.{proposition_of, claim_of, statement_tried, claim_tried}
use Rattle.sm_parts.proofs.Eaches.{Left}
use Rattle.sm_parts.proofs.Loops.{going_first, binders_stop, going_stops, part_stops, going_more, going_ends}
use Rattle.sm_parts.specs.Seeking.{Seeks, Finds, Ends}
use Rattle.sm_expressions.proofs.Trying.{split_at}
use Rattle.sm_statements.specs.Negations.{behind}
use Rattle.sm_statements.proofs.Gathered.{alternative_tried, alternative_made, alternative_stops, alternatives_end, one_tried, one_made, claim_stops, claims_end}
use Rattle.sm_statements.proofs.Negating.{negated_means, negated_tried}
use Rattle.sm_statements.proofs.Quantifying.{each_once, pushed}
use Rattle.sm_statements.proofs.Trees.{unit_is, literal_is, quantified_is, literal_means}
use Rattle.sm_statements.proofs.evaluate.+stating.Goals as goal

-- ---- conjunctions of which one holds

pub alternatives-returns-in_err-claims-2 : goal.alternatives-returns-in_err-claims-2
alternatives-returns-in_err-claims-2 t c =
    let x = c.args.x.now in
    let s = c.args.scope.now in
    let b = c.args.cases.now.tuple in
    let xs = c.as_slice-other-items.result.now in
    let rest = drop (c.loop-other.other-index + 1) xs in
    let split = split_at xs c.loop-other.other-index c.other-item.result c.loop-other-test.true c.other-item.is in
    let all = map conj_of ((out-Disj x).first ∷ (out-Disj x).more) in
    let left = subst (λ (ys : List Conj). Left (alternative_tried s b) (alternative_made s b) all c.args.visited.now [] (map conj_of ys) c.loop-other.visited (map meaning c.loop-other.parts.items)) split c.loop-other.invariant in
    let p = err_from_is_err_and c.from_residual-in_err-claims-2.result c.from_residual-in_err-claims-2.ensures.1 in
    rw (p.1, p.2) (alternative_stops s b x c.in_err-claims-2.field-0.0 c.args.visited.now c.other-item.result rest c.loop-other.visited (map meaning c.loop-other.parts.items) left c.in_err-claims-2.ensures)

pub alternatives-returns : goal.alternatives-returns
alternatives-returns t c =
    let x = c.args.x.now in
    let s = c.args.scope.now in
    let b = c.args.cases.now.tuple in
    let xs = c.as_slice-other-items.result.now in
    let all = map conj_of ((out-Disj x).first ∷ (out-Disj x).more) in
    let ends = drop_all c.loop-other.other-index xs (omega (arith, c.loop-other-test.false)) in
    let left = subst (λ (ys : List Conj). Left (alternative_tried s b) (alternative_made s b) all c.args.visited.now [] (map conj_of ys) c.loop-other.visited (map meaning c.loop-other.parts.items)) ends c.loop-other.invariant in
    let some : (out-Disj x).more ≡ [] → ⊥ = search rules in
    rw c.from_vec.ensures (alternatives_end s b x some c.args.visited.now c.loop-other.visited c.loop-other.parts.items left)

-- ---- claims that all hold

pub claims-returns-in_err-claim-2 : goal.claims-returns-in_err-claim-2
claims-returns-in_err-claim-2 t c =
    let x = c.args.x.now in
    let s = c.args.scope.now in
    let b = c.args.cases.now.tuple in
    let xs = c.as_slice-other-items.result.now in
    let rest = drop (c.loop-other.other-index + 1) xs in
    let split = split_at xs c.loop-other.other-index c.other-item.result c.loop-other-test.true c.other-item.is in
    let all = map unit_of ((out-Conj x).first ∷ (out-Conj x).more) in
    let left = subst (λ (ys : List UnitNode). Left (one_tried s b) (one_made s b) all c.args.visited.now [] (map unit_of ys) c.loop-other.visited (map meaning c.loop-other.parts.items)) split c.loop-other.invariant in
    let p = err_from_is_err_and c.from_residual-in_err-claim-2.result c.from_residual-in_err-claim-2.ensures.1 in
    rw (p.1, p.2) (claim_stops s b x c.in_err-claim-2.field-0.0 c.args.visited.now c.other-item.result rest c.loop-other.visited (map meaning c.loop-other.parts.items) left c.in_err-claim-2.ensures)

pub claims-returns : goal.claims-returns
claims-returns t c =
    let x = c.args.x.now in
    let s = c.args.scope.now in
    let b = c.args.cases.now.tuple in
    let xs = c.as_slice-other-items.result.now in
    let all = map unit_of ((out-Conj x).first ∷ (out-Conj x).more) in
    let ends = drop_all c.loop-other.other-index xs (omega (arith, c.loop-other-test.false)) in
    let left = subst (λ (ys : List UnitNode). Left (one_tried s b) (one_made s b) all c.args.visited.now [] (map unit_of ys) c.loop-other.visited (map meaning c.loop-other.parts.items)) ends c.loop-other.invariant in
    let some : (out-Conj x).more ≡ [] → ⊥ = search rules in
    rw c.from_vec.ensures (claims_end s b x some c.args.visited.now c.loop-other.visited c.loop-other.parts.items left)

-- ---- one claim

pub claim-returns-in_err-inner : goal.claim-returns-in_err-inner
claim-returns-in_err-inner t c =
    let x = c.args.x.now in
    let s = c.args.scope.now in
    let b = c.args.cases.now.tuple in
    let same = negated_tried (out-Unit x).negations (atom_of (out-Unit x).inner) s b in
    let p = err_from_is_err_and c.from_residual.result c.from_residual.ensures.1 in
    rw (p.1, p.2) (subst (λ (y : Claim). IsStopped c.in_err-inner.field-0.0 (claim_tried y s b c.args.visited.now)) (sym (unit_is x))
    (subst (λ (r : Trial). IsStopped c.in_err-inner.field-0.0 (r c.args.visited.now)) (sym same) c.in_err-inner.ensures))

pub claim-returns : goal.claim-returns
claim-returns t c =
    let x = c.args.x.now in
    let s = c.args.scope.now in
    let b = c.args.cases.now.tuple in
    let ps = (out-Unit x).negations in
    let inner = atom_of (out-Unit x).inner in (
      ap (λ (y : Claim). claim_tried y s b c.args.visited.now) (unit_is x) ∙ ap (λ (r : Trial). r c.args.visited.now) (negated_tried ps inner s b) ∙ c.in_ok-inner.ensures.0,
      ap (λ (y : Claim). claim_of y s b) (unit_is x)
          ∙ negated_means ps inner s b
          ∙ ap (behind ps) c.in_ok-inner.ensures.1
          ∙ ap (λ (qs : List Place). behind qs (meaning c.in_ok-inner.inner)) (sym c.as_slice.ensures)
          ∙ c.in_ok-negated.ensures,
    )

pub atom-returns-in_err-condition-in-Lit : goal.atom-returns-in_err-condition-in-Lit
atom-returns-in_err-condition-in-Lit t c =
    let s = c.args.scope.now in
    let b = c.args.cases.now.tuple in
    let is = ap atom_of c.in-Lit.is ∙ literal_is c.in-Lit.place c.in-Lit.lit in
    let p = err_from_is_err_and c.from_residual.result c.from_residual.ensures.1 in
    rw (p.1, p.2) (subst (λ (y : Claim). IsStopped c.in_err-condition-in-Lit.field-0.0 (claim_tried y s b c.args.visited.now)) (sym is) c.in_err-condition-in-Lit.ensures)

pub atom-returns-in_ok-condition-in-Lit : goal.atom-returns-in_ok-condition-in-Lit
atom-returns-in_ok-condition-in-Lit t c =
    let s = c.args.scope.now in
    let b = c.args.cases.now.tuple in
    let is = ap atom_of c.in-Lit.is ∙ literal_is c.in-Lit.place c.in-Lit.lit in (
      ap (λ (y : Claim). claim_tried y s b c.args.visited.now) is ∙ c.in_ok-condition-in-Lit.ensures.0,
      ap (λ (y : Claim). claim_of y s b) is ∙ ap literal (sym c.in_ok-condition-in-Lit.ensures.1) ∙ sym (literal_means c.in_ok-condition-in-Lit.field-0),
    )

pub atom-returns-in-Quantified : goal.atom-returns-in-Quantified
atom-returns-in-Quantified t c =
    let s = c.args.scope.now in
    let b = c.args.cases.now.tuple in
    let w = c.in-Quantified in
    let is = ap atom_of w.is ∙ quantified_is w.place w.quantifier w.inner w.binders in
    let W : Claim → Type 0 = λ y. GoesThrough (claim_tried y s b) c.args.visited.now c.quantified.new.visited (λ f. claim_of y s b ≡ meaning f) c.quantified.result in
    subst W (sym is) (subst (λ (z : Written). W (quantified w.place w.quantifier (formula_of z) (binding_of w.binders))) c.get-in-Quantified.ensures c.quantified.ensures)

-- ---- formulas of tuples

pub push_at_tuples-returns-in_err-tuples : goal.push_at_tuples-returns-in_err-tuples
push_at_tuples-returns-in_err-tuples t c =
    let x = binding_of c.args.binders.now in
    let s = c.args.scope.now in
    let b = c.args.cases.now.tuple in
    let part = λ (c' : Tuple). statement_tried (formula_of c.args.inner.now) s c' in
    let p = err_from_is_err_and c.from_residual.result c.from_residual.ensures.1 in
    rw (p.1, p.2) (binders_stop c.in_err-tuples.field-0.0 x s b part c.args.visited.now (c.in_err-tuples.ensures c.args.visited.now))

pub push_at_tuples-tuples-init : goal.push_at_tuples-tuples-init
push_at_tuples-tuples-init t c =
    let x = binding_of c.args.binders.now in
    let s = c.args.scope.now in
    let b = c.args.cases.now.tuple in
    let part = λ (c' : Tuple). statement_tried (formula_of c.args.inner.now) s c' in
    let makes = λ (c' : Tuple). proposition_of (formula_of c.args.inner.now) s c' ∷ [] in
    going_first x s b part makes c.args.visited.now (map meaning c.args.made.now.items) c.in_ok-tuples.tuples (c.in_ok-tuples.ensures c.args.visited.now).0 (c.in_ok-tuples.ensures c.args.visited.now).1

pub push_at_tuples-returns-in_err-next : goal.push_at_tuples-returns-in_err-next
push_at_tuples-returns-in_err-next t c =
    let x = binding_of c.args.binders.now in
    let s = c.args.scope.now in
    let b = c.args.cases.now.tuple in
    let part = λ (c' : Tuple). statement_tried (formula_of c.args.inner.now) s c' in
    let makes = λ (c' : Tuple). proposition_of (formula_of c.args.inner.now) s c' ∷ [] in
    let p = err_from_is_err_and c.from_residual-in_err-next.result c.from_residual-in_err-next.ensures.1 in
    rw (p.1, p.2) (going_stops x s b part makes c.args.visited.now (map meaning c.args.made.now.items) c.tuples.tuples c.tuples.visited (map meaning c.tuples.made.items) c.tuples.invariant c.in_err-next.field-0.0 c.in_err-next.ensures)

pub push_at_tuples-returns-in_err-statement : goal.push_at_tuples-returns-in_err-statement
push_at_tuples-returns-in_err-statement t c =
    let x = binding_of c.args.binders.now in
    let s = c.args.scope.now in
    let b = c.args.cases.now.tuple in
    let part = λ (c' : Tuple). statement_tried (formula_of c.args.inner.now) s c' in
    let makes = λ (c' : Tuple). proposition_of (formula_of c.args.inner.now) s c' ∷ [] in
    let finds : Finds s c.tuples.tuples c.next.new.self c.tuples.visited c.next.new.visited =
    subst (λ (y : Bool). Seeks s c.tuples.tuples c.next.new.self c.tuples.visited c.next.new.visited (Ok y)) c.if-branch.true c.in_ok-next.ensures in
    let p = err_from_is_err_and c.from_residual-in_err-statement.result c.from_residual-in_err-statement.ensures.1 in
    rw (p.1, p.2) (part_stops x s b part makes c.args.visited.now (map meaning c.args.made.now.items) c.tuples.tuples c.tuples.visited (map meaning c.tuples.made.items) c.tuples.invariant
    c.in_err-statement.field-0.0 c.next.new.self c.next.new.visited finds (subst (λ (d : Tuple). IsStopped c.in_err-statement.field-0.0 (part d c.next.new.visited)) c.cases.ensures c.in_err-statement.ensures))

pub push_at_tuples-tuples-preserved : goal.push_at_tuples-tuples-preserved
push_at_tuples-tuples-preserved t c =
    let x = binding_of c.args.binders.now in
    let s = c.args.scope.now in
    let b = c.args.cases.now.tuple in
    let part = λ (c' : Tuple). statement_tried (formula_of c.args.inner.now) s c' in
    let makes = λ (c' : Tuple). proposition_of (formula_of c.args.inner.now) s c' ∷ [] in
    let finds : Finds s c.tuples.tuples c.next.new.self c.tuples.visited c.next.new.visited =
    subst (λ (y : Bool). Seeks s c.tuples.tuples c.next.new.self c.tuples.visited c.next.new.visited (Ok y)) c.if-branch.true c.in_ok-next.ensures in
    let is = subst (λ (d : Tuple). proposition_of (formula_of c.args.inner.now) s d ≡ meaning c.in_ok-statement.field-0) c.cases.ensures c.in_ok-statement.ensures.1 in
    going_more x s b part makes c.args.visited.now (map meaning c.args.made.now.items) c.tuples.tuples c.tuples.visited (map meaning c.tuples.made.items) c.tuples.invariant
    c.next.new.self c.next.new.visited c.statement.new.visited (map meaning c.push.new.self.items) finds
    (subst (λ (d : Tuple). part d c.next.new.visited ≡ reached c.statement.new.visited) c.cases.ensures c.in_ok-statement.ensures.0)
    (pushed c.tuples.made.items c.push.new.self.items c.in_ok-statement.field-0 _ c.in_ok-push.ensures.items is)

pub push_at_tuples-returns : goal.push_at_tuples-returns
push_at_tuples-returns t c =
    let x = binding_of c.args.binders.now in
    let s = c.args.scope.now in
    let b = c.args.cases.now.tuple in
    let part = λ (c' : Tuple). statement_tried (formula_of c.args.inner.now) s c' in
    let makes = λ (c' : Tuple). proposition_of (formula_of c.args.inner.now) s c' ∷ [] in
    let ends : Ends s c.tuples.tuples c.tuples.visited c.next.new.visited =
    subst (λ (y : Bool). Seeks s c.tuples.tuples c.next.new.self c.tuples.visited c.next.new.visited (Ok y)) c.if-branch.false c.in_ok-next.ensures in
    let all = going_ends x s b part makes c.args.visited.now (map meaning c.args.made.now.items) c.tuples.tuples c.tuples.visited (map meaning c.tuples.made.items) c.tuples.invariant c.next.new.visited ends in
    (all.0, all.1 ∙ ap (λ qs. map meaning c.args.made.now.items ++ qs) (each_once (λ (c' : Tuple). proposition_of (formula_of c.args.inner.now) s c') (cases x s.names b)))

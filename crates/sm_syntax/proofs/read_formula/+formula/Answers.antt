use Rattle.std.proofs.Common.{◌≡◌, ◌∙◌, ap, sym, refl, ◌∷◌, [], arith, map}
use Rattle.std.proofs.lemmas.Result.{err_from_is_err_and}
use Rattle.sm_syntax.specs.Grammar as g
use Rattle.sm_syntax.specs.Reading.{Standing, next}
use Rattle.sm_syntax.proofs.Readings.{stay, after, behind, restep, fault_at, opened_group, opened_rule, begin, one_more, kept, fault_after}
use Rattle.sm_syntax.proofs.Predictions as predict
use Rattle.std.proofs.Common.{subst, true, false}
use Rattle.sm_syntax.specs.declared.terminal.Terminal.{Terminal}
use Rattle.sm_syntax.specs.declared.terminal.Terminal.TheVariants as terminal
use Rattle.sm_syntax.specs.Parsing.{becomes, stands_at}
use Rattle.sm_syntax.specs.Reading.{is_next}
use Rattle.sm_syntax.specs.Formulas as plain
use Rattle.sm_syntax.specs.Formulas.{formula_of, conclusion_of, disj_of, conj_of, unit_of, atom_of, conjunctions_of, claims_of}
use Rattle.sm_syntax.specs.TreeSteps.{statement_then, ending_then, disjunction_then, conjunctions_then, conjunction_then, claims_then, claim_then}
use Rattle.sm_syntax.proofs.Readings.{map_more, from_kept}
use Rattle.sm_syntax.proofs.Choices.{next_word}
use Rattle.sm_syntax.proofs.Lists.{conj_step, unit_step, conjs_each, units_each, negated_each}
use Rattle.sm_syntax.proofs.read_formula.+formula.Goals as goal

pub read_formula-returns-in_err-left : goal.read_formula-returns-in_err-left
read_formula-returns-in_err-left t c =
    let l0 = opened_rule c.args.reader.now 18 (g.disj ∷ g.conclusion ∷ []) c.place-place.result refl c.place-place.ensures (predict.formula_any (next c.args.reader.now)) in
    let p = err_from_is_err_and c.from_residual.result c.from_residual.ensures.1 in
    rw (p.1, p.2) (fault_at c.read_disj.new.reader c.in_err-left.field-0.0 (g.disj ∷ []) (g.conclusion ∷ []) l0 c.in_err-left.ensures)

pub read_formula-returns-in_err-parts : goal.read_formula-returns-in_err-parts
read_formula-returns-in_err-parts t c =
    let l0 = opened_rule c.args.reader.now 18 (g.disj ∷ g.conclusion ∷ []) c.place-place.result refl c.place-place.ensures (predict.formula_any (next c.args.reader.now)) in
    let l1 = after l0 (behind (g.conclusion ∷ []) c.in_ok-left.ensures) in
    let p = err_from_is_err_and c.from_residual-in_err-parts.result c.from_residual-in_err-parts.ensures.1 in
    rw (p.1, p.2) (fault_after c.read_conclusion-conclusion.new.reader c.in_err-parts.field-0.0 l1 (rw c.in_err-parts.ensures.err at c.read_conclusion-conclusion.ensures))

pub read_formula-returns : goal.read_formula-returns
read_formula-returns t c =
    let l0 = opened_rule c.args.reader.now 18 (g.disj ∷ g.conclusion ∷ []) c.place-place.result refl c.place-place.ensures (predict.formula_any (next c.args.reader.now)) in
    let l1 = after l0 (behind (g.conclusion ∷ []) c.in_ok-left.ensures) in
    let q = c.in_ok-parts.ensures.ok in
    let l2 = after l1 (rw q.0 at c.read_conclusion-conclusion.ensures) in
    restep (statement_then (formula_of c.new.result))
    (λ r. ap (λ x. becomes g.formula (g.disj ∷ g.conclusion ∷ []) ∷ stands_at c.place-place.result ∷ disjunction_then (disj_of x) (ending_then (conclusion_of c.in_ok-parts.parts.1) r)) (sym q.1) ∙ ap (λ x. statement_then x r) (sym c.new.ensures))
    l2

pub read_disj-returns-in_err-first : goal.read_disj-returns-in_err-first
read_disj-returns-in_err-first t c =
    let l0 = opened_rule c.args.reader.now 19 (g.conj ∷ g.more_conjs ∷ []) c.place-place.result refl c.place-place.ensures (predict.disj_any (next c.args.reader.now)) in
    let p = err_from_is_err_and c.from_residual.result c.from_residual.ensures.1 in
    rw (p.1, p.2) (fault_at c.read_conj.new.reader c.in_err-first.field-0.0 (g.conj ∷ []) (g.more_conjs ∷ []) l0 c.in_err-first.ensures)

pub read_disj-returns-in_err-parts : goal.read_disj-returns-in_err-parts
read_disj-returns-in_err-parts t c =
    let l0 = opened_rule c.args.reader.now 19 (g.conj ∷ g.more_conjs ∷ []) c.place-place.result refl c.place-place.ensures (predict.disj_any (next c.args.reader.now)) in
    let l1 = after l0 (behind (g.more_conjs ∷ []) c.in_ok-first.ensures) in
    let p = err_from_is_err_and c.from_residual-in_err-parts.result c.from_residual-in_err-parts.ensures.1 in
    rw (p.1, p.2) (fault_after c.read_more_conjs-more.new.reader c.in_err-parts.field-0.0 l1 (rw c.in_err-parts.ensures.err at c.read_more_conjs-more.ensures))

pub read_disj-returns : goal.read_disj-returns
read_disj-returns t c =
    let l0 = opened_rule c.args.reader.now 19 (g.conj ∷ g.more_conjs ∷ []) c.place-place.result refl c.place-place.ensures (predict.disj_any (next c.args.reader.now)) in
    let l1 = after l0 (behind (g.more_conjs ∷ []) c.in_ok-first.ensures) in
    let q = c.in_ok-parts.ensures.ok in
    let l2 = after l1 (rw q.0 at c.read_more_conjs-more.ensures) in
    restep (disjunction_then (disj_of c.new.result))
    (λ r. ap (λ x. becomes g.disj (g.conj ∷ g.more_conjs ∷ []) ∷ stands_at c.place-place.result ∷ conjunction_then (conj_of x) (conjunctions_then (conjunctions_of (map conj_of c.in_ok-parts.parts.1)) r)) (sym q.1) ∙ ap (λ x. disjunction_then x r) (sym c.new.ensures))
    l2

pub read_conj-returns-in_err-first : goal.read_conj-returns-in_err-first
read_conj-returns-in_err-first t c =
    let l0 = opened_rule c.args.reader.now 20 (g.unit ∷ g.more_units ∷ []) c.place-place.result refl c.place-place.ensures (predict.conj_any (next c.args.reader.now)) in
    let p = err_from_is_err_and c.from_residual.result c.from_residual.ensures.1 in
    rw (p.1, p.2) (fault_at c.read_unit.new.reader c.in_err-first.field-0.0 (g.unit ∷ []) (g.more_units ∷ []) l0 c.in_err-first.ensures)

pub read_conj-returns-in_err-parts : goal.read_conj-returns-in_err-parts
read_conj-returns-in_err-parts t c =
    let l0 = opened_rule c.args.reader.now 20 (g.unit ∷ g.more_units ∷ []) c.place-place.result refl c.place-place.ensures (predict.conj_any (next c.args.reader.now)) in
    let l1 = after l0 (behind (g.more_units ∷ []) c.in_ok-first.ensures) in
    let p = err_from_is_err_and c.from_residual-in_err-parts.result c.from_residual-in_err-parts.ensures.1 in
    rw (p.1, p.2) (fault_after c.read_more_units-more.new.reader c.in_err-parts.field-0.0 l1 (rw c.in_err-parts.ensures.err at c.read_more_units-more.ensures))

pub read_conj-returns : goal.read_conj-returns
read_conj-returns t c =
    let l0 = opened_rule c.args.reader.now 20 (g.unit ∷ g.more_units ∷ []) c.place-place.result refl c.place-place.ensures (predict.conj_any (next c.args.reader.now)) in
    let l1 = after l0 (behind (g.more_units ∷ []) c.in_ok-first.ensures) in
    let q = c.in_ok-parts.ensures.ok in
    let l2 = after l1 (rw q.0 at c.read_more_units-more.ensures) in
    restep (conjunction_then (conj_of c.new.result))
    (λ r. ap (λ x. becomes g.conj (g.unit ∷ g.more_units ∷ []) ∷ stands_at c.place-place.result ∷ claim_then (unit_of x) (claims_then (claims_of (map unit_of c.in_ok-parts.parts.1)) r)) (sym q.1) ∙ ap (λ x. conjunction_then x r) (sym c.new.ensures))
    l2

pub read_formula_group-returns-in_err-inner : goal.read_formula_group-returns-in_err-inner
read_formula_group-returns-in_err-inner t c =
    let l0 = opened_rule c.args.reader.now 21 (g.token_open_round ∷ g.formula ∷ g.token_close_round ∷ []) c.place-place.result refl c.place-place.ensures c.requires in
    let p = err_from_is_err_and c.from_residual.result c.from_residual.ensures.1 in
    rw (p.1, p.2) (fault_at c.read_inner.new.reader c.in_err-inner.field-0.0 (g.token_open_round ∷ g.formula ∷ []) (g.token_close_round ∷ []) l0 c.in_err-inner.ensures)

pub read_formula_group-returns-in_err-close : goal.read_formula_group-returns-in_err-close
read_formula_group-returns-in_err-close t c =
    let l0 = opened_rule c.args.reader.now 21 (g.token_open_round ∷ g.formula ∷ g.token_close_round ∷ []) c.place-place.result refl c.place-place.ensures c.requires in
    let l1 = after l0 (behind (g.token_close_round ∷ []) c.in_ok-inner.ensures) in
    let p = err_from_is_err_and c.from_residual-in_err-close.result c.from_residual-in_err-close.ensures.1 in
    rw (p.1, p.2) (fault_at c.close.new.self c.in_err-close.field-0.0 (g.token_close_round ∷ []) ([]) l1 c.in_err-close.ensures.read)

pub read_formula_group-returns : goal.read_formula_group-returns
read_formula_group-returns t c =
    let l0 = opened_rule c.args.reader.now 21 (g.token_open_round ∷ g.formula ∷ g.token_close_round ∷ []) c.place-place.result refl c.place-place.ensures c.requires in
    let l1 = after l0 (behind (g.token_close_round ∷ []) c.in_ok-inner.ensures) in
    let l2 = after l1 c.in_ok-close.ensures.read in
    restep (claim_then (atom_of c.from_group.result)) (λ r. ap (λ x. claim_then x r) (sym c.from_group.ensures)) l2

pub read_more_conjs-conjs-init : goal.read_more_conjs-conjs-init
read_more_conjs-conjs-init t c = begin conj_step (map conj_of c.new-conjs.result) (ap (map conj_of) c.new-conjs.ensures) c.args.reader.now (g.more_conjs ∷ [])

pub read_more_conjs-returns-in_err-conj : goal.read_more_conjs-returns-in_err-conj
read_more_conjs-returns-in_err-conj t c =
    let m = after (opened_group c.conjs.reader 50 (g.token_or ∷ g.conj ∷ g.more_conjs ∷ []) refl (predict.more_conjs_some c.conjs.reader (sym c.accept.ensures.next ∙ c.conjs-test.true))) (behind (g.conj ∷ g.more_conjs ∷ []) (c.accept.ensures.lead c.conjs-test.true)) in
    let p = err_from_is_err_and c.from_residual.result c.from_residual.ensures.1 in
    rw (p.1, p.2) (fault_at c.read_conj.new.reader c.in_err-conj.field-0.0 (g.conj ∷ []) (g.more_conjs ∷ []) (after c.conjs.invariant m) c.in_err-conj.ensures)

pub read_more_conjs-conjs-preserved : goal.read_more_conjs-conjs-preserved
read_more_conjs-conjs-preserved t c =
    let m = after (opened_group c.conjs.reader 50 (g.token_or ∷ g.conj ∷ g.more_conjs ∷ []) refl (predict.more_conjs_some c.conjs.reader (sym c.accept.ensures.next ∙ c.conjs-test.true))) (behind (g.conj ∷ g.more_conjs ∷ []) (c.accept.ensures.lead c.conjs-test.true)) in
    one_more conj_step (map conj_of c.conjs.conjs) (map conj_of c.push.new.self) (conj_of c.in_ok-conj.conj) (ap (map conj_of) c.in_ok-push.ensures.ok ∙ map_more conj_of c.conjs.conjs c.in_ok-conj.conj)
    c.conjs.invariant (after m (behind (g.more_conjs ∷ []) c.in_ok-conj.ensures))

pub read_more_conjs-returns : goal.read_more_conjs-returns
read_more_conjs-returns t c =
    let ends = kept (c.accept.ensures.kept c.conjs-test.false) (opened_group c.conjs.reader 50 [] refl (predict.more_conjs_none c.conjs.reader (sym c.accept.ensures.next ∙ c.conjs-test.false))) in
    restep (conjunctions_then (conjunctions_of (map conj_of c.conjs.conjs))) (conjs_each (map conj_of c.conjs.conjs)) (after c.conjs.invariant ends)

pub read_more_units-units-init : goal.read_more_units-units-init
read_more_units-units-init t c = begin unit_step (map unit_of c.new-units.result) (ap (map unit_of) c.new-units.ensures) c.args.reader.now (g.more_units ∷ [])

pub read_more_units-returns-in_err-unit : goal.read_more_units-returns-in_err-unit
read_more_units-returns-in_err-unit t c =
    let m = after (opened_group c.units.reader 51 (g.token_and ∷ g.unit ∷ g.more_units ∷ []) refl (predict.more_units_some c.units.reader (sym c.accept.ensures.next ∙ c.units-test.true))) (behind (g.unit ∷ g.more_units ∷ []) (c.accept.ensures.lead c.units-test.true)) in
    let p = err_from_is_err_and c.from_residual.result c.from_residual.ensures.1 in
    rw (p.1, p.2) (fault_at c.read_unit.new.reader c.in_err-unit.field-0.0 (g.unit ∷ []) (g.more_units ∷ []) (after c.units.invariant m) c.in_err-unit.ensures)

pub read_more_units-units-preserved : goal.read_more_units-units-preserved
read_more_units-units-preserved t c =
    let m = after (opened_group c.units.reader 51 (g.token_and ∷ g.unit ∷ g.more_units ∷ []) refl (predict.more_units_some c.units.reader (sym c.accept.ensures.next ∙ c.units-test.true))) (behind (g.unit ∷ g.more_units ∷ []) (c.accept.ensures.lead c.units-test.true)) in
    one_more unit_step (map unit_of c.units.units) (map unit_of c.push.new.self) (unit_of c.in_ok-unit.unit) (ap (map unit_of) c.in_ok-push.ensures.ok ∙ map_more unit_of c.units.units c.in_ok-unit.unit)
    c.units.invariant (after m (behind (g.more_units ∷ []) c.in_ok-unit.ensures))

pub read_more_units-returns : goal.read_more_units-returns
read_more_units-returns t c =
    let ends = kept (c.accept.ensures.kept c.units-test.false) (opened_group c.units.reader 51 [] refl (predict.more_units_none c.units.reader (sym c.accept.ensures.next ∙ c.units-test.false))) in
    restep (claims_then (claims_of (map unit_of c.units.units))) (units_each (map unit_of c.units.units)) (after c.units.invariant ends)

pub read_quantified-returns-in_err-quantifier : goal.read_quantified-returns-in_err-quantifier
read_quantified-returns-in_err-quantifier t c =
    let l0 = opened_rule c.args.reader.now 21 (g.quantifier ∷ g.token_open_round ∷ g.formula ∷ g.token_for ∷ g.binders ∷ g.token_close_round ∷ []) c.place-place.result refl c.place-place.ensures c.requires in
    let p = err_from_is_err_and c.from_residual.result c.from_residual.ensures.1 in
    rw (p.1, p.2) (fault_at c.read_quantifier.new.reader c.in_err-quantifier.field-0.0 (g.quantifier ∷ []) (g.token_open_round ∷ g.formula ∷ g.token_for ∷ g.binders ∷ g.token_close_round ∷ []) l0 c.in_err-quantifier.ensures)

pub read_quantified-returns-in_err-inner : goal.read_quantified-returns-in_err-inner
read_quantified-returns-in_err-inner t c =
    let l0 = opened_rule c.args.reader.now 21 (g.quantifier ∷ g.token_open_round ∷ g.formula ∷ g.token_for ∷ g.binders ∷ g.token_close_round ∷ []) c.place-place.result refl c.place-place.ensures c.requires in
    let l1 = after l0 (behind (g.token_open_round ∷ g.formula ∷ g.token_for ∷ g.binders ∷ g.token_close_round ∷ []) c.in_ok-quantifier.ensures) in
    let p = err_from_is_err_and c.from_residual-in_err-inner.result c.from_residual-in_err-inner.ensures.1 in
    rw (p.1, p.2) (fault_at c.read_inner.new.reader c.in_err-inner.field-0.0 (g.token_open_round ∷ g.formula ∷ []) (g.token_for ∷ g.binders ∷ g.token_close_round ∷ []) l1 c.in_err-inner.ensures)

pub read_quantified-returns-in_err-binders : goal.read_quantified-returns-in_err-binders
read_quantified-returns-in_err-binders t c =
    let l0 = opened_rule c.args.reader.now 21 (g.quantifier ∷ g.token_open_round ∷ g.formula ∷ g.token_for ∷ g.binders ∷ g.token_close_round ∷ []) c.place-place.result refl c.place-place.ensures c.requires in
    let l1 = after l0 (behind (g.token_open_round ∷ g.formula ∷ g.token_for ∷ g.binders ∷ g.token_close_round ∷ []) c.in_ok-quantifier.ensures) in
    let l2 = after l1 (behind (g.token_for ∷ g.binders ∷ g.token_close_round ∷ []) c.in_ok-inner.ensures) in
    let p = err_from_is_err_and c.from_residual-in_err-binders.result c.from_residual-in_err-binders.ensures.1 in
    rw (p.1, p.2) (fault_at c.read_scope.new.reader c.in_err-binders.field-0.0 (g.token_for ∷ g.binders ∷ g.token_close_round ∷ []) [] l2 c.in_err-binders.ensures)

pub read_quantified-returns : goal.read_quantified-returns
read_quantified-returns t c =
    let l0 = opened_rule c.args.reader.now 21 (g.quantifier ∷ g.token_open_round ∷ g.formula ∷ g.token_for ∷ g.binders ∷ g.token_close_round ∷ []) c.place-place.result refl c.place-place.ensures c.requires in
    let l1 = after l0 (behind (g.token_open_round ∷ g.formula ∷ g.token_for ∷ g.binders ∷ g.token_close_round ∷ []) c.in_ok-quantifier.ensures) in
    let l2 = after l1 (behind (g.token_for ∷ g.binders ∷ g.token_close_round ∷ []) c.in_ok-inner.ensures) in
    let l3 = after l2 c.in_ok-binders.ensures in
    restep (claim_then (atom_of c.from_quantified.result)) (λ r. ap (λ x. claim_then x r) (sym c.from_quantified.ensures)) l3

pub read_inner-returns-in_err-open : goal.read_inner-returns-in_err-open
read_inner-returns-in_err-open t c =
    let l0 = stay (g.token_open_round ∷ g.formula ∷ []) c.args.reader.now in
    let p = err_from_is_err_and c.from_residual.result c.from_residual.ensures.1 in
    rw (p.1, p.2) (fault_at c.open.new.self c.in_err-open.field-0.0 (g.token_open_round ∷ []) (g.formula ∷ []) l0 c.in_err-open.ensures.read)

pub read_inner-returns-in_err-inner : goal.read_inner-returns-in_err-inner
read_inner-returns-in_err-inner t c =
    let l1 = after (stay (g.token_open_round ∷ g.formula ∷ []) c.args.reader.now) (behind (g.formula ∷ []) c.in_ok-open.ensures.read) in
    let p = err_from_is_err_and c.from_residual-in_err-inner.result c.from_residual-in_err-inner.ensures.1 in
    rw (p.1, p.2) (fault_at c.read_formula.new.reader c.in_err-inner.field-0.0 (g.formula ∷ []) [] l1 c.in_err-inner.ensures)

pub read_inner-returns : goal.read_inner-returns
read_inner-returns t c =
    let l1 = after (stay (g.token_open_round ∷ g.formula ∷ []) c.args.reader.now) (behind (g.formula ∷ []) c.in_ok-open.ensures.read) in
    let l2 = after l1 c.in_ok-inner.ensures in
    restep (statement_then (formula_of c.in_ok-inner-2.inner)) (λ r. ap (λ x. statement_then (formula_of x) r) (sym c.in_ok-inner-2.ensures)) l2

pub read_conclusion-returns-in_err-disj : goal.read_conclusion-returns-in_err-disj
read_conclusion-returns-in_err-disj t c =
    let l0 = after (opened_group c.args.reader.now 48 (g.connective ∷ g.disj ∷ []) refl (predict.conclusion_implies c.args.reader.now (sym c.accept.ensures.next ∙ c.if-accept.true))) (behind (g.disj ∷ []) (after (opened_group c.args.reader.now 49 (g.token_implies ∷ []) refl (predict.connective_implies c.args.reader.now (sym c.accept.ensures.next ∙ c.if-accept.true))) (c.accept.ensures.lead c.if-accept.true))) in
    let p = err_from_is_err_and c.from_residual.result c.from_residual.ensures.1 in
    rw (p.1, p.2) (fault_at c.read_disj.new.reader c.in_err-disj.field-0.0 (g.disj ∷ []) [] l0 c.in_err-disj.ensures)

pub read_conclusion-returns-then-accept : goal.read_conclusion-returns-then-accept
read_conclusion-returns-then-accept t c =
    let l0 = after (opened_group c.args.reader.now 48 (g.connective ∷ g.disj ∷ []) refl (predict.conclusion_implies c.args.reader.now (sym c.accept.ensures.next ∙ c.if-accept.true))) (behind (g.disj ∷ []) (after (opened_group c.args.reader.now 49 (g.token_implies ∷ []) refl (predict.connective_implies c.args.reader.now (sym c.accept.ensures.next ∙ c.if-accept.true))) (c.accept.ensures.lead c.if-accept.true))) in
    restep (ending_then (conclusion_of c.implied.result)) (λ r. ap (λ x. ending_then x r) (sym c.implied.ensures)) (after l0 c.in_ok-disj.ensures)

pub read_conclusion-returns-in_err-disj-2 : goal.read_conclusion-returns-in_err-disj-2
read_conclusion-returns-in_err-disj-2 t c =
    let l0 = after (opened_group c.accept.new.self 48 (g.connective ∷ g.disj ∷ []) refl (predict.conclusion_iff c.accept.new.self (subst (λ (s : Standing). is_next terminal.Implies s ≡ false) (sym (c.accept.ensures.kept c.if-accept.false)) (sym c.accept.ensures.next ∙ c.if-accept.false)) (sym c.accept-2.ensures.next ∙ c.if-accept-2.true))) (behind (g.disj ∷ []) (after (opened_group c.accept.new.self 49 (g.token_iff ∷ []) refl (predict.connective_iff c.accept.new.self (subst (λ (s : Standing). is_next terminal.Implies s ≡ false) (sym (c.accept.ensures.kept c.if-accept.false)) (sym c.accept.ensures.next ∙ c.if-accept.false)) (sym c.accept-2.ensures.next ∙ c.if-accept-2.true))) (c.accept-2.ensures.lead c.if-accept-2.true))) in
    let l1 = from_kept (c.accept.ensures.kept c.if-accept.false) l0 in
    let p = err_from_is_err_and c.from_residual-in_err-disj-2.result c.from_residual-in_err-disj-2.ensures.1 in
    rw (p.1, p.2) (fault_at c.read_disj-then-accept-2.new.reader c.in_err-disj-2.field-0.0 (g.disj ∷ []) [] l1 c.in_err-disj-2.ensures)

pub read_conclusion-returns-then-accept-2 : goal.read_conclusion-returns-then-accept-2
read_conclusion-returns-then-accept-2 t c =
    let l0 = after (opened_group c.accept.new.self 48 (g.connective ∷ g.disj ∷ []) refl (predict.conclusion_iff c.accept.new.self (subst (λ (s : Standing). is_next terminal.Implies s ≡ false) (sym (c.accept.ensures.kept c.if-accept.false)) (sym c.accept.ensures.next ∙ c.if-accept.false)) (sym c.accept-2.ensures.next ∙ c.if-accept-2.true))) (behind (g.disj ∷ []) (after (opened_group c.accept.new.self 49 (g.token_iff ∷ []) refl (predict.connective_iff c.accept.new.self (subst (λ (s : Standing). is_next terminal.Implies s ≡ false) (sym (c.accept.ensures.kept c.if-accept.false)) (sym c.accept.ensures.next ∙ c.if-accept.false)) (sym c.accept-2.ensures.next ∙ c.if-accept-2.true))) (c.accept-2.ensures.lead c.if-accept-2.true))) in
    let l1 = from_kept (c.accept.ensures.kept c.if-accept.false) l0 in
    restep (ending_then (conclusion_of c.equivalent.result)) (λ r. ap (λ x. ending_then x r) (sym c.equivalent.ensures)) (after l1 c.in_ok-disj-2.ensures)

pub read_conclusion-returns : goal.read_conclusion-returns
read_conclusion-returns t c =
    let l0 = kept (c.accept-2.ensures.kept c.if-accept-2.false) (opened_group c.accept.new.self 48 [] refl (predict.conclusion_none c.accept.new.self (subst (λ (s : Standing). is_next terminal.Implies s ≡ false) (sym (c.accept.ensures.kept c.if-accept.false)) (sym c.accept.ensures.next ∙ c.if-accept.false)) (sym c.accept-2.ensures.next ∙ c.if-accept-2.false))) in
    restep (ending_then (conclusion_of c.empty.result)) (λ r. ap (λ x. ending_then x r) (sym c.empty.ensures)) (from_kept (c.accept.ensures.kept c.if-accept.false) l0)

pub read_unit-returns-in_err-negations : goal.read_unit-returns-in_err-negations
read_unit-returns-in_err-negations t c =
    let p = err_from_is_err_and c.from_residual.result c.from_residual.ensures.1 in
    rw (p.1, p.2) c.in_err-negations.ensures.read

pub read_unit-read_atom-requires : goal.read_unit-read_atom-requires
read_unit-read_atom-requires t c = let o = c.in_ok-negations.ensures.read.order in (omega arith, c.in_ok-negations.ensures.none)

pub read_unit-returns-in_err-inner : goal.read_unit-returns-in_err-inner
read_unit-returns-in_err-inner t c =
    let p = err_from_is_err_and c.from_residual-in_err-inner.result c.from_residual-in_err-inner.ensures.1 in
    rw (p.1, p.2) (fault_at c.read_atom.new.reader c.in_err-inner.field-0.0 (g.unit ∷ []) [] c.in_ok-negations.ensures.read c.in_err-inner.ensures)

pub read_unit-returns : goal.read_unit-returns
read_unit-returns t c = restep (claim_then (unit_of c.new.result))
    (λ r. negated_each c.in_ok-negations.negations (atom_of c.in_ok-inner.inner) r ∙ ap (λ x. claim_then x r) (sym c.new.ensures))
    (after c.in_ok-negations.ensures.read c.in_ok-inner.ensures)

pub read_atom-read_formula_group-requires : goal.read_atom-read_formula_group-requires
read_atom-read_formula_group-requires t c = (omega arith, predict.unit_open_round c.args.reader.now c.terminal.result c.terminal.ensures c.in-OpenRound.is)

pub read_atom-read_quantified-requires : goal.read_atom-read_quantified-requires
read_atom-read_quantified-requires t c = (omega arith, predict.unit_all c.args.reader.now c.terminal.result c.terminal.ensures c.in-All.is)

pub read_atom-read_quantified-requires-in-Any : goal.read_atom-read_quantified-requires-in-Any
read_atom-read_quantified-requires-in-Any t c = (omega arith, predict.unit_any c.args.reader.now c.terminal.result c.terminal.ensures c.in-Any.is)

pub read_atom-read_lit_atom-requires : goal.read_atom-read_lit_atom-requires
read_atom-read_lit_atom-requires t c = predict.unit_else c.args.reader.now c.terminal.result c.terminal.ensures c.in_default.not-OpenRound c.in_default.not-All c.in_default.not-Any
    (λ e. let no_not : is_next terminal.Not c.args.reader.now ≡ true = subst (λ (x : Terminal). is_next x c.args.reader.now ≡ true) e (next_word c.args.reader.now c.terminal.result c.terminal.ensures) in let wrong : true ≡ false = sym no_not ∙ c.requires in cc)

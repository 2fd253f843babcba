use Rattle.std.proofs.lemmas.Result.{err_from_is_err_and}
use Rattle.sm_clausify.specs.declared.formula.Formula.{Formula}
use Rattle.sm_clausify.specs.Propositions.{meaning}
use Rattle.sm_meaning.specs.Limits.{literal_bounds}
use Rattle.sm_drafts.specs.Drafts.{bounds_tried}
use Rattle.sm_drafts.proofs.Parts.{split_item, one_more, refused_at, all_passed}
use Rattle.sm_drafts.proofs.LiteralBounds.{implied_refused, implied_passes, equivalent_refused, equivalent_passes, literal_passes, all_pass, any_pass, implication_passes, equivalence_passes}
use Rattle.sm_drafts.proofs.literals.+literals.Goals as goal

pub try_both-returns-in_err-try_literals-clause-implied : goal.try_both-returns-in_err-try_literals-clause-implied
try_both-returns-in_err-try_literals-clause-implied t c =
    let p = err_from_is_err_and c.from_residual.result c.from_residual.ensures.1 in
    rw (p.1, p.2) (implied_refused (meaning c.args.first.now) (meaning c.args.second.now) c.in_err-try_literals.field-0.0 c.in_err-try_literals.ensures)

pub try_both-returns-in_err-try_literals-clause-equivalent : goal.try_both-returns-in_err-try_literals-clause-equivalent
try_both-returns-in_err-try_literals-clause-equivalent t c =
    let p = err_from_is_err_and c.from_residual.result c.from_residual.ensures.1 in
    let e = c.in_err-try_literals.field-0.0 in
    let first = meaning c.args.first.now in
    let second = meaning c.args.second.now in
    rw (p.1, p.2) (equivalent_refused first second e (implied_refused first second e c.in_err-try_literals.ensures))

pub try_both-returns-clause-implied : goal.try_both-returns-clause-implied
try_both-returns-clause-implied t c =
    implied_passes (meaning c.args.first.now) (meaning c.args.second.now) c.try_literals-2.result c.in_ok-try_literals.ensures c.try_literals-2.ensures

pub try_both-returns-clause-equivalent : goal.try_both-returns-clause-equivalent
try_both-returns-clause-equivalent t c =
    equivalent_passes (meaning c.args.first.now) (meaning c.args.second.now) c.try_literals-2.result c.in_ok-try_literals.ensures c.try_literals-2.ensures

pub try_all-returns-in_err-try_literals : goal.try_all-returns-in_err-try_literals
try_all-returns-in_err-try_literals t c =
    let p = err_from_is_err_and c.from_residual.result c.from_residual.ensures.1 in
    rw (p.1, p.2) (refused_at c.in_err-try_literals.field-0.0 (λ (f : Formula). bounds_tried (literal_bounds (meaning f))) c.args.parts.now c.loop-part.part-index c.part-item.result
    (split_item c.args.parts.now c.loop-part.part-index c.part-item.result c.loop-part-test.true c.part-item.is) c.loop-part.invariant c.in_err-try_literals.ensures)

pub try_all-loop-part-preserved : goal.try_all-loop-part-preserved
try_all-loop-part-preserved t c =
    one_more (λ (f : Formula). bounds_tried (literal_bounds (meaning f))) c.args.parts.now c.loop-part.part-index c.part-item.result
    (split_item c.args.parts.now c.loop-part.part-index c.part-item.result c.loop-part-test.true c.part-item.is) c.loop-part.invariant c.in_ok-try_literals.ensures

pub try_all-returns : goal.try_all-returns
try_all-returns t c = all_passed (λ (f : Formula). bounds_tried (literal_bounds (meaning f))) c.args.parts.now c.loop-part.part-index tt c.loop-part-test.false c.loop-part.invariant

pub try_literals-returns-in-Lit : goal.try_literals-returns-in-Lit
try_literals-returns-in-Lit t c =
    literal_passes c.args.formula.now c.behind_nots-inner.result.now c.try_bound.result c.behind_nots-inner.ensures.bounds c.in-Lit.literal c.in-Lit.is c.try_bound.ensures.tried

pub try_literals-returns-in-And : goal.try_literals-returns-in-And
try_literals-returns-in-And t c =
    all_pass c.args.formula.now c.behind_nots-inner.result.now c.try_all.result c.behind_nots-inner.ensures.bounds c.in-And.parts c.as_slice.result.now c.in-And.is c.as_slice.ensures c.try_all.ensures

pub try_literals-returns-in-Or : goal.try_literals-returns-in-Or
try_literals-returns-in-Or t c =
    any_pass c.args.formula.now c.behind_nots-inner.result.now c.try_all-in-Or.result c.behind_nots-inner.ensures.bounds c.in-Or.parts c.as_slice-in-Or.result.now c.in-Or.is c.as_slice-in-Or.ensures c.try_all-in-Or.ensures

pub try_literals-returns-in-Implies : goal.try_literals-returns-in-Implies
try_literals-returns-in-Implies t c =
    implication_passes c.args.formula.now c.behind_nots-inner.result.now c.try_both.result c.behind_nots-inner.ensures.bounds c.in-Implies.first c.in-Implies.second c.get.result.now c.get-in-Implies.result.now
    c.in-Implies.is c.get.ensures c.get-in-Implies.ensures c.try_both.ensures.implied

pub try_literals-returns-in-Iff : goal.try_literals-returns-in-Iff
try_literals-returns-in-Iff t c =
    equivalence_passes c.args.formula.now c.behind_nots-inner.result.now c.try_both-in-Iff.result c.behind_nots-inner.ensures.bounds c.in-Iff.first c.in-Iff.second c.get-in-Iff.result.now c.get-in-Iff-2.result.now
    c.in-Iff.is c.get-in-Iff.ensures c.get-in-Iff-2.ensures c.try_both-in-Iff.ensures.equivalent

use Rattle.std.proofs.Common.{arith, rules, w64, FitsSigned}
use Rattle.std.specs.Int.{w128}
use Rattle.std.proofs.lemmas.Int.{to_z-of_z}
use Rattle.std.proofs.lemmas.Result.{err_from_is_err_and}
use Rattle.sm_forms.proofs.Merges.{wider, merges_on, merges_end, merges_stop}
use Rattle.sm_forms.proofs.merge.merge_onto.Goals as goal

pub returns-in_err-push_term-clause-large : goal.returns-in_err-push_term-clause-large
returns-in_err-push_term-clause-large c =
    let p = err_from_is_err_and c.from_residual.result c.from_residual.ensures.1 in
    let fits : FitsSigned w128 c.next_term-next.result.coefficient = search rules in
    let b = to_z-of_z w64 c.args.by c.ranges.by in
    rw (p.1, p.2) (λ n s. merges_stop n _ _ _ _ _ _ _ c.next_term-next.result _
    (rw b at (c.loop-i.invariant.merges n s)) (rw b at (c.next_term-next.ensures.moves n)) (rw (to_z-of_z w128 c.next_term-next.result.coefficient fits) at c.in_err-push_term.ensures.large))

pub loop-i-preserved : goal.loop-i-preserved
loop-i-preserved c = record {
  i_in = c.next_term-next.ensures.i_in;
  j_in = c.next_term-next.ensures.j_in;
  merges = λ n s. merges_on n _ _ _ _ _ _ _ _ c.next_term-next.result (c.loop-i.invariant.merges n s) (c.next_term-next.ensures.moves n)
      c.in_ok-push_term.ensures.rises
      (let fits : FitsSigned w128 c.next_term-next.result.coefficient = search rules in rw (to_z-of_z w128 c.next_term-next.result.coefficient fits) at c.in_ok-push_term.ensures.total);
}

pub returns-clause-rises : goal.returns-clause-rises
returns-clause-rises c = λ n s. let m = c.loop-i.invariant.merges n s in wider m.first n 0 c.loop-i.terms m.in_range m.written

pub returns-clause-total : goal.returns-clause-total
returns-clause-total c = λ n s p. merges_end n _ _ _ _ _ _ _ p (omega arith) (omega arith) (rw (to_z-of_z w64 c.args.by c.ranges.by) at (c.loop-i.invariant.merges n s))

use Rattle.std.proofs.Common.{rules, arith, w64, FitsSigned, slice_index_or}
use Rattle.std.proofs.lemmas.Int.{to_z-of_z}
use Rattle.sm_forms.proofs.Merges.{no_term}
use Rattle.sm_forms.proofs.Queries.{above_is, found_first, none_found}
use Rattle.sm_forms.proofs.form.Form.large_coefficient.Goals as goal

pub returns-then-found-limit : goal.returns-then-found-limit
returns-then-found-limit c = λ n g h.
    let t = slice_index_or c.as_slice-term-items.result.now c.loop-term.term-index no_term in
    let fits : FitsSigned w64 t.1 = search rules in
    let size = rw (to_z-of_z w64 t.1 fits) at c.unsigned_abs-found.ensures.value in
    let large = above_is c.args.limit c.unsigned_abs-found.result t.1 size c.if-found-limit.true in
    found_first c.args.limit n c.loop-term.term-index _ g c.args.self.now c.as_slice-term-items.result.now h c.as_slice-term-items.ensures c.loop-term-test.true c.loop-term.invariant large

pub returns : goal.returns
returns c = λ n g h.
    none_found c.args.limit n c.loop-term.term-index g c.args.self.now c.as_slice-term-items.result.now h c.as_slice-term-items.ensures (omega arith) c.loop-term.invariant

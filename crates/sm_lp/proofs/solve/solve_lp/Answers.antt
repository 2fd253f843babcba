use Rattle.std.proofs.Common.{◌∙◌, ap, ℕ, subst, vec_len, Vec, Global}
use Rattle.sm_lp.specs.declared.pivot.Moved.TheVariants.{Turned, Passed}
use Rattle.sm_lp.specs.Table.{dictionary_of}
use Rattle.sm_lp.specs.Moved.{IsMoved}
use Rattle.sm_lp.proofs.Return.{entry_not_zero}
use Rattle.sm_lp.proofs.SolveLemmas.{path_leaves, move_here, move_falls_here, path_next, move_passes_here}
use Rattle.sm_lp.proofs.AnswerLemmas.{path_basis, same_reads}
use Rattle.sm_lp.proofs.solve.solve_lp.Goals as goal

pub next_turn-requires : goal.next_turn-requires
next_turn-requires c = record { leaving = path_leaves c.args.program.now (dictionary_of c.loop-table.table) c.loop-table.table.constant c.loop-table.table.goal c.loop-table.invariant.constant c.loop-table.invariant.goal c.loop-table.invariant.path }

pub make_move-requires-clause-some : goal.make_move-requires-clause-some
make_move-requires-clause-some c = let t = c.loop-table.table in entry_not_zero (dictionary_of t) t.constant t.goal c.in-Move.row c.in-Move.column c.in-Move.ensures

pub loop-table-smaller : goal.loop-table-smaller
loop-table-smaller c =
    let p = c.args.program.now in
    let t = c.loop-table.table in
    let d = dictionary_of t in
    let h = c.loop-table.invariant in
    let m = move_here p d t.constant t.goal c.in-Move.row c.in-Move.column h.constant h.goal c.in-Move.ensures in
    let new : IsMoved t c.in-Move.row c.in-Move.column (Turned c.in-Turned.next) = subst (IsMoved t c.in-Move.row c.in-Move.column) c.in-Turned.is c.in_ok-next-in-Move.ensures in
    move_falls_here p d (dictionary_of c.in-Turned.next) c.in-Move.row c.in-Move.column h.path m new.0

pub loop-table-preserved : goal.loop-table-preserved
loop-table-preserved c =
    let p = c.args.program.now in
    let t = c.loop-table.table in
    let d = dictionary_of t in
    let h = c.loop-table.invariant in
    let m = move_here p d t.constant t.goal c.in-Move.row c.in-Move.column h.constant h.goal c.in-Move.ensures in
    let new : IsMoved t c.in-Move.row c.in-Move.column (Turned c.in-Turned.next) = subst (IsMoved t c.in-Move.row c.in-Move.column) c.in-Turned.is c.in_ok-next-in-Move.ensures in
    record {
      path = path_next p d (dictionary_of c.in-Turned.next) c.in-Move.row c.in-Move.column h.path m new.1 new.0;
      goal = new.2 ∙ h.goal;
      constant = new.3 ∙ h.constant;
      small = h.small;
    }

pub returns-in-Passed-clause-path : goal.returns-in-Passed-clause-path
returns-in-Passed-clause-path c =
    let p = c.args.program.now in
    let t = c.loop-table.table in
    let d = dictionary_of t in
    let h = c.loop-table.invariant in
    let m = move_here p d t.constant t.goal c.in-Move.row c.in-Move.column h.constant h.goal c.in-Move.ensures in
    let e = c.in-Passed.passed in
    let old : IsMoved t c.in-Move.row c.in-Move.column (Passed c.in-Passed.basic e) = subst (IsMoved t c.in-Move.row c.in-Move.column) c.in-Passed.is c.in_ok-next-in-Move.ensures in
    let is = c.deref.ensures.value ∙ ap (λ (v : Vec ℕ Global). v.items) old.0 in
    let basis = path_basis p d c.deref.result.now c.basic-count.result t.goal c.in_ok-basis-in-Passed.basis.items h.path (same_reads c.deref.result.now t.basic.items is) h.goal (c.deref.ensures.len ∙ ap (λ (v : Vec ℕ Global). vec_len v) old.0 ∙ t.rows) c.basic-count.ensures c.in_ok-basis-in-Passed.ensures in
    (d, h.path, move_passes_here p d c.in-Move.row c.in-Move.column e.op e.left e.right m old.1, basis)

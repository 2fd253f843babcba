use Rattle.std.proofs.Common.{◌∙◌, sym, List, subst, Some, map}
use Rattle.sm_frac.specs.Frac.{value_of}
use Rattle.sm_certificate.specs.declared.program.LpRow.{LpRow}
use Rattle.sm_lp.specs.Table.{dictionary_of}
use Rattle.sm_lp.specs.Ending.{slack_of, AreApart}
use Rattle.sm_lp.proofs.SolveLemmas.{path_tracked}
use Rattle.sm_lp.proofs.ApartLemmas.{row_halves_apart}
use Rattle.sm_lp.proofs.AnswerLemmas.{path_proper, path_basis, same_reads, infeasible_here, turned_multipliers, contradiction, infeasible_exact}
use Rattle.sm_lp.proofs.ending.infeasible_answer.Goals as goal

pub row_multipliers-requires-clause-proper : goal.row_multipliers-requires-clause-proper
row_multipliers-requires-clause-proper c = path_proper c.args.program.now (dictionary_of c.args.table.now) c.requires.path

pub row_multipliers-requires-clause-apart : goal.row_multipliers-requires-clause-apart
row_multipliers-requires-clause-apart c =
    let p = c.args.program.now in
    let t = c.args.table.now in
    let d = dictionary_of t in
    let o = infeasible_here p d t.constant t.goal c.args.row c.requires.constant c.requires.goal c.requires.infeasible in
    subst (λ (rows : List LpRow). AreApart rows (slack_of t.constant t.goal d (Some c.args.row)) t.constant) (sym c.as_slice.ensures) (row_halves_apart p d t.constant t.goal c.args.row c.requires.constant c.requires.goal (path_tracked p d c.requires.path) o)

pub returns-clause-path : goal.returns-clause-path
returns-clause-path c =
    let p = c.args.program.now in
    let t = c.args.table.now in
    let d = dictionary_of t in
    let o = infeasible_here p d t.constant t.goal c.args.row c.requires.constant c.requires.goal c.requires.infeasible in
    let basis = path_basis p d c.deref.result.now c.basic.result t.goal c.in_ok-basis.basis.items c.requires.path (same_reads c.deref.result.now t.basic.items c.deref.ensures.value) c.requires.goal (c.deref.ensures.len ∙ t.rows) c.basic.ensures c.in_ok-basis.ensures in
    (d, c.args.row, c.requires.path, o, basis, turned_multipliers p d t.constant t.goal c.args.row c.as_slice.result.now (map value_of c.in_ok-multipliers.multipliers.items) c.requires.constant c.as_slice.ensures c.in_ok-multipliers.ensures)

pub returns-clause-right : goal.returns-clause-right
returns-clause-right c =
    let p = c.args.program.now in
    let t = c.args.table.now in
    let d = dictionary_of t in
    let o = infeasible_here p d t.constant t.goal c.args.row c.requires.constant c.requires.goal c.requires.infeasible in
    let ms = map value_of c.in_ok-multipliers.multipliers.items in
    contradiction p d c.args.row ms c.requires.solvable (path_tracked p d c.requires.path) o (turned_multipliers p d t.constant t.goal c.args.row c.as_slice.result.now ms c.requires.constant c.as_slice.ensures c.in_ok-multipliers.ensures)

pub returns-clause-exact : goal.returns-clause-exact
returns-clause-exact c =
    let p = c.args.program.now in
    let t = c.args.table.now in
    let d = dictionary_of t in
    infeasible_exact p d c.args.row c.requires.path (infeasible_here p d t.constant t.goal c.args.row c.requires.constant c.requires.goal c.requires.infeasible)

use Rattle.std.proofs.Common.{◌∙◌, sym, arith, List, subst, None, map, SFits, w64}
use Rattle.std.proofs.lemmas.Int.{ints, to_z-of_z}
use Rattle.sm_frac.specs.Frac.{value_of}
use Rattle.sm_frac.specs.declared.fraction.Frac.{Frac}
use Rattle.sm_certificate.specs.declared.program.LpRow.{LpRow}
use Rattle.sm_lp.specs.Table.{dictionary_of}
use Rattle.sm_lp.specs.Ending.{slack_of, AreApart, AreBoxed, IsCommon, IsCommonPassed}
use Rattle.sm_lp.proofs.SolveLemmas.{path_tracked}
use Rattle.sm_lp.proofs.ApartLemmas.{goal_halves_apart}
use Rattle.sm_lp.proofs.AnswerLemmas.{path_proper, path_basis, same_reads, optimal_here, goal_multipliers, optimum_read, values_exact, optimal_exact, value_step, common_step, values_boxed}
use Rattle.sm_lp.proofs.ending.optimal_answer.Goals as goal

pub column_values-requires-clause-proper : goal.column_values-requires-clause-proper
column_values-requires-clause-proper c = path_proper c.args.program.now (dictionary_of c.args.table.now) c.requires.path

pub returns-in-Err-clause-path : goal.returns-in-Err-clause-path
returns-in-Err-clause-path c =
    let p = c.args.program.now in
    let t = c.args.table.now in
    let d = dictionary_of t in
    let o = optimal_here p d t.constant t.goal c.requires.constant c.requires.goal c.requires.optimal in
    let basis = path_basis p d c.deref.result.now c.basic.result t.goal c.in_ok-basis.basis.items c.requires.path (same_reads c.deref.result.now t.basic.items c.deref.ensures.value) c.requires.goal (c.deref.ensures.len ∙ t.rows) c.basic.ensures c.in_ok-basis.ensures in
    (d, c.requires.path, value_step p d c.in-Err.passed.op c.in-Err.passed.left c.in-Err.passed.right o c.in-Err.ensures.passed, basis)

pub numerators-requires-clause-boxed : goal.numerators-requires-clause-boxed
numerators-requires-clause-boxed c =
    let p = c.args.program.now in
    let t = c.args.table.now in
    let d = dictionary_of t in
    let o = optimal_here p d t.constant t.goal c.requires.constant c.requires.goal c.requires.optimal in
    subst AreBoxed (sym c.deref-in-Ok-common_denominator.ensures.value) (values_boxed p d c.in-Ok.values.items c.requires.solvable (path_tracked p d c.requires.path) o c.in-Ok.ensures.values)

pub row_multipliers-requires-clause-proper : goal.row_multipliers-requires-clause-proper
row_multipliers-requires-clause-proper c = path_proper c.args.program.now (dictionary_of c.args.table.now) c.requires.path

pub row_multipliers-requires-clause-apart : goal.row_multipliers-requires-clause-apart
row_multipliers-requires-clause-apart c =
    let p = c.args.program.now in
    let t = c.args.table.now in
    let d = dictionary_of t in
    subst (λ (rows : List LpRow). AreApart rows (slack_of t.constant t.goal d None) t.constant) (sym c.as_slice.ensures) (goal_halves_apart p d t.constant t.goal c.requires.constant c.requires.goal (path_tracked p d c.requires.path))

pub returns-in-Ok-common_denominator-clause-path :
    goal.returns-in-Ok-common_denominator-clause-path
returns-in-Ok-common_denominator-clause-path c =
    let p = c.args.program.now in
    let t = c.args.table.now in
    let d = dictionary_of t in
    let v = c.in-Ok.values.items in
    let e = c.in-Ok-common_denominator.denominator in
    let o = optimal_here p d t.constant t.goal c.requires.constant c.requires.goal c.requires.optimal in
    let common : IsCommon v e = subst (λ (xs : List Frac). IsCommon xs e) c.deref-2.ensures.value c.in-Ok-common_denominator.ensures.common in
    let low = common.least in
    let high = common.most in
    let fits : SFits w64 e = omega (arith, ints) in
    let basis = path_basis p d c.deref.result.now c.basic.result t.goal c.in_ok-basis.basis.items c.requires.path (same_reads c.deref.result.now t.basic.items c.deref.ensures.value) c.requires.goal (c.deref.ensures.len ∙ t.rows) c.basic.ensures c.in_ok-basis.ensures in
    let ms = goal_multipliers p d t.constant t.goal c.as_slice.result.now (map value_of c.in_ok-multipliers-in-Ok-common_denominator.multipliers.items) c.requires.constant c.requires.goal c.as_slice.ensures c.in_ok-multipliers-in-Ok-common_denominator.ensures in
    let exact = values_exact p d v c.deref-in-Ok-common_denominator.result.now c.in_ok-point-in-Ok-common_denominator.point.items e c.deref-in-Ok-common_denominator.ensures.value c.in-Ok.ensures.values (simp to_z-of_z at c.in_ok-point-in-Ok-common_denominator.ensures.exact) in
    (d, c.requires.path, o, basis, ms, simp to_z-of_z exact)

pub returns-in-Ok-common_denominator-clause-right :
    goal.returns-in-Ok-common_denominator-clause-right
returns-in-Ok-common_denominator-clause-right c =
    let p = c.args.program.now in
    let t = c.args.table.now in
    let d = dictionary_of t in
    let v = c.in-Ok.values.items in
    let e = c.in-Ok-common_denominator.denominator in
    let o = optimal_here p d t.constant t.goal c.requires.constant c.requires.goal c.requires.optimal in
    let common : IsCommon v e = subst (λ (xs : List Frac). IsCommon xs e) c.deref-2.ensures.value c.in-Ok-common_denominator.ensures.common in
    let low = common.least in
    let high = common.most in
    let fits : SFits w64 e = omega (arith, ints) in
    let ms = goal_multipliers p d t.constant t.goal c.as_slice.result.now (map value_of c.in_ok-multipliers-in-Ok-common_denominator.multipliers.items) c.requires.constant c.requires.goal c.as_slice.ensures c.in_ok-multipliers-in-Ok-common_denominator.ensures in
    let is = c.deref-in-Ok-common_denominator.ensures.value in
    let made = optimum_read p d v c.deref-in-Ok-common_denominator.result.now e c.in_ok-point-in-Ok-common_denominator.point.items (map value_of c.in_ok-multipliers-in-Ok-common_denominator.multipliers.items) c.requires.solvable (path_tracked p d c.requires.path) o c.in-Ok.ensures.values common is c.in_ok-point-in-Ok-common_denominator.ensures.long (simp to_z-of_z at c.in_ok-point-in-Ok-common_denominator.ensures.exact) ms in
    simp to_z-of_z made

pub returns-in-Ok-common_denominator-clause-exact :
    goal.returns-in-Ok-common_denominator-clause-exact
returns-in-Ok-common_denominator-clause-exact c =
    let p = c.args.program.now in
    let t = c.args.table.now in
    let d = dictionary_of t in
    let v = c.in-Ok.values.items in
    let e = c.in-Ok-common_denominator.denominator in
    let o = optimal_here p d t.constant t.goal c.requires.constant c.requires.goal c.requires.optimal in
    let common : IsCommon v e = subst (λ (xs : List Frac). IsCommon xs e) c.deref-2.ensures.value c.in-Ok-common_denominator.ensures.common in
    optimal_exact p d v e c.requires.path o c.in-Ok.ensures.values common

pub returns-clause-path : goal.returns-clause-path
returns-clause-path c =
    let p = c.args.program.now in
    let t = c.args.table.now in
    let d = dictionary_of t in
    let v = c.in-Ok.values.items in
    let e = c.in-Err-common_denominator.passed in
    let o = optimal_here p d t.constant t.goal c.requires.constant c.requires.goal c.requires.optimal in
    let basis = path_basis p d c.deref.result.now c.basic.result t.goal c.in_ok-basis.basis.items c.requires.path (same_reads c.deref.result.now t.basic.items c.deref.ensures.value) c.requires.goal (c.deref.ensures.len ∙ t.rows) c.basic.ensures c.in_ok-basis.ensures in
    let passed : IsCommonPassed v e.op e.left e.right = subst (λ (xs : List Frac). IsCommonPassed xs e.op e.left e.right) c.deref-2.ensures.value c.in-Err-common_denominator.ensures.passed in
    (d, c.requires.path, common_step p d v e.op e.left e.right o c.in-Ok.ensures.values passed, basis)

use Rattle.std.proofs.Common.{◌≡◌, sym, subst, map, ◌+◌, ◌≤◌, List}
use Rattle.std.specs.Prelude.{None, Some}
use Rattle.sm_syntax.specs.Expressions.{expression_of, expressions_of}
use Rattle.sm_forms.specs.Forms.{IsFormOf}
use Rattle.sm_meaning.specs.declared.range.Range.{Range}
use Rattle.sm_meaning.specs.Scopes as thing
use Rattle.sm_meaning.specs.Scopes.{count_of}
use Rattle.sm_meaning.specs.Tuples.{member_count}
use Rattle.sm_meaning.specs.Trials.{GoesThrough}
use Rattle.sm_meaning.specs.Worths.{named_worth}
use Rattle.sm_scopes.specs.declared.scope.Thing.{Thing}
use Rattle.sm_scopes.specs.Things.{thing_of, HasVariables}
use Rattle.sm_expressions.specs.Named.{behind_indices}
use Rattle.sm_expressions.proofs.name.thing_form.Goals as goal

pub returns-in-Table : goal.returns-in-Table
returns-in-Table c = λ s has visited.
    subst (λ (t : Thing). GoesThrough (behind_indices c.args.place None (Some (thing_of t)) c.args.numbers.now (expressions_of (map expression_of c.args.parts.now)) s) visited visited
    (IsFormOf (count_of s) (named_worth None (Some (thing_of t)) c.args.numbers.now)) c.table_form.result) (sym c.in-Table.is) (c.table_form.ensures s visited)

pub returns-in-Variable : goal.returns-in-Variable
returns-in-Variable c = λ s has visited.
    subst (λ (t : Thing). GoesThrough (behind_indices c.args.place None (Some (thing_of t)) c.args.numbers.now (expressions_of (map expression_of c.args.parts.now)) s) visited visited
    (IsFormOf (count_of s) (named_worth None (Some (thing_of t)) c.args.numbers.now)) c.variable_at.result) (sym c.in-Variable.is)
    (c.variable_at.ensures s (subst (λ (t : Thing). HasVariables (count_of s) (thing_of t)) c.in-Variable.is has) visited)

pub returns-in-Family : goal.returns-in-Family
returns-in-Family c = λ s has visited.
    let sets : c.as_slice.result.now ≡ c.in-Family.sets = c.as_slice.ensures in
    let fits = subst (λ (t : Thing). HasVariables (count_of s) (thing_of t)) c.in-Family.is has in
    let fits' = subst (λ (rs : List Range). c.in-Family.first + member_count rs ≤ count_of s) (sym sets) fits in
    subst (λ (t : Thing). GoesThrough (behind_indices c.args.place None (Some (thing_of t)) c.args.numbers.now (expressions_of (map expression_of c.args.parts.now)) s) visited visited
    (IsFormOf (count_of s) (named_worth None (Some (thing_of t)) c.args.numbers.now)) c.family_form.result) (sym c.in-Family.is)
    (subst (λ (rs : List Range). GoesThrough (behind_indices c.args.place None (Some (thing.family c.in-Family.first rs)) c.args.numbers.now (expressions_of (map expression_of c.args.parts.now)) s) visited visited
    (IsFormOf (count_of s) (named_worth None (Some (thing.family c.in-Family.first rs)) c.args.numbers.now)) c.family_form.result) sets (c.family_form.ensures s fits' visited))

use Rattle.std.proofs.Common.{rules, ◌∙◌, ap, sym, subst, map, FitsSigned}
use Rattle.std.specs.Int.{w64}
use Rattle.std.proofs.lemmas.Int.{to_z-of_z}
use Rattle.sm_data.specs.declared.table.Table.TheVariants as table
use Rattle.std.specs.Prelude.{None, Some}
use Rattle.sm_syntax.specs.Expressions.{expression_of, expressions_of}
use Rattle.sm_forms.specs.Forms.{IsFormOf}
use Rattle.sm_data.specs.declared.table.Table.{Table}
use Rattle.sm_meaning.specs.Scopes as thing
use Rattle.sm_meaning.specs.Scopes.{count_of}
use Rattle.sm_meaning.specs.Trials.{GoesThrough}
use Rattle.sm_meaning.specs.Worths.{named_worth}
use Rattle.sm_expressions.specs.Named.{behind_indices}
use Rattle.sm_expressions.proofs.name.table_form.Goals as goal

pub returns-in-Number : goal.returns-in-Number
returns-in-Number c = λ s visited.
    let narrow : FitsSigned w64 c.in-Number.number = search rules in
    subst (λ (t : Table). GoesThrough (behind_indices c.args.place None (Some (thing.table t)) c.args.numbers.now (expressions_of (map expression_of c.args.parts.now)) s) visited visited
    (IsFormOf (count_of s) (named_worth None (Some (thing.table t)) c.args.numbers.now)) c.number_at.result) (sym c.in-Number.is)
    (rw (to_z-of_z w64 c.in-Number.number narrow) at (c.number_at.ensures s visited))

pub returns-in-List : goal.returns-in-List
returns-in-List c = λ s visited.
    subst (λ (t : Table). GoesThrough (behind_indices c.args.place None (Some (thing.table t)) c.args.numbers.now (expressions_of (map expression_of c.args.parts.now)) s) visited visited
    (IsFormOf (count_of s) (named_worth None (Some (thing.table t)) c.args.numbers.now)) c.list_at.result) (ap table.List c.as_slice.ensures ∙ sym c.in-List.is) (c.list_at.ensures s visited)

pub returns-in-Grid : goal.returns-in-Grid
returns-in-Grid c = λ s visited.
    subst (λ (t : Table). GoesThrough (behind_indices c.args.place None (Some (thing.table t)) c.args.numbers.now (expressions_of (map expression_of c.args.parts.now)) s) visited visited
    (IsFormOf (count_of s) (named_worth None (Some (thing.table t)) c.args.numbers.now)) c.grid_at.result) (ap table.Grid c.as_slice-in-Grid.ensures ∙ sym c.in-Grid.is) (c.grid_at.ensures s visited)

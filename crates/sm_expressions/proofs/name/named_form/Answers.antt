use Rattle.std.proofs.Common.{rules, sym, subst, map, FitsSigned}
use Rattle.std.specs.Int.{w64}
use Rattle.std.proofs.lemmas.Int.{to_z-of_z}
use Rattle.sm_syntax.specs.Expressions.{expression_of, expressions_of}
use Rattle.sm_forms.specs.Forms.{IsFormOf}
use Rattle.sm_meaning.specs.Scopes.{count_of}
use Rattle.sm_meaning.specs.Trials.{GoesThrough}
use Rattle.sm_meaning.specs.Worths.{named_worth}
use Rattle.sm_expressions.specs.declared.name.Known.{Known}
use Rattle.sm_expressions.specs.Named.{number_in, thing_in, HasKnown, behind_indices}
use Rattle.sm_expressions.proofs.name.named_form.Goals as goal

pub returns-in-Number : goal.returns-in-Number
returns-in-Number c = λ s has visited.
    let narrow : FitsSigned w64 c.in-Number.number = search rules in
    subst (λ (k : Known). GoesThrough (behind_indices c.args.place (number_in k) (thing_in k) c.args.numbers.now (expressions_of (map expression_of c.args.parts.now)) s) visited visited
    (IsFormOf (count_of s) (named_worth (number_in k) (thing_in k) c.args.numbers.now)) c.number_at.result) (sym c.in-Number.is)
    (rw (to_z-of_z w64 c.in-Number.number narrow) at (c.number_at.ensures s visited))

pub returns-in-Thing : goal.returns-in-Thing
returns-in-Thing c = λ s has visited.
    subst (λ (k : Known). GoesThrough (behind_indices c.args.place (number_in k) (thing_in k) c.args.numbers.now (expressions_of (map expression_of c.args.parts.now)) s) visited visited
    (IsFormOf (count_of s) (named_worth (number_in k) (thing_in k) c.args.numbers.now)) c.thing_form.result) (sym c.in-Thing.is)
    (c.thing_form.ensures s (subst (λ (k : Known). HasKnown (count_of s) k) c.in-Thing.is has) visited)

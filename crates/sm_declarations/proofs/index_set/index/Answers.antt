use Rattle.std.proofs.Common.{◌≡◌, ◌∙◌, ap, ap₂, subst, refl, List, ℕ, ◌++◌, ◌∷◌, []}
use Rattle.std.proofs.lemmas.Result.{err_from_is_err_and}
use Rattle.sm_syntax.specs.Expressions.{expression_of}
use Rattle.sm_meaning.specs.declared.range.Range.{Range}
use Rattle.sm_meaning.specs.Scopes as thing
use Rattle.sm_meaning.specs.Scopes.{Scope}
use Rattle.sm_meaning.specs.Trials.{reached, IsStopped}
use Rattle.sm_meaning.specs.ExpressionTrials.{new_tried}
use Rattle.sm_meaning.specs.Expansions.{scope_of}
use Rattle.sm_meaning.specs.Declarations.{range_of}
use Rattle.sm_meaning.proofs.Steps.{stops, stops_later, goes_on}
use Rattle.sm_declarations.proofs.Families.{named, range_tried}
use Rattle.sm_declarations.proofs.index_set.index.Goals as goal

pub returns-in_err-expect_new : goal.returns-in_err-expect_new
returns-in_err-expect_new c =
    let p = err_from_is_err_and c.from_residual.result c.from_residual.ensures.1 in
    let name = c.args.name.now in
    let visited = c.args.visited.now in
    let x = c.in_err-expect_new.field-0.0 in
    rw (p.1, p.2) (λ e m.
    let s = scope_of e in
    stops x (new_tried s [] name) (range_tried s (expression_of c.args.least.now) (expression_of c.args.greatest.now)) visited
    (subst (λ (s : Scope). IsStopped x (new_tried s [] name visited)) m.scope (c.in_err-expect_new.ensures visited)))

pub returns-in_err-range : goal.returns-in_err-range
returns-in_err-range c =
    let p = err_from_is_err_and c.from_residual-in_err-range.result c.from_residual-in_err-range.ensures.1 in
    let name = c.args.name.now in
    let visited = c.args.visited.now in
    let least = expression_of c.args.least.now in
    let greatest = expression_of c.args.greatest.now in
    let x = c.in_err-range.field-0.0 in
    rw (p.1, p.2) (λ e m.
    let s = scope_of e in
    stops_later x (new_tried s [] name) (range_tried s least greatest) visited visited
    (subst (λ (s : Scope). new_tried s [] name visited ≡ reached visited) m.scope (c.in_ok-expect_new.ensures visited).0)
    (subst (λ (s : Scope). IsStopped x (range_tried s least greatest visited)) m.scope c.in_err-range.ensures))

pub insert-requires-clause-new : goal.insert-requires-clause-new
insert-requires-clause-new c = rw c.as_slice.ensures (c.in_ok-expect_new.ensures 0).1

pub returns : goal.returns
returns c =
    let name = c.args.name.now in
    let visited = c.args.visited.now in
    let least = expression_of c.args.least.now in
    let greatest = expression_of c.args.greatest.now in
    let old = c.args.made.now in
    λ e m.
    let s = scope_of e in (
      goes_on (new_tried s [] name) (range_tried s least greatest) visited visited
          (subst (λ (s : Scope). new_tried s [] name visited ≡ reached visited) m.scope (c.in_ok-expect_new.ensures visited).0)
          ∙ subst (λ (s : Scope). range_tried s least greatest visited ≡ reached c.range_of.new.visited) m.scope c.in_ok-range.ensures.0,
      named e old _ name.text (thing.index_set (range_of s least greatest)) m
          (c.in_ok-insert.ensures.ok ∙ ap₂ (λ (n : List ℕ) (r : Range). old.scope.names ++ (n, thing.index_set r) ∷ []) c.as_slice.ensures (c.in_ok-range.ensures.1 ∙ ap (λ (s : Scope). range_of s least greatest) m.scope))
          c.in_ok-insert.ensures.kinds refl refl refl refl,
    )

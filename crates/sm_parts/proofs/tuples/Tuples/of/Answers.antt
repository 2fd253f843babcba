use Rattle.std.proofs.Common.{◌≡◌, ◌∙◌, ap, sym, subst, ◌∷◌, List, map}
use Rattle.std.proofs.lemmas.Result.{err_from_is_err_and}
use Rattle.sm_syntax.specs.declared.tree.Bind.{Bind}
use Rattle.sm_syntax.specs.declared.expression.Test.{Test}
use Rattle.sm_syntax.specs.declared.expression.Binders.{out-Binders}
use Rattle.sm_syntax.specs.Expressions.{Binding, comparisons_of, test_of}
use Rattle.sm_meaning.specs.Trials.{IsStopped, reached}
use Rattle.sm_meaning.specs.Tuples.{span_of, tuples}
use Rattle.sm_meaning.specs.ExpressionTrials.{binds_tried}
use Rattle.sm_parts.specs.Seeking.{Sought, binders_tried, Begins}
use Rattle.sm_parts.proofs.Views.{binding_view}
use Rattle.sm_parts.proofs.tuples.Tuples.of.Goals as goal

pub returns-in_err-cases : goal.returns-in_err-cases
returns-in_err-cases c =
    let b = out-Binders c.args.binders.now in
    let p = err_from_is_err_and c.from_residual.result c.from_residual.ensures.1 in
    rw (p.1, p.2) (λ count. subst (λ (x : Binding). IsStopped c.in_err-cases.field-0.0 (binders_tried x c.args.scope.now c.args.outside.now.tuple count)) (sym (binding_view c.args.binders.now))
    (subst (λ (xs : List Bind). IsStopped c.in_err-cases.field-0.0 (binds_tried (b.first ∷ xs) c.args.scope.now c.args.outside.now.tuple count)) c.as_slice.ensures (c.in_err-cases.ensures count)))

pub returns : goal.returns
returns c = λ count.
    let b = out-Binders c.args.binders.now in
    let found : Sought = record { tests = c.as_slice-2.result.now; tuple = c.in_ok-cases.cases.tuple; to_come = c.in_ok-cases.cases.to_come } in
    let s = c.args.scope.now in
    let outside = c.args.outside.now.tuple in
    subst (λ (x : Binding). (binders_tried x s outside count ≡ reached count) × Begins x s.names outside found) (sym (binding_view c.args.binders.now)) (
      ap (λ (xs : List Bind). binds_tried (b.first ∷ xs) s outside count) (sym c.as_slice.ensures) ∙ (c.in_ok-cases.ensures count).0,
      record {
        tests = ap (λ (ts : List Test). comparisons_of (map test_of ts)) c.as_slice-2.ensures;
        to_come = (c.in_ok-cases.ensures count).1 ∙ ap (λ (xs : List Bind). tuples (map (span_of s.names) (b.first ∷ xs)) outside) c.as_slice.ensures;
      },
    )

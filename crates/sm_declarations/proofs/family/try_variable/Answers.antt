use Rattle.std.proofs.Common.{◌≡◌, ◌∙◌, ap, sym, subst, [], ◌+◌, ◌≤◌, List, length}
use Rattle.std.proofs.lemmas.Result.{err_from_is_err_and}
use Rattle.std.proofs.lemmas.List.{length-map}
use Rattle.sm_kinds.specs.Limits.{most_variables}
use Rattle.sm_kinds.specs.declared.var.Var.{Var}
use Rattle.sm_syntax.specs.Trees.{kind_of}
use Rattle.sm_meaning.specs.declared.range.Range.{Range}
use Rattle.sm_meaning.specs.Scopes.{Scope, count_of}
use Rattle.sm_meaning.specs.Tuples.{member_count}
use Rattle.sm_meaning.specs.Trials.{reached, IsStopped}
use Rattle.sm_meaning.specs.ExpressionTrials.{new_tried}
use Rattle.sm_meaning.specs.Declarations.{kind_tried, var_limits_tried}
use Rattle.sm_meaning.specs.Expansions.{vars_of}
use Rattle.sm_meaning.proofs.Steps.{stops, stops_later, goes_on}
use Rattle.sm_declarations.proofs.Families.{limits_of, behind_few, few_tried, behind_sets, sets_tried, behind_new, all_tried}
use Rattle.sm_declarations.proofs.family.try_variable.Goals as goal

pub returns-in_err-expect_new : goal.returns-in_err-expect_new
returns-in_err-expect_new c =
    let p = err_from_is_err_and c.from_residual.result c.from_residual.ensures.1 in
    let name = c.args.name.now in
    let sets = c.args.sets.now in
    let k = kind_of c.args.kind.now in
    let v = c.args.visited.now in
    let t = c.args.made.now.scope in
    let x = c.in_err-expect_new.field-0.0 in
    rw (p.1, p.2) (λ e m. subst (λ (s : Scope). IsStopped x (all_tried name sets k e s v)) m.scope
    (stops x (new_tried t [] name) (behind_new name sets k e t) v (c.in_err-expect_new.ensures v)))

pub returns-in_err-try_sets : goal.returns-in_err-try_sets
returns-in_err-try_sets c =
    let p = err_from_is_err_and c.from_residual-in_err-try_sets.result c.from_residual-in_err-try_sets.ensures.1 in
    let name = c.args.name.now in
    let sets = c.args.sets.now in
    let k = kind_of c.args.kind.now in
    let v = c.args.visited.now in
    let t = c.args.made.now.scope in
    let x = c.in_err-try_sets.field-0.0 in
    rw (p.1, p.2) (λ e m. subst (λ (s : Scope). IsStopped x (all_tried name sets k e s v)) m.scope
    (stops_later x (new_tried t [] name) (behind_new name sets k e t) v v (c.in_ok-expect_new.ensures v).0
    (stops x (sets_tried sets t) (behind_sets name sets k e t) v (c.in_err-try_sets.ensures v))))

pub returns-in_err-try_few : goal.returns-in_err-try_few
returns-in_err-try_few c =
    let p = err_from_is_err_and c.from_residual-in_err-try_few.result c.from_residual-in_err-try_few.ensures.1 in
    let name = c.args.name.now in
    let sets = c.args.sets.now in
    let k = kind_of c.args.kind.now in
    let v = c.args.visited.now in
    let t = c.args.made.now.scope in
    let x = c.in_err-try_few.field-0.0 in
    rw (p.1, p.2) (λ e m. subst (λ (s : Scope). IsStopped x (all_tried name sets k e s v)) m.scope
    (stops_later x (new_tried t [] name) (behind_new name sets k e t) v v (c.in_ok-expect_new.ensures v).0
    (stops_later x (sets_tried sets t) (behind_sets name sets k e t) v v (c.in_ok-try_sets.ensures v).0
    (stops x (few_tried name sets) (behind_few name sets k e t) v (c.in_err-try_few.ensures v)))))

pub returns-in_err-numbers : goal.returns-in_err-numbers
returns-in_err-numbers c =
    let p = err_from_is_err_and c.from_residual-in_err-numbers.result c.from_residual-in_err-numbers.ensures.1 in
    let name = c.args.name.now in
    let sets = c.args.sets.now in
    let k = kind_of c.args.kind.now in
    let v = c.args.visited.now in
    let t = c.args.made.now.scope in
    let x = c.in_err-numbers.field-0.0 in
    rw (p.1, p.2) (λ e m. subst (λ (s : Scope). IsStopped x (all_tried name sets k e s v)) m.scope
    (stops_later x (new_tried t [] name) (behind_new name sets k e t) v v (c.in_ok-expect_new.ensures v).0
    (stops_later x (sets_tried sets t) (behind_sets name sets k e t) v v (c.in_ok-try_sets.ensures v).0
    (stops_later x (few_tried name sets) (behind_few name sets k e t) v v (c.in_ok-try_few.ensures v).0
    (stops x (kind_tried t k) (limits_of name sets k e t) v c.in_err-numbers.ensures)))))

pub returns-in_err-try_limits : goal.returns-in_err-try_limits
returns-in_err-try_limits c =
    let p = err_from_is_err_and c.from_residual-in_err-try_limits.result c.from_residual-in_err-try_limits.ensures.1 in
    let name = c.args.name.now in
    let sets = c.args.sets.now in
    let k = kind_of c.args.kind.now in
    let v = c.args.visited.now in
    let w = c.kind_numbers.new.visited in
    let t = c.args.made.now.scope in
    let x = c.in_err-try_limits.field-0.0 in
    rw (p.1, p.2) (λ e m. subst (λ (s : Scope). IsStopped x (all_tried name sets k e s v)) m.scope
    (stops_later x (new_tried t [] name) (behind_new name sets k e t) v v (c.in_ok-expect_new.ensures v).0
    (stops_later x (sets_tried sets t) (behind_sets name sets k e t) v v (c.in_ok-try_sets.ensures v).0
    (stops_later x (few_tried name sets) (behind_few name sets k e t) v v (c.in_ok-try_few.ensures v).0
    (stops_later x (kind_tried t k) (limits_of name sets k e t) v w c.in_ok-numbers.ensures.0
    (subst (λ (rs : List Range). IsStopped x (var_limits_tried e t (member_count rs) k w)) (c.as_slice-2.ensures.value ∙ c.in_ok-ranges.ensures)
    (c.in_err-try_limits.ensures e t (c.as_slice.ensures.value ∙ m.parts.flattened.variables) (c.as_slice-3.ensures.value ∙ c.in_ok-numbers.ensures.1) w)))))))

pub returns : goal.returns
returns c =
    let name = c.args.name.now in
    let sets = c.args.sets.now in
    let k = kind_of c.args.kind.now in
    let v = c.args.visited.now in
    let w = c.kind_numbers.new.visited in
    let old = c.args.made.now in
    let t = old.scope in
    λ e m.
    let rs_are = c.as_slice-2.ensures.value ∙ c.in_ok-ranges.ensures in
    let limits = c.in_ok-try_limits.ensures e t (c.as_slice.ensures.value ∙ m.parts.flattened.variables) (c.as_slice-3.ensures.value ∙ c.in_ok-numbers.ensures.1) w in
    let last : limits_of name sets k e t w ≡ reached w = subst (λ (rs : List Range). var_limits_tried e t (member_count rs) k w ≡ reached w) rs_are limits.0 in
    let all : all_tried name sets k e t v ≡ reached w =
    goes_on (new_tried t [] name) (behind_new name sets k e t) v v (c.in_ok-expect_new.ensures v).0
    ∙ goes_on (sets_tried sets t) (behind_sets name sets k e t) v v (c.in_ok-try_sets.ensures v).0
    ∙ goes_on (few_tried name sets) (behind_few name sets k e t) v v (c.in_ok-try_few.ensures v).0
    ∙ goes_on (kind_tried t k) (limits_of name sets k e t) v w c.in_ok-numbers.ensures.0
    ∙ last in (
      subst (λ (s : Scope). all_tried name sets k e s v ≡ reached w) m.scope all,
      (
        c.in_ok-numbers.ensures.1,
        record {
          new = (c.in_ok-expect_new.ensures v).1;
          few = subst (λ (rs : List Range). length old.vars.items + member_count rs ≤ most_variables) rs_are
              (subst (λ (vs : List Var). length vs + member_count c.as_slice-2.result.now ≤ most_variables) c.as_slice.ensures.value limits.1);
          kinds = ap count_of m.scope ∙ length-map (vars_of e) (λ (d : Var). d.kind) ∙ ap (λ vs. length vs) (sym m.parts.flattened.variables);
        },
      ),
    )

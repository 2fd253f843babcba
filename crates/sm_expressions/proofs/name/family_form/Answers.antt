use Rattle.std.proofs.Common.{◌∙◌, subst, ◌+◌, ℕ, arith, map, length}
use Rattle.std.proofs.lemmas.Result.{err_from_is_err_and}
use Rattle.std.specs.Prelude.{not, ◌==◌}
use Rattle.sm_syntax.specs.Expressions.{expressions_of, expression_of}
use Rattle.sm_forms.specs.Forms.{IsFormOf}
use Rattle.sm_meaning.specs.declared.refusal.Wrong.TheVariants.{Shape}
use Rattle.sm_meaning.specs.Refusals.{wrong_if}
use Rattle.sm_meaning.specs.Scopes.{count_of}
use Rattle.sm_meaning.specs.Trials.{◌▸◌, tried, GoesThrough}
use Rattle.sm_meaning.specs.Tuples.{members_before}
use Rattle.sm_meaning.specs.Worths.{value_of}
use Rattle.sm_meaning.specs.ExpressionTrials.{value_tried, indices_within, expression_count}
use Rattle.sm_expressions.proofs.Trying.{stops, stops_later, then_goes}
use Rattle.sm_expressions.proofs.name.family_form.Goals as goal

pub returns-in_err-expect_count : goal.returns-in_err-expect_count
returns-in_err-expect_count c =
    let p = err_from_is_err_and c.from_residual.result c.from_residual.ensures.1 in
    let xs = expressions_of (map expression_of c.args.parts.now) in
    rw (p.1, p.2) (λ s le visited.
    stops c.in_err-expect_count.field-0.0 (tried (wrong_if (not (length c.args.sets.now == expression_count xs)) c.args.place Shape))
    (indices_within c.args.sets.now c.args.numbers.now xs ▸ value_tried s (value_of (c.args.first + members_before c.args.sets.now c.args.numbers.now))) visited (c.in_err-expect_count.ensures.tried visited))

pub member_at-requires-clause-numbers : goal.member_at-requires-clause-numbers
member_at-requires-clause-numbers c = c.requires.numbers ∙ (c.in_ok-expect_count.ensures.count)

pub member_at-requires-clause-parts : goal.member_at-requires-clause-parts
member_at-requires-clause-parts c = (c.in_ok-expect_count.ensures.count)

pub returns-in_err-member : goal.returns-in_err-member
returns-in_err-member c =
    let p = err_from_is_err_and c.from_residual-in_err-member.result c.from_residual-in_err-member.ensures.1 in
    let xs = expressions_of (map expression_of c.args.parts.now) in
    rw (p.1, p.2) (λ s le visited.
    let value = value_tried s (value_of (c.args.first + members_before c.args.sets.now c.args.numbers.now)) in
    stops_later c.in_err-member.field-0.0 (tried (wrong_if (not (length c.args.sets.now == expression_count xs)) c.args.place Shape))
    (indices_within c.args.sets.now c.args.numbers.now xs ▸ value) visited visited (c.in_ok-expect_count.ensures.tried visited).0
    (stops c.in_err-member.field-0.0 (indices_within c.args.sets.now c.args.numbers.now xs) value visited (c.in_err-member.ensures visited)))

pub overflow_cast-member : goal.overflow_cast-member
overflow_cast-member c = let is = (c.in_ok-member.ensures 0).1 in omega (arith, is.below, is.count, c.requires.few)

pub overflow_add-first : goal.overflow_add-first
overflow_add-first c = let is = (c.in_ok-member.ensures 0).1 in omega (arith, is.below, is.count, c.requires.few)

pub returns : goal.returns
returns c = λ s le visited.
    let xs = expressions_of (map expression_of c.args.parts.now) in
    let is = (c.in_ok-member.ensures visited).1 in
    let var = c.args.first + members_before c.args.sets.now c.args.numbers.now in
    let value = value_tried s (value_of var) in
    then_goes (tried (wrong_if (not (length c.args.sets.now == expression_count xs)) c.args.place Shape))
    (indices_within c.args.sets.now c.args.numbers.now xs ▸ value) visited visited visited (IsFormOf (count_of s) (value_of var)) c.variable_form.result (c.in_ok-expect_count.ensures.tried visited).0
    (then_goes (indices_within c.args.sets.now c.args.numbers.now xs) value visited visited visited (IsFormOf (count_of s) (value_of var)) c.variable_form.result (c.in_ok-member.ensures visited).0
    (subst (λ (k : ℕ). GoesThrough (value_tried s (value_of (c.args.first + k))) visited visited (IsFormOf (count_of s) (value_of (c.args.first + k))) c.variable_form.result) is.before
    (c.variable_form.ensures s (omega (arith, is.below, is.count, le)) visited)))

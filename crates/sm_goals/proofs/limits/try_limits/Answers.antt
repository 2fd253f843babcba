use Rattle.std.proofs.Common.{sym, map, length}
use Rattle.std.specs.Prelude.{Err}
use Rattle.std.proofs.lemmas.Result.{err_from_is_err_and}
use Rattle.sm_kinds.specs.Limits.{greatest_number, most_goals}
use Rattle.sm_data.specs.declared.refusal.Counted.TheVariants as counted
use Rattle.sm_forms.specs.Meanings.{constant_of}
use Rattle.sm_meaning.specs.Trials.{◌▸◌, each_tried}
use Rattle.sm_meaning.specs.Limits.{coefficients_tried, numbers_tried, count_tried}
use Rattle.sm_drafts.proofs.Parts.{refused_first, passed_first, same_count}
use Rattle.sm_goals.proofs.Forms.{forms-length}
use Rattle.sm_goals.proofs.limits.try_limits.Goals as goal

pub returns-in_err-try_all_coefficients : goal.returns-in_err-try_all_coefficients
returns-in_err-try_all_coefficients c =
    let p = err_from_is_err_and c.from_residual.result c.from_residual.ensures.1 in
    rw (p.1, p.2) (λ n gs h.
    refused_first c.in_err-try_all_coefficients.field-0.0 (each_tried (coefficients_tried n) gs) (numbers_tried counted.Bound greatest_number (map constant_of gs) ▸ count_tried counted.Objectives most_goals (length gs))
    (c.in_err-try_all_coefficients.ensures n gs h))

pub returns-in_err-try_constants : goal.returns-in_err-try_constants
returns-in_err-try_constants c =
    let p = err_from_is_err_and c.from_residual-in_err-try_constants.result c.from_residual-in_err-try_constants.ensures.1 in
    let e = c.in_err-try_constants.field-0.0 in
    rw (p.1, p.2) (λ n gs h.
    let constants = numbers_tried counted.Bound greatest_number (map constant_of gs) in
    let few = count_tried counted.Objectives most_goals (length gs) in
    passed_first (each_tried (coefficients_tried n) gs) (constants ▸ few) (Err e) (c.in_ok-try_all_coefficients.ensures n gs h) (refused_first e constants few (c.in_err-try_constants.ensures n gs h)))

pub returns : goal.returns
returns c = λ n gs h.
    let constants = numbers_tried counted.Bound greatest_number (map constant_of gs) in
    let few = count_tried counted.Objectives most_goals (length gs) in
    let r = c.try_count.result in
    passed_first (each_tried (coefficients_tried n) gs) (constants ▸ few) r (c.in_ok-try_all_coefficients.ensures n gs h)
    (passed_first constants few r (c.in_ok-try_constants.ensures n gs h)
    (same_count counted.Objectives most_goals (length c.args.forms.now) (length gs) r (sym (forms-length n gs c.args.forms.now h)) c.try_count.ensures))

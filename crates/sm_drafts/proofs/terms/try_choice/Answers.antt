use Rattle.std.proofs.Common.{Err, length}
use Rattle.std.proofs.lemmas.Result.{err_from_is_err_and}
use Rattle.sm_kinds.specs.Limits.{most_terms}
use Rattle.sm_data.specs.declared.refusal.Counted.TheVariants as counted
use Rattle.sm_meaning.specs.Limits.{count_tried, tables_tried}
use Rattle.sm_drafts.proofs.Parts.{refused_first, same_count, choice_passes}
use Rattle.sm_drafts.proofs.terms.try_choice.Goals as goal

pub returns-in_err-try_count : goal.returns-in_err-try_count
returns-in_err-try_count c =
    let p = err_from_is_err_and c.from_residual.result c.from_residual.ensures.1 in
    let e = c.in_err-try_count.field-0.0 in
    let picks = c.args.choice.now.picks in
    rw (p.1, p.2) (refused_first e (count_tried counted.Terms most_terms (length picks)) (tables_tried picks)
    (same_count counted.Terms most_terms c.len.result (length picks) (Err e) c.len.ensures c.in_err-try_count.ensures))

pub returns : goal.returns
returns c = choice_passes c.args.choice.now c.len.result c.as_slice.result.now c.try_tables.result c.len.ensures c.as_slice.ensures c.in_ok-try_count.ensures c.try_tables.ensures

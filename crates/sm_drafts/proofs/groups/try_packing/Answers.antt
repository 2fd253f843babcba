use Rattle.std.proofs.Common.{Ok, Err, length}
use Rattle.std.proofs.lemmas.Result.{err_from_is_err_and}
use Rattle.sm_kinds.specs.Limits.{most_items, most_groups, most_capacity}
use Rattle.sm_data.specs.declared.refusal.Counted.TheVariants as counted
use Rattle.sm_meaning.specs.Trials.{◌▸◌, tried}
use Rattle.sm_meaning.specs.Refusals.{number_over}
use Rattle.sm_meaning.specs.Limits.{count_tried, numbers_tried}
use Rattle.sm_drafts.proofs.Parts.{refused_first, passed_first, same_count, passes_each}
use Rattle.sm_drafts.proofs.groups.try_packing.Goals as goal

pub returns-in_err-try_count : goal.returns-in_err-try_count
returns-in_err-try_count c =
    let p = err_from_is_err_and c.from_residual.result c.from_residual.ensures.1 in
    let e = c.in_err-try_count.field-0.0 in
    let k = c.args.packing.now in
    rw (p.1, p.2) (refused_first e (count_tried counted.Items most_items (length k.items)) (count_tried counted.Groups most_groups (length k.capacities) ▸ numbers_tried counted.Capacity most_capacity k.capacities)
    (same_count counted.Items most_items c.len.result (length k.items) (Err e) c.len.ensures c.in_err-try_count.ensures))

pub returns-in_err-try_count-2 : goal.returns-in_err-try_count-2
returns-in_err-try_count-2 c =
    let p = err_from_is_err_and c.from_residual-in_err-try_count-2.result c.from_residual-in_err-try_count-2.ensures.1 in
    let e = c.in_err-try_count-2.field-0.0 in
    let k = c.args.packing.now in
    let groups = count_tried counted.Groups most_groups (length k.capacities) in
    let capacities = numbers_tried counted.Capacity most_capacity k.capacities in
    rw (p.1, p.2) (passed_first (count_tried counted.Items most_items (length k.items)) (groups ▸ capacities) (Err e)
    (same_count counted.Items most_items c.len.result (length k.items) (Ok tt) c.len.ensures c.in_ok-try_count.ensures)
    (refused_first e groups capacities (same_count counted.Groups most_groups c.len-2.result (length k.capacities) (Err e) c.len-2.ensures c.in_err-try_count-2.ensures)))

pub returns : goal.returns
returns c =
    let k = c.args.packing.now in
    let groups = count_tried counted.Groups most_groups (length k.capacities) in
    let capacities = numbers_tried counted.Capacity most_capacity k.capacities in
    passed_first (count_tried counted.Items most_items (length k.items)) (groups ▸ capacities) c.try_numbers.result
    (same_count counted.Items most_items c.len.result (length k.items) (Ok tt) c.len.ensures c.in_ok-try_count.ensures)
    (passed_first groups capacities c.try_numbers.result (same_count counted.Groups most_groups c.len-2.result (length k.capacities) (Ok tt) c.len-2.ensures c.in_ok-try_count-2.ensures)
    (passes_each (λ z. tried (number_over counted.Capacity most_capacity z)) c.as_slice-capacities.result.now k.capacities c.try_numbers.result c.as_slice-capacities.ensures c.try_numbers.ensures))

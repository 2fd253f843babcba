use Rattle.std.proofs.Common.{Ok, Err, map}
use Rattle.std.specs.List.{flat_map}
use Rattle.std.proofs.lemmas.Result.{err_from_is_err_and}
use Rattle.sm_kinds.specs.declared.packing.Item.{Item}
use Rattle.sm_meaning.specs.Limits.{task_bounds}
use Rattle.sm_drafts.specs.Drafts.{bound_tried, bounds_tried}
use Rattle.sm_drafts.proofs.Parts.{refused_first, passed_first, passes_each, passes-append, passes-flat_map, passes-map}
use Rattle.sm_drafts.proofs.bounds.try_kind_bounds.Goals as goal

pub returns-in_err-try_numbers-in-Packing : goal.returns-in_err-try_numbers-in-Packing
returns-in_err-try_numbers-in-Packing c =
    let p = err_from_is_err_and c.from_residual-in_err-try_numbers-in-Packing.result c.from_residual-in_err-try_numbers-in-Packing.ensures.1 in
    let e = c.in_err-try_numbers-in-Packing.field-0.0 in
    let sizes = map (λ (i : Item). i.size) c.in-Packing.packing.items in
    rw (p.1, p.2, c.in-Packing.is) (passes-append bound_tried c.in-Packing.packing.capacities sizes (Err e)
    (refused_first e (bounds_tried c.in-Packing.packing.capacities) (bounds_tried sizes)
    (passes_each bound_tried c.as_slice-in-Packing.result.now c.in-Packing.packing.capacities (Err e) c.as_slice-in-Packing.ensures c.in_err-try_numbers-in-Packing.ensures)))

pub returns-in_ok-try_bound-in-Cumulative : goal.returns-in_ok-try_bound-in-Cumulative
returns-in_ok-try_bound-in-Cumulative c =
    rw c.in-Cumulative.is (passed_first (bound_tried c.in-Cumulative.capacity) (bounds_tried (flat_map task_bounds c.in-Cumulative.tasks)) c.try_tasks.result c.in_ok-try_bound-in-Cumulative.ensures.tried
    (passes-flat_map bound_tried task_bounds c.as_slice.result.now c.in-Cumulative.tasks c.try_tasks.result c.as_slice.ensures c.try_tasks.ensures))

pub returns-in-Disjunctive : goal.returns-in-Disjunctive
returns-in-Disjunctive c =
    rw c.in-Disjunctive.is (passes-flat_map bound_tried task_bounds c.as_slice-in-Disjunctive.result.now c.in-Disjunctive.tasks c.try_tasks-in-Disjunctive.result c.as_slice-in-Disjunctive.ensures c.try_tasks-in-Disjunctive.ensures)

pub returns-in_ok-try_numbers-in-Packing : goal.returns-in_ok-try_numbers-in-Packing
returns-in_ok-try_numbers-in-Packing c =
    let sizes = map (λ (i : Item). i.size) c.in-Packing.packing.items in
    rw c.in-Packing.is (passes-append bound_tried c.in-Packing.packing.capacities sizes c.try_sizes.result
    (passed_first (bounds_tried c.in-Packing.packing.capacities) (bounds_tried sizes) c.try_sizes.result
    (passes_each bound_tried c.as_slice-in-Packing.result.now c.in-Packing.packing.capacities (Ok tt) c.as_slice-in-Packing.ensures c.in_ok-try_numbers-in-Packing.ensures)
    (passes-map bound_tried (λ (i : Item). i.size) c.as_slice-in-Packing-2.result.now c.in-Packing.packing.items c.try_sizes.result c.as_slice-in-Packing-2.ensures c.try_sizes.ensures)))

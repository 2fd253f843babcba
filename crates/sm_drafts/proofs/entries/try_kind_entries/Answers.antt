use Rattle.std.proofs.Common.{Ok, Err, ℕ, ℤ, List}
use Rattle.std.specs.List.{flat_map}
use Rattle.std.proofs.lemmas.Result.{err_from_is_err_and}
use Rattle.sm_kinds.specs.declared.packing.Item.{Item}
use Rattle.sm_meaning.specs.Limits.{entry_numbers}
use Rattle.sm_drafts.specs.Drafts.{entry_tried, entries_tried}
use Rattle.sm_drafts.proofs.Parts.{refused_first, passed_first, passes_each, passes-append, passes-flat_map}
use Rattle.sm_drafts.proofs.entries.try_kind_entries.Goals as goal

abbrev members : ℕ × List ℤ → List ℤ
members p = p.1

abbrev costs : Item → List ℤ
costs i = i.costs

pub returns-in_err-try_members-in-Packing : goal.returns-in_err-try_members-in-Packing
returns-in_err-try_members-in-Packing c =
    let p = err_from_is_err_and c.from_residual.result c.from_residual.ensures.1 in
    let e = c.in_err-try_members-in-Packing.field-0.0 in
    let rest = flat_map costs c.in-Packing.packing.items in
    rw (p.1, p.2, c.in-Packing.is) (passes-append entry_tried c.in-Packing.packing.opening rest (Err e)
    (refused_first e (entries_tried c.in-Packing.packing.opening) (entries_tried rest)
    (passes_each entry_tried c.as_slice-in-Packing.result.now c.in-Packing.packing.opening (Err e) c.as_slice-in-Packing.ensures c.in_err-try_members-in-Packing.ensures)))

pub returns-in-Element : goal.returns-in-Element
returns-in-Element c = rw c.in-Element.is (passes-flat_map entry_tried entry_numbers c.as_slice.result.now c.in-Element.entries c.try_entries.result c.as_slice.ensures c.try_entries.ensures)

pub returns-in-IndexSum : goal.returns-in-IndexSum
returns-in-IndexSum c =
    rw c.in-IndexSum.is (passes-flat_map entry_tried members c.as_slice-in-IndexSum.result.now c.in-IndexSum.choice.picks c.try_tables.result c.as_slice-in-IndexSum.ensures c.try_tables.ensures)

pub returns-in-Assign : goal.returns-in-Assign
returns-in-Assign c =
    rw c.in-Assign.is (passes-flat_map entry_tried members c.as_slice-in-Assign.result.now c.in-Assign.choice.picks c.try_tables-in-Assign.result c.as_slice-in-Assign.ensures c.try_tables-in-Assign.ensures)

pub returns-in_ok-try_members-in-Packing : goal.returns-in_ok-try_members-in-Packing
returns-in_ok-try_members-in-Packing c =
    let rest = flat_map costs c.in-Packing.packing.items in
    rw c.in-Packing.is (passes-append entry_tried c.in-Packing.packing.opening rest c.try_costs.result
    (passed_first (entries_tried c.in-Packing.packing.opening) (entries_tried rest) c.try_costs.result
    (passes_each entry_tried c.as_slice-in-Packing.result.now c.in-Packing.packing.opening (Ok tt) c.as_slice-in-Packing.ensures c.in_ok-try_members-in-Packing.ensures)
    (passes-flat_map entry_tried costs c.as_slice-in-Packing-2.result.now c.in-Packing.packing.items c.try_costs.result c.as_slice-in-Packing-2.ensures c.try_costs.ensures)))

use Rattle.std.proofs.Common.{length}
use Rattle.sm_kinds.specs.Limits.{most_members, most_terms}
use Rattle.sm_data.specs.declared.refusal.Counted.TheVariants as counted
use Rattle.sm_drafts.proofs.Parts.{same_count}
use Rattle.sm_drafts.proofs.terms.try_kind_terms.Goals as goal

pub returns-in-Alldiff : goal.returns-in-Alldiff
returns-in-Alldiff c = rw c.in-Alldiff.is (same_count counted.Terms most_terms c.len.result (length c.in-Alldiff.positions) c.try_count.result c.len.ensures c.try_count.ensures)

pub returns-in-Circuit : goal.returns-in-Circuit
returns-in-Circuit c = rw c.in-Circuit.is (same_count counted.Terms most_terms c.len-in-Circuit.result (length c.in-Circuit.successors) c.try_count-in-Circuit.result c.len-in-Circuit.ensures c.try_count-in-Circuit.ensures)

pub returns-in-Element : goal.returns-in-Element
returns-in-Element c = rw c.in-Element.is (same_count counted.Terms most_members c.len-in-Element.result (length c.in-Element.entries) c.try_count-in-Element.result c.len-in-Element.ensures c.try_count-in-Element.ensures)

pub returns-in-IndexSum : goal.returns-in-IndexSum
returns-in-IndexSum c = rw c.in-IndexSum.is c.try_choice.ensures

pub returns-in-Assign : goal.returns-in-Assign
returns-in-Assign c = rw c.in-Assign.is c.try_choice-in-Assign.ensures

use Rattle.std.proofs.Common.{w64}
use Rattle.std.proofs.lemmas.Int.{to_z-of_z}
use Rattle.sm_forms.proofs.Merges.{large_in_place, large_anew, total_anew}
use Rattle.sm_forms.proofs.merge.merged.Goals as goal

pub returns-then-follows-clause-large : goal.returns-then-follows-clause-large
returns-then-follows-clause-large c =
    let b = to_z-of_z w64 c.args.by c.ranges.by in
    large_in_place c.merge_onto.result c.args.left c.args.by c.args.right.now (rw c.as_slice.ensures at c.if-follows.ensures) (rw b at c.merge_onto.ensures.large)

pub returns-else-follows-clause-total : goal.returns-else-follows-clause-total
returns-else-follows-clause-total c =
    let b = to_z-of_z w64 c.args.by c.ranges.by in
    total_anew c.merge_onto-else-follows.result c.args.left c.args.by c.args.right.now (rw (b, c.new.ensures, c.as_slice-else-follows.ensures) at c.merge_onto-else-follows.ensures.total)

pub returns-else-follows-clause-large : goal.returns-else-follows-clause-large
returns-else-follows-clause-large c =
    let b = to_z-of_z w64 c.args.by c.ranges.by in
    large_anew c.merge_onto-else-follows.result c.args.left c.args.by c.args.right.now (rw (b, c.new.ensures, c.as_slice-else-follows.ensures) at c.merge_onto-else-follows.ensures.large)

use Rattle.std.proofs.Common.{◌∙◌}
use Rattle.std.specs.Int.{w128}
use Rattle.std.proofs.Common.{w64}
use Rattle.std.proofs.lemmas.Int.{to_z-of_z}
use Rattle.sm_forms.proofs.Integers.{wide, product_fits, sum_fits}
use Rattle.sm_forms.proofs.numbers.sum_of.Goals as goal

pub overflow_add-result : goal.overflow_add-result
overflow_add-result c =
    let x = c.from.ensures ∙ to_z-of_z w64 c.args.left c.ranges.left in
    let y = c.from-2.ensures ∙ to_z-of_z w64 c.args.by c.ranges.by in
    let z = c.from-3.ensures ∙ to_z-of_z w64 c.args.right c.ranges.right in
    rw (x, y, z, to_z-of_z w128 c.args.left (wide c.args.left c.ranges.left), to_z-of_z w128 c.args.by (wide c.args.by c.ranges.by), to_z-of_z w128 c.args.right (wide c.args.right c.ranges.right), to_z-of_z w128 _ (product_fits c.args.by c.args.right c.ranges.by c.ranges.right))
    (sum_fits c.args.left c.args.by c.args.right c.ranges.left c.ranges.by c.ranges.right)

pub returns : goal.returns
returns c =
    let x = c.from.ensures ∙ to_z-of_z w64 c.args.left c.ranges.left in
    let y = c.from-2.ensures ∙ to_z-of_z w64 c.args.by c.ranges.by in
    let z = c.from-3.ensures ∙ to_z-of_z w64 c.args.right c.ranges.right in
    rw (x, y, z, to_z-of_z w128 c.args.left (wide c.args.left c.ranges.left), to_z-of_z w128 c.args.by (wide c.args.by c.ranges.by), to_z-of_z w128 c.args.right (wide c.args.right c.ranges.right), to_z-of_z w128 _ (product_fits c.args.by c.args.right c.ranges.by c.ranges.right))
    (to_z-of_z w128 _ (sum_fits c.args.left c.args.by c.args.right c.ranges.left c.ranges.by c.ranges.right))

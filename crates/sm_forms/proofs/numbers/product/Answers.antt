use Rattle.std.proofs.Common.{◌∙◌, w64}
use Rattle.std.specs.Int.{w128}
use Rattle.std.proofs.lemmas.Int.{to_z-of_z}
use Rattle.sm_forms.proofs.Integers.{wide, product_fits}
use Rattle.sm_forms.proofs.numbers.product.Goals as goal

pub returns : goal.returns
returns c =
    let y = c.from.ensures ∙ to_z-of_z w64 c.args.by c.ranges.by in
    let z = c.from-2.ensures ∙ to_z-of_z w64 c.args.right c.ranges.right in
    rw (y, z, to_z-of_z w128 c.args.by (wide c.args.by c.ranges.by), to_z-of_z w128 c.args.right (wide c.args.right c.ranges.right))
    (to_z-of_z w128 _ (product_fits c.args.by c.args.right c.ranges.by c.ranges.right))

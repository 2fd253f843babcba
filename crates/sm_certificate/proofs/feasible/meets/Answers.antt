use Rattle.std.proofs.Common.{refl, arith, SFits}
use Rattle.std.proofs.lemmas.Int.{ints, to_z-of_z}
use mir.Syntax.{w128}
use Rattle.sm_certificate.proofs.PointLemmas.{meets_same, meets_less, meets_tested}
use Rattle.sm_certificate.proofs.feasible.meets.Goals as goal

pub returns-in-Less : goal.returns-in-Less
returns-in-Less c =
    let small = c.requires.bound in
    let f : SFits w128 c.args.row.now.bound = omega (arith, ints) in
    let lt = simp to_z-of_z at c.in-Less.ensures in
    (λ t. absurd (cc), λ m. absurd (meets_less c.args.row.now c.args.sum.now.0 c.args.sum.now.1 c.requires.denominator lt m))

pub returns-in-Equal : goal.returns-in-Equal
returns-in-Equal c =
    let small = c.requires.bound in
    let f : SFits w128 c.args.row.now.bound = omega (arith, ints) in
    let is = simp to_z-of_z at c.in-Equal.ensures in
    (λ t. meets_same c.args.row.now c.args.sum.now.0 c.args.sum.now.1 c.requires.denominator is, λ m. refl)

pub returns-in-Greater : goal.returns-in-Greater
returns-in-Greater c =
    let small = c.requires.bound in
    let f : SFits w128 c.args.row.now.bound = omega (arith, ints) in
    let gt = simp to_z-of_z at c.in-Greater.ensures in
    meets_tested c.args.row.now c.args.sum.now.0 c.args.sum.now.1 c.args.row.now.equal c.requires.denominator gt refl

use Rattle.std.proofs.Common.{arith, rules, ap, w64}
use Rattle.std.proofs.lemmas.Int.{ints, to_z-of_z}
use Rattle.std.specs.Prelude.{ℤ, ◌*ℤ◌, FitsSigned}
use Rattle.sm_kinds.specs.Choices.{member}
use Rattle.sm_kinds.proofs.Adding.{takes}
use Rattle.sm_kinds.proofs.choice.without_chosen.Goals as goal

pub returns-clause-value : goal.returns-clause-value
returns-clause-value g c =
    let fits : FitsSigned w64 (member c.args.table.now c.in_ok-j.j) = search rules in
    let same = ap (λ (x : ℤ). x *ℤ (g.V.Values.point c.args.a.now).denominator) (to_z-of_z w64 (member c.args.table.now c.in_ok-j.j) fits) in
    takes (g.V.Values.point c.args.a.now) (c.args.var, c.args.table.now) c.args.total _ c.in_ok-j.j c.in_ok-j.ensures.value.0 c.in_ok-j.ensures.value.1 c.in_ok-j.ensures.one (omega (arith, ints, same, c.scaled.ensures.value))

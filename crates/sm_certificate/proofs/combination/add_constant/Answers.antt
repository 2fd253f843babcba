use Rattle.std.proofs.Common.{rules, subst, sym, ℤ, SFits, w64}
use Rattle.std.specs.Prelude.{◌≡◌, Option, IfOk, IfErr}
use Rattle.std.proofs.lemmas.Int.{to_z-of_z}
use Rattle.sm_frac.specs.Frac.{value_of}
use Rattle.sm_certificate.specs.Fine.{AreFine}
use Rattle.sm_certificate.specs.Checking.{PassesAt, IsConstantStep, with_constant}
use Rattle.sm_certificate.proofs.CombinationLemmas.{constant_exact, constant_fine, constant_passed}
use Rattle.sm_certificate.proofs.combination.add_constant.Goals as goal

pub returns-in-Some-clause-exact : goal.returns-in-Some-clause-exact
returns-in-Some-clause-exact c =
    let f : SFits w64 c.in-Some.number = search rules in
    subst (λ (k : Option ℤ). IfOk c.plus.result (λ r. value_of r ≡ with_constant (value_of c.args.bound) k)) (sym c.in-Some.is) (constant_exact c.args.bound c.in-Some.number c.fraction_of.result c.plus.result (simp to_z-of_z at c.fraction_of.ensures) c.plus.ensures.exact)

pub returns-in-Some-clause-fine : goal.returns-in-Some-clause-fine
returns-in-Some-clause-fine c =
    let f : SFits w64 c.in-Some.number = search rules in
    subst (λ (k : Option ℤ). IfOk c.plus.result (λ r. AreFine (IsConstantStep (value_of c.args.bound) k))) (sym c.in-Some.is) (constant_fine c.args.bound c.in-Some.number c.fraction_of.result c.plus.result (simp to_z-of_z at c.fraction_of.ensures) c.plus.ensures.passed.1)

pub returns-in-Some-clause-passed : goal.returns-in-Some-clause-passed
returns-in-Some-clause-passed c =
    let f : SFits w64 c.in-Some.number = search rules in
    subst (λ (k : Option ℤ). IfErr c.plus.result (λ e. PassesAt (IsConstantStep (value_of c.args.bound) k) e.op e.left e.right)) (sym c.in-Some.is) (constant_passed c.args.bound c.in-Some.number c.fraction_of.result c.plus.result (simp to_z-of_z at c.fraction_of.ensures) c.plus.ensures.passed.0 c.plus.ensures.carried)

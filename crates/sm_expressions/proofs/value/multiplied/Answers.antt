use Rattle.std.proofs.Common.{rules, ◌∙◌, subst, to_z, of_z, FitsSigned}
use Rattle.std.specs.Int.{w64}
use Rattle.std.proofs.lemmas.Int.{to_z-of_z}
use Rattle.std.specs.Prelude.{◌*ℤ◌}
use Rattle.sm_forms.specs.Meanings.{Meaning}
use Rattle.sm_meaning.specs.Scopes.{count_of}
use Rattle.sm_expressions.specs.Values.{IsValue}
use Rattle.sm_expressions.proofs.Values.{times_left, times_right}
use Rattle.sm_expressions.proofs.value.multiplied.Goals as goal

pub returns-then-is_constant : goal.returns-then-is_constant
returns-then-is_constant c = λ s g h x y one.
    let fits : FitsSigned w64 c.constant-by.result = search rules in
    let by = to_z w64 (of_z w64 c.constant-by.result) in
    subst (λ (k : Meaning). IsValue s k c.made.result)
    (times_left g h c.args.left.constant by (c.is_constant.ensures.value (count_of s) g x c.if-is_constant.true) (to_z-of_z w64 c.constant-by.result fits ∙ c.constant-by.ensures.field))
    (c.made.ensures s (λ a. by *ℤ h a) (c.scaled.ensures.comes (count_of s) h y))

pub returns : goal.returns
returns c = λ s g h x y one.
    let fits : FitsSigned w64 c.constant-by-2.result = search rules in
    let by = to_z w64 (of_z w64 c.constant-by-2.result) in
    subst (λ (k : Meaning). IsValue s k c.made-2.result)
    (times_right (count_of s) g h c.args.right by c.is_constant.result y (c.is_constant.ensures.same (count_of s) g x) c.if-is_constant.false one (to_z-of_z w64 c.constant-by-2.result fits ∙ c.constant-by-2.ensures.value (count_of s) h y))
    (c.made-2.ensures s (λ a. by *ℤ g a) (c.scaled-2.ensures.comes (count_of s) g x))

use Rattle.std.proofs.Common.{rules, ◌∙◌, FitsSigned}
use Rattle.std.specs.Int.{w64}
use Rattle.std.proofs.lemmas.Int.{to_z-of_z}
use Rattle.sm_meaning.specs.Scopes.{count_of}
use Rattle.sm_expressions.proofs.Values.{whole_goes}
use Rattle.sm_expressions.proofs.value.whole.Goals as goal

pub returns-then-is_constant : goal.returns-then-is_constant
returns-then-is_constant c = λ s g h count.
    let fits : FitsSigned w64 c.constant.result = search rules in (
      whole_goes s c.args.place g c.is_constant.result count (c.is_constant.ensures.same (count_of s) g h) c.if-is_constant.true,
      to_z-of_z w64 c.constant.result fits ∙ c.constant.ensures.value (count_of s) g h,
    )

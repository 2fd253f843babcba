use Rattle.std.proofs.Common.{sym, subst}
use Rattle.std.specs.Prelude.{◌+ℤ◌, ◌-ℤ◌}
use Rattle.sm_syntax.specs.declared.tree.Sign.{Sign}
use Rattle.sm_meaning.specs.Scopes.{count_of}
use Rattle.sm_meaning.specs.Worths.{with_addend}
use Rattle.sm_expressions.specs.Values.{IsValue}
use Rattle.sm_expressions.proofs.value.added.Goals as goal

pub returns-in-Plus : goal.returns-in-Plus
returns-in-Plus c = λ s g h x y.
    subst (λ (sign : Sign). IsValue s (with_addend g sign h) c.made.result) (sym c.in-Plus.is)
    (c.made.ensures s (λ a. g a +ℤ h a) (c.plus.ensures (count_of s) g h x y))

pub returns-in-Minus : goal.returns-in-Minus
returns-in-Minus c = λ s g h x y.
    subst (λ (sign : Sign). IsValue s (with_addend g sign h) c.made-in-Minus.result) (sym c.in-Minus.is)
    (c.made-in-Minus.ensures s (λ a. g a -ℤ h a) (c.minus.ensures (count_of s) g h x y))

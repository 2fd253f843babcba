use Rattle.std.proofs.Common.{subst, negsuc}
use Rattle.std.specs.Prelude.{◌*ℤ◌}
use Rattle.sm_forms.specs.Meanings.{Meaning}
use Rattle.sm_meaning.specs.Scopes.{count_of}
use Rattle.sm_expressions.specs.Values.{IsValue}
use Rattle.sm_expressions.proofs.Values.{negated_is, form_goes}
use Rattle.sm_expressions.proofs.value.negated.Goals as goal

pub returns-then-is_negated : goal.returns-then-is_negated
returns-then-is_negated c = λ s g h.
    subst (λ (k : Meaning). IsValue s k c.made.result) (negated_is c.args.is_negated g c.if-is_negated.true)
    (c.made.ensures s (λ a. negsuc 0 *ℤ g a) (c.scaled.ensures.comes (count_of s) g h))

pub returns-else-is_negated : goal.returns-else-is_negated
returns-else-is_negated c = λ s g h count.
    rw c.if-is_negated.false (form_goes s g c.args.form h count, h)

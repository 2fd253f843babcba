use Rattle.std.proofs.Common.{◌≡◌, ◌∙◌, refl, ap, codes, Bool, Option, Some, None, Bor}
use Rattle.std.specs.Option.{option_eq, option_map}
use Rattle.std.specs.Str.{bytes_eq}
use Rattle.sm_arguments.specs.App.{is_true}
use Rattle.sm_arguments.specs.Request.{Word}
use Rattle.sm_arguments.proofs.command.is_given.Goals as goal

compared : (E : Bor Word → Bor Word → Bool) (o : Option (Bor Word)) (t : Bor Word) → ((w : Bor Word) → E w t ≡ bytes_eq w.now (codes "true"))
    → option_eq E o (Some t) ≡ is_true (option_map (λ w. w.now) o)
compared E None t texts = refl
compared E (Some w) t texts = texts w

pub returns : goal.returns
returns c = c.eq.ensures ∙ compared _ c.first.result _ (λ w. refl) ∙ ap is_true c.first.ensures

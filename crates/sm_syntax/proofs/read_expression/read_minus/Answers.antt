use Rattle.std.proofs.Common.{◌≡◌, sym, refl, ◌∷◌, []}
use Rattle.sm_syntax.specs.Grammar as g
use Rattle.sm_syntax.specs.Reading.{Standing}
use Rattle.sm_syntax.proofs.Readings.{after, opened_group, kept}
use Rattle.sm_syntax.proofs.Predictions as predict
use Rattle.sm_syntax.specs.TreeSteps.{minus_then}
use Rattle.std.proofs.Common.{Bool, true, false}
use Rattle.sm_syntax.specs.Reading.{Leads, unlisted, is_next}
use Rattle.sm_syntax.specs.declared.terminal.Terminal.TheVariants as terminal
use Rattle.sm_syntax.proofs.read_expression.read_minus.Goals as goal

minus_reads : (s t : Standing) (b : Bool) → b ≡ is_next terminal.Minus s → (b ≡ true → Leads s (g.token_minus ∷ []) (unlisted terminal.Minus) t []) → (b ≡ false → t ≡ s) → Leads s (g.minus ∷ []) (minus_then b) t []
minus_reads s t true is lead same = after (opened_group s 35 (g.token_minus ∷ []) refl (predict.minus_some s (sym is))) (lead refl)
minus_reads s t false is lead same = kept (same refl) (opened_group s 35 [] refl (predict.minus_none s (sym is)))

pub returns : goal.returns
returns c = minus_reads c.args.reader.now c.accept.new.self c.accept.result c.accept.ensures.next c.accept.ensures.lead c.accept.ensures.kept

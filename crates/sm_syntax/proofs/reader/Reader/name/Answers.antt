use Rattle.std.proofs.Common.{◌∙◌, sym, refl}
use Rattle.sm_syntax.specs.declared.terminal.Terminal.TheVariants as terminal
use Rattle.sm_syntax.proofs.Readings.{stop_other}
use Rattle.sm_syntax.proofs.NextTokens.{not_end, name_leads, shorter}
use Rattle.sm_syntax.proofs.reader.Reader.name.Goals as goal

pub returns-then-not-is-clause-read : goal.returns-then-not-is-clause-read
returns-then-not-is-clause-read c = stop_other c.args.self.now 0 (sym c.is.ensures ∙ c.if-not-is.true)

pub pass-requires : goal.pass-requires
pass-requires c = not_end terminal.Name c.args.self.now (sym c.is.ensures ∙ c.if-not-is.false) refl

pub returns-clause-read : goal.returns-clause-read
returns-clause-read c = name_leads _ c.args.self.now c.pass.new.self (sym c.is.ensures ∙ c.if-not-is.false) c.place-place.ensures (c.in_ok-text.ensures ∙ c.word.ensures)
    (c.pass.ensures.depth ∙ c.depth-depth.ensures) c.pass.ensures.later

pub returns-clause-shorter : goal.returns-clause-shorter
returns-clause-shorter c = shorter c.args.self.now c.pass.new.self c.pass.ensures.later

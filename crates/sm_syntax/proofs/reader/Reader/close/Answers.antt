use Rattle.std.proofs.Common.{◌∙◌, ◌-◌, ap, sym, ℕ}
use Rattle.sm_syntax.specs.Terminals.{code_of}
use Rattle.sm_syntax.proofs.Readings.{stop_other}
use Rattle.sm_syntax.proofs.NextTokens.{closing_not_end, close_leads, shorter}
use Rattle.sm_syntax.proofs.reader.Reader.close.Goals as goal

pub returns-then-not-is-clause-read : goal.returns-then-not-is-clause-read
returns-then-not-is-clause-read c = stop_other c.args.self.now (code_of c.args.bracket) (sym c.is.ensures ∙ c.if-not-is.true)

pub pass-requires : goal.pass-requires
pass-requires c = closing_not_end c.args.bracket c.args.self.now c.requires (sym c.is.ensures ∙ c.if-not-is.false)

pub returns-clause-read : goal.returns-clause-read
returns-clause-read c = close_leads (tt {0}) c.args.bracket c.args.self.now c.pass.new.self c.requires (sym c.is.ensures ∙ c.if-not-is.false)
    (c.pass.ensures.depth ∙ c.saturating_sub.ensures ∙ ap (λ (n : ℕ). n - 1) c.depth-depth.ensures) c.pass.ensures.later

pub returns-clause-shorter : goal.returns-clause-shorter
returns-clause-shorter c = shorter c.args.self.now c.pass.new.self c.pass.ensures.later

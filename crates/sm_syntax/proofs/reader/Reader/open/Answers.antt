use Rattle.std.proofs.Common.{◌∙◌, ◌+◌, ◌<◌, ap, sym, subst, ℕ, ◌≤◌}
use Rattle.sm_syntax.specs.Terminals.{code_of}
use Rattle.sm_syntax.proofs.Readings.{stop_other}
use Rattle.sm_syntax.proofs.NextTokens.{opening_not_end, open_leads, open_stops, shorter}
use Rattle.sm_syntax.proofs.reader.Reader.open.Goals as goal

pub returns-then-not-is-clause-read : goal.returns-then-not-is-clause-read
returns-then-not-is-clause-read c = stop_other c.args.self.now (code_of c.args.bracket) (sym c.is.ensures ∙ c.if-not-is.true)

pub returns-then-depth-ge64-clause-read : goal.returns-then-depth-ge64-clause-read
returns-then-depth-ge64-clause-read c = open_stops c.args.bracket c.args.self.now c.requires (sym c.is.ensures ∙ c.if-not-is.false)
    (subst (λ (n : ℕ). 64 ≤ n) c.depth-depth.ensures c.if-depth-ge64.true)

pub pass-requires : goal.pass-requires
pass-requires c = opening_not_end c.args.bracket c.args.self.now c.requires (sym c.is.ensures ∙ c.if-not-is.false)

pub returns-clause-read : goal.returns-clause-read
returns-clause-read c = open_leads (tt {0}) c.args.bracket c.args.self.now c.pass.new.self c.requires (sym c.is.ensures ∙ c.if-not-is.false)
    (subst (λ (n : ℕ). n < 64) c.depth-depth.ensures c.if-depth-ge64.false) (c.pass.ensures.depth ∙ ap (λ (n : ℕ). n + 1) c.depth-depth.ensures) c.pass.ensures.later

pub returns-clause-shorter : goal.returns-clause-shorter
returns-clause-shorter c = shorter c.args.self.now c.pass.new.self c.pass.ensures.later

use Rattle.std.proofs.Common.{◌∙◌}
use Rattle.sm_syntax.proofs.NextTokens.{plain_not_end, take_leads, shorter}
use Rattle.sm_syntax.proofs.reader.Reader.take.Goals as goal

pub pass-requires : goal.pass-requires
pass-requires c = plain_not_end c.args.terminal c.args.self.now c.requires.plain c.requires.next

pub returns-clause-lead : goal.returns-clause-lead
returns-clause-lead c = take_leads c.args.terminal c.args.terminal c.args.self.now c.pass.new.self c.requires.plain c.requires.next (c.pass.ensures.depth ∙ c.depth-depth.ensures) c.pass.ensures.later

pub returns-clause-shorter : goal.returns-clause-shorter
returns-clause-shorter c = shorter c.args.self.now c.pass.new.self c.pass.ensures.later

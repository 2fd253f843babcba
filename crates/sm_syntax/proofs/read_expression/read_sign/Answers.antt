use Rattle.std.proofs.Common.{◌∙◌, sym}
use Rattle.sm_syntax.proofs.Choices.{sign_reads, sign_stops, sign_word, next_word, plain_word}
use Rattle.sm_syntax.proofs.read_expression.read_sign.Goals as goal

pub returns-clause-shorter : goal.returns-clause-shorter
returns-clause-shorter c = c.take.ensures.shorter

pub returns-in_default-clause-read : goal.returns-in_default-clause-read
returns-in_default-clause-read c = sign_stops c.args.reader.now c.terminal-terminal.result c.terminal-terminal.ensures (sym c.sign_of.ensures ∙ c.in_default.is)

pub take-requires-clause-plain : goal.take-requires-clause-plain
take-requires-clause-plain c = plain_word (sign_word c.terminal-terminal.result c.in-Some.sign (sym c.sign_of.ensures ∙ c.in-Some.is))

pub take-requires-clause-next : goal.take-requires-clause-next
take-requires-clause-next c = next_word c.args.reader.now c.terminal-terminal.result c.terminal-terminal.ensures

pub returns-clause-read : goal.returns-clause-read
returns-clause-read c = sign_reads c.args.reader.now c.take.new.self c.terminal-terminal.result c.in-Some.sign c.terminal-terminal.ensures (sym c.sign_of.ensures ∙ c.in-Some.is) c.take.ensures.lead

use Rattle.std.proofs.Common.{◌∙◌, sym}
use Rattle.sm_syntax.proofs.Choices.{picking_reads, picking_stops, picking_word, next_word, plain_word}
use Rattle.sm_syntax.proofs.read_tag.PickingPart.read.Goals as goal

pub returns-in_default : goal.returns-in_default
returns-in_default c = picking_stops c.args.reader.now c.terminal-terminal.result c.terminal-terminal.ensures (sym c.picking_of.ensures ∙ c.in_default.is)

pub take-requires-clause-plain : goal.take-requires-clause-plain
take-requires-clause-plain c = plain_word (picking_word c.terminal-terminal.result c.in-Some.picking (sym c.picking_of.ensures ∙ c.in-Some.is))

pub take-requires-clause-next : goal.take-requires-clause-next
take-requires-clause-next c = next_word c.args.reader.now c.terminal-terminal.result c.terminal-terminal.ensures

pub returns : goal.returns
returns c = picking_reads c.args.reader.now c.take.new.self c.terminal-terminal.result c.in-Some.picking c.terminal-terminal.ensures (sym c.picking_of.ensures ∙ c.in-Some.is) c.take.ensures.lead

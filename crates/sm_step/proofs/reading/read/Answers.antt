use Rattle.sm_step.proofs.Lines.{too_long, line_found, line_bad}
use Rattle.sm_step.proofs.reading.read.Goals as goal

pub returns-then-is_too_long-clause-bad : goal.returns-then-is_too_long-clause-bad
returns-then-is_too_long-clause-bad c = λ e l is text. let long = c.is_too_long.ensures.yes c.if-is_too_long.true in too_long l c.args.bytes.now is text long.0 long.1

pub returns-clause-found : goal.returns-clause-found
returns-clause-found c =
    let read = rw c.new-cursor.ensures at c.read_line-line.ensures in
    line_found c.args.bytes.now c.read_line-line.result c.read_line-line.new.cursor c.refusal_of-refusal.result c.unless.result read
    c.refusal_of-refusal.ensures.none c.unless.ensures.none c.unless.ensures.some (c.is_too_long.ensures.no c.if-is_too_long.false)

pub returns-clause-bad : goal.returns-clause-bad
returns-clause-bad c = λ e l is text.
    let read = rw c.new-cursor.ensures at c.read_line-line.ensures in
    line_bad c.args.bytes.now c.read_line-line.result l c.read_line-line.new.cursor c.refusal_of-refusal.result c.unless.result read
    c.refusal_of-refusal.ensures.bad c.refusal_of-refusal.ensures.fault c.unless.ensures.none c.unless.ensures.some e is text

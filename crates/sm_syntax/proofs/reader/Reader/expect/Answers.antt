use Rattle.std.proofs.Common.{◌∙◌, sym}
use Rattle.sm_syntax.specs.Terminals.{code_of}
use Rattle.sm_syntax.proofs.Readings.{stop_other}
use Rattle.sm_syntax.proofs.reader.Reader.expect.Goals as goal

pub returns-then-not-is-clause-read : goal.returns-then-not-is-clause-read
returns-then-not-is-clause-read c = stop_other c.args.self.now (code_of c.args.terminal) (sym c.is.ensures ∙ c.if-not-is.true)

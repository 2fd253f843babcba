use Rattle.sm_syntax.specs.Words.{binder_words}
use Rattle.sm_syntax.proofs.WordTables.{found_first}
use Rattle.sm_syntax.proofs.words.binder_word.Goals as goal

pub returns : goal.returns
returns c = rw (c.or-4.ensures, c.terminal_if-5.ensures, c.or-3.ensures, c.terminal_if-4.ensures, c.or-2.ensures, c.terminal_if-3.ensures, c.or.ensures, c.terminal_if-2.ensures, c.terminal_if.ensures) (found_first binder_words c.args.word.now)

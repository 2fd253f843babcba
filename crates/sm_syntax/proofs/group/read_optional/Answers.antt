use Rattle.std.proofs.Common.{◌∙◌, sym, ◌∷◌, []}
use Rattle.std.proofs.lemmas.Result.{err_from_is_err_and}
use Rattle.sm_syntax.specs.Grammars.{leaf}
use Rattle.sm_syntax.specs.Terminals.{code_of}
use Rattle.sm_syntax.proofs.Readings.{after, behind, fault_after, opened_group, kept}
use Rattle.sm_syntax.proofs.group.read_optional.Goals as goal

pub returns-then-not-accept_word : goal.returns-then-not-accept_word
returns-then-not-accept_word g c = kept (c.accept_word.ensures.kept c.if-not-accept_word.true) (opened_group c.args.reader.now g.T.Grouped.group [] c.requires.group (c.requires.none c.args.reader.now (sym c.accept_word.ensures.next ∙ c.if-not-accept_word.true)))

pub returns-in_err-part : goal.returns-in_err-part
returns-in_err-part g c =
    let l0 = after (opened_group c.args.reader.now g.T.Grouped.group (leaf (code_of g.W.Word.terminal) ∷ g.T.Part.symbols) c.requires.group (c.requires.some c.args.reader.now (sym c.accept_word.ensures.next ∙ c.if-not-accept_word.false))) (behind g.T.Part.symbols (c.accept_word.ensures.lead c.if-not-accept_word.false)) in
    let p = err_from_is_err_and c.from_residual.result c.from_residual.ensures.1 in
    rw (p.1, p.2) (fault_after c.read.new.reader c.in_err-part.field-0.0 l0 c.in_err-part.ensures)

pub returns : goal.returns
returns g c =
    let l0 = after (opened_group c.args.reader.now g.T.Grouped.group (leaf (code_of g.W.Word.terminal) ∷ g.T.Part.symbols) c.requires.group (c.requires.some c.args.reader.now (sym c.accept_word.ensures.next ∙ c.if-not-accept_word.false))) (behind g.T.Part.symbols (c.accept_word.ensures.lead c.if-not-accept_word.false)) in
    after l0 c.in_ok-part.ensures

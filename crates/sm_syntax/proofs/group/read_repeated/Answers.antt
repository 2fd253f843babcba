use Rattle.std.proofs.Common.{◌∙◌, sym, ◌∷◌, ◌++◌, [], arith}
use Rattle.std.proofs.lemmas.Result.{err_from_is_err_and}
use Rattle.sm_syntax.specs.Grammars.{leaf, node}
use Rattle.sm_syntax.specs.Terminals.{code_of}
use Rattle.sm_syntax.specs.TreeSteps.{item_step}
use Rattle.sm_syntax.proofs.Readings.{after, behind, fault_at, opened_group, begin, one_more, kept}
use Rattle.sm_syntax.proofs.group.read_repeated.Goals as goal

pub items-init : goal.items-init
items-init g c = begin (item_step (node g.T.Grouped.group) (leaf (code_of g.W.Word.terminal) ∷ (g.T.Part.symbols ++ node g.T.Grouped.group ∷ [])) g.T.Part.steps) c.new-items.result c.new-items.ensures c.args.reader.now (node g.T.Grouped.group ∷ [])

pub returns-in_err-item : goal.returns-in_err-item
returns-in_err-item g c =
    let A = g.T.Grouped.group in
    let rest = g.T.Part.symbols ++ node A ∷ [] in
    let more = after (opened_group c.items.reader A (leaf (code_of g.W.Word.terminal) ∷ rest) c.requires.group (c.requires.more c.items.reader (sym c.accept_word.ensures.next ∙ c.items-test.true))) (behind rest (c.accept_word.ensures.lead c.items-test.true)) in
    let p = err_from_is_err_and c.from_residual.result c.from_residual.ensures.1 in
    rw (p.1, p.2) (fault_at c.read.new.reader c.in_err-item.field-0.0 g.T.Part.symbols (node A ∷ []) (after c.items.invariant more) c.in_err-item.ensures)

pub items-preserved : goal.items-preserved
items-preserved g c =
    let A = g.T.Grouped.group in
    let rest = g.T.Part.symbols ++ node A ∷ [] in
    let more = after (opened_group c.items.reader A (leaf (code_of g.W.Word.terminal) ∷ rest) c.requires.group (c.requires.more c.items.reader (sym c.accept_word.ensures.next ∙ c.items-test.true))) (behind rest (c.accept_word.ensures.lead c.items-test.true)) in
    one_more (item_step (node A) (leaf (code_of g.W.Word.terminal) ∷ rest) g.T.Part.steps) c.items.items c.push.new.self c.in_ok-item.item c.in_ok-push.ensures.ok c.items.invariant (after more (behind (node A ∷ []) c.in_ok-item.ensures))

pub items-smaller : goal.items-smaller
items-smaller g c = let s = c.accept_word.ensures.shorter c.items-test.true in let o = c.in_ok-item.ensures.order in omega arith

pub returns : goal.returns
returns g c =
    let ends = opened_group c.items.reader g.T.Grouped.group [] c.requires.group (c.requires.none c.items.reader (sym c.accept_word.ensures.next ∙ c.items-test.false)) in
    kept (c.accept_word.ensures.kept c.items-test.false) (after c.items.invariant ends)

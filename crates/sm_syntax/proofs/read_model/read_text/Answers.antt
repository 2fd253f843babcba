use Rattle.std.proofs.Common.{ap, sym, ◌∷◌, []}
use Rattle.std.proofs.lemmas.Result.{err_from_is_err_and}
use Rattle.sm_syntax.specs.Grammar as g
use Rattle.sm_syntax.specs.Grammar.{token_end}
use Rattle.sm_syntax.specs.Trees.{tree_of}
use Rattle.sm_syntax.specs.TreeSteps.{tree_then}
use Rattle.sm_syntax.proofs.Readings.{behind, restep, fault_behind, fault_after}
use Rattle.sm_syntax.proofs.read_model.read_text.Goals as goal

pub returns-in_err-tree : goal.returns-in_err-tree
returns-in_err-tree c =
    let p = err_from_is_err_and c.from_residual.result c.from_residual.ensures.1 in
    rw (p.1, p.2) (fault_behind c.args.reader.now c.read.new.reader (g.model ∷ []) (token_end ∷ []) c.in_err-tree.field-0.0 c.in_err-tree.ensures)

pub returns-in_err-parts : goal.returns-in_err-parts
returns-in_err-parts c =
    let p = err_from_is_err_and c.from_residual-in_err-parts.result c.from_residual-in_err-parts.ensures.1 in
    rw (p.1, p.2) (fault_after c.read.new.reader c.in_err-parts.field-0.0 (behind (token_end ∷ []) c.in_ok-tree.ensures) (rw c.in_err-parts.ensures.err at c.read_end-end.ensures.fault))

pub returns : goal.returns
returns c =
    let q = c.in_ok-parts.ensures.ok in
    let e = rw q.0 at c.read_end-end.ensures.end in
    (restep (tree_then (tree_of c.in_ok-parts.parts.0)) (λ r. ap (λ x. tree_then (tree_of x) r) (sym q.1)) (behind (token_end ∷ []) c.in_ok-tree.ensures), e.0, e.1)

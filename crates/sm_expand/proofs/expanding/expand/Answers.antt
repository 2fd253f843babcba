use Rattle.std.proofs.Common.{subst, sym}
use Rattle.std.specs.Prelude.{Ok, Err}
use Rattle.std.proofs.lemmas.Result.{err_from_is_err_and}
use Rattle.sm_syntax.specs.Trees.{tree_of}
use Rattle.sm_meaning.specs.declared.refusal.ExpandRefusal.{ExpandRefusal}
use Rattle.sm_expand.specs.Expanding.{ComesTo}
use Rattle.sm_expand.proofs.Whole.{made_flat, comes, stopped_comes}
use Rattle.sm_expand.proofs.expanding.expand.Goals as goal

pub returns-in_err-made : goal.returns-in_err-made
returns-in_err-made c =
    let p = err_from_is_err_and c.from_residual.result c.from_residual.ensures.1 in
    rw (p.1, p.2) (subst (λ (e : ExpandRefusal). ComesTo (tree_of c.args.tree.now) c.args.tables.now (Err e)) (sym c.in_err-made.ensures.memory) tt)

pub returns-in-Err : goal.returns-in-Err
returns-in-Err c = stopped_comes (tree_of c.args.tree.now) c.args.tables.now c.in-Err.refusal (c.in-Err.ensures c.args.tables.now c.in_ok-made.ensures.begins)

pub flat_of-requires : goal.flat_of-requires
flat_of-requires c =
    let gone = c.in-Ok.ensures c.args.tables.now c.in_ok-made.ensures.begins in
    made_flat (tree_of c.args.tree.now) c.args.tables.now c.go_through.new.made c.in-Ok.goals.items gone.0.0 gone.0.1 gone.1

pub returns-in-Ok : goal.returns-in-Ok
returns-in-Ok c =
    let gone = c.in-Ok.ensures c.args.tables.now c.in_ok-made.ensures.begins in
    rw c.flat_of.ensures (comes (tree_of c.args.tree.now) c.args.tables.now c.go_through.new.made c.in-Ok.goals.items gone.0.0 gone.0.1 gone.1)

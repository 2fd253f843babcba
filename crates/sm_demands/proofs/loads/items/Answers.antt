use Rattle.std.proofs.Common.{◌∙◌}
use Rattle.std.proofs.lemmas.Result.{err_from_is_err_and}
use Rattle.sm_syntax.specs.Trees.{load_of}
use Rattle.sm_meaning.specs.DemandTrials.{load_tried}
use Rattle.sm_demands.proofs.Nodes.{each_goes, each_stops}
use Rattle.sm_demands.proofs.Makes.{items_made}
use Rattle.sm_demands.proofs.loads.items.Goals as goal

pub returns-in_err-push_all : goal.returns-in_err-push_all
returns-in_err-push_all c =
    let p = err_from_is_err_and c.from_residual.result c.from_residual.ensures.1 in
    rw (p.1, p.2) (each_stops c.in_err-push_all.field-0.0 (load_tried c.args.scope.now c.args.cases.now.tuple c.args.groups) load_of c.args.loads.now c.args.visited.now c.in_err-push_all.ensures)

pub returns : goal.returns
returns c =
    let s = c.args.scope.now in
    let b = c.args.cases.now.tuple in (
      each_goes (load_tried s b c.args.groups) load_of c.args.loads.now c.args.visited.now c.push_all.new.visited c.in_ok-push_all.ensures.0,
      c.from_vec.ensures ∙ items_made s b c.args.loads.now c.new-made.result.items c.push_all.new.made.items c.new-made.ensures.items c.in_ok-push_all.ensures.1,
    )

use Rattle.sm_syntax.specs.Expressions.{expression_of}
use Rattle.sm_forms.specs.Forms.{IsFormOf}
use Rattle.sm_meaning.specs.Scopes.{count_of}
use Rattle.sm_meaning.specs.Trials.{◌▸◌}
use Rattle.sm_meaning.specs.Worths.{worth}
use Rattle.sm_meaning.specs.ExpressionTrials.{expression_tried, value_tried}
use Rattle.sm_meaning.specs.Demands.{margin}
use Rattle.sm_expressions.proofs.Trying.{then_goes}
use Rattle.sm_demands.proofs.rows.margin.Goals as goal

pub returns : goal.returns
returns c =
    let s = c.args.scope.now in
    let b = c.args.cases.now.tuple in
    let x = expression_of c.args.left.now in
    let y = expression_of c.args.right.now in
    let P = IsFormOf (count_of s) (margin s x y b) in
    let mid = c.expression.new.visited in
    let last = c.expression-2.new.visited in
    then_goes (expression_tried x s b) (expression_tried y s b ▸ value_tried s (margin s x y b)) c.args.visited.now mid last P c.added.result c.in_ok-left.ensures.0
    (then_goes (expression_tried y s b) (value_tried s (margin s x y b)) mid last last P c.added.result c.in_ok-right.ensures.0
    (c.added.ensures s (worth x s.names b) (worth y s.names b) c.in_ok-left.ensures.1 c.in_ok-right.ensures.1 last))

use Rattle.std.proofs.Common.{[]}
use Rattle.sm_syntax.specs.TreeSteps.{tree_then}
use Rattle.sm_syntax.proofs.OneToken.{grammar_ll1, start_open}
use Rattle.sm_syntax.proofs.OneTree.{one_tree}
use Rattle.sm_syntax.proofs.ParsingLaws.{same_steps}
use Rattle.sm_syntax.proofs.one_tree.Goals as goal

pub returns : goal.returns
returns c = λ text a b x y. (one_tree a b [] [] (same_steps grammar_ll1 x (tree_then b []) y start_open (tt, tt))).0

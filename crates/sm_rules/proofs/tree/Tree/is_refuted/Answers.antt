use Rattle.std.proofs.Common.{◌≡◌, List, length, ap, sym, ◌∙◌, arith}
use Rattle.std.specs.Prelude.{IsTrue, ◌==◌}
use Rattle.std.proofs.lemmas.Bool.Decides.{nat_tests}
use Rattle.sm_rules.specs.Nodes.{KeptNode}
use Rattle.sm_rules.proofs.KeptTrees.{empty_over, over_empty}
use Rattle.sm_rules.proofs.tree.Tree.is_refuted.Goals as goal

pub returns : goal.returns
returns c =
    let ns = c.self.inside.nodes.items in
    let d = c.self.inside.declared in
    let len = ap (λ (xs : List KeptNode). length xs) c.as_slice.ensures.value in
    let is = c.is_empty.ensures in
    rw (← c.self.view_is) (
      λ yes. empty_over d ns (let t : IsTrue (length c.as_slice.result.now == 0) = rw is at yes in let z : length c.as_slice.result.now ≡ 0 = grind (arith, nat_tests) in sym len ∙ z),
      λ none. let z = over_empty d ns none in let y : length c.as_slice.result.now ≡ 0 = len ∙ z in rw is (let t : IsTrue (length c.as_slice.result.now == 0) = grind (arith, nat_tests) in t),
    )

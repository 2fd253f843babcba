use Rattle.std.proofs.Common.{ap, ◌∙◌}
use Rattle.std.specs.Prelude.{List}
use Rattle.sm_store.specs.Stores.{Extent}
use Rattle.sm_rules.specs.Trees.{has_empty}
use Rattle.sm_rules.proofs.FocusChanges.{empty_where}
use Rattle.sm_rules.proofs.tree.Tree.is_empty.Goals as goal

pub returns : goal.returns
returns c = empty_where c.store.result.now c.empty.result c.empty.ensures ∙ ap (λ (s : List Extent). has_empty s) c.store.ensures

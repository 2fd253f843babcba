-- What single tokens mean where one of some words or signs is to come.
use Rattle.std.specs.Prelude.{Bool, true, false, Option, Some, None}
use Rattle.sm_syntax.specs.declared.terminal.Terminal.{Terminal}
use Rattle.sm_syntax.specs.declared.terminal.Terminal.TheVariants as terminal
use Rattle.sm_syntax.specs.declared.tree.Sign.{Sign}
use Rattle.sm_syntax.specs.declared.tree.Sign.TheVariants as signs
use Rattle.sm_syntax.specs.declared.tree.Relation.{Relation}
use Rattle.sm_syntax.specs.declared.tree.Relation.TheVariants as relations
use Rattle.sm_syntax.specs.declared.tree.LitRelation.{LitRelation}
use Rattle.sm_syntax.specs.declared.tree.LitRelation.TheVariants as lit_relations
use Rattle.sm_syntax.specs.declared.formula.Quantifier.{Quantifier}
use Rattle.sm_syntax.specs.declared.formula.Quantifier.TheVariants as quantifiers
use Rattle.sm_syntax.specs.declared.tree.Choosing.{Choosing}
use Rattle.sm_syntax.specs.declared.tree.Choosing.TheVariants as choosings
use Rattle.sm_syntax.specs.declared.tree.Level.{Level}
use Rattle.sm_syntax.specs.declared.tree.Level.TheVariants as levels
use Rattle.sm_syntax.specs.declared.tree.Relaxing.{Relaxing}
use Rattle.sm_syntax.specs.declared.tree.Relaxing.TheVariants as relaxings
use Rattle.sm_syntax.specs.declared.tree.Picking.{Picking}
use Rattle.sm_syntax.specs.declared.tree.Picking.TheVariants as pickings
use Rattle.sm_syntax.specs.declared.tree.Splitting.{Splitting}
use Rattle.sm_syntax.specs.declared.tree.Splitting.TheVariants as splittings

abbrev pub sign_of : Terminal → Option Sign
sign_of terminal.Plus = Some signs.Plus
sign_of terminal.Minus = Some signs.Minus
sign_of _ = None

abbrev pub relation_of : Terminal → Option Relation
relation_of terminal.Less = Some relations.Less
relation_of terminal.AtMost = Some relations.AtMost
relation_of terminal.Greater = Some relations.Greater
relation_of terminal.AtLeast = Some relations.AtLeast
relation_of terminal.Equal = Some relations.Equal
relation_of terminal.Unequal = Some relations.Unequal
relation_of _ = None

abbrev pub lit_relation_of : Terminal → Option LitRelation
lit_relation_of terminal.AtMost = Some lit_relations.AtMost
lit_relation_of terminal.AtLeast = Some lit_relations.AtLeast
lit_relation_of terminal.Equal = Some lit_relations.Equal
lit_relation_of terminal.Unequal = Some lit_relations.Unequal
lit_relation_of _ = None

abbrev pub quantifier_of : Terminal → Option Quantifier
quantifier_of terminal.All = Some quantifiers.All
quantifier_of terminal.Any = Some quantifiers.Any
quantifier_of _ = None

abbrev pub choosing_of : Terminal → Option Choosing
choosing_of terminal.Indexsum = Some choosings.Indexsum
choosing_of terminal.Assign = Some choosings.Assign
choosing_of _ = None

abbrev pub level_of : Terminal → Option Level
level_of terminal.None = Some levels.None
level_of terminal.Bounds = Some levels.Bounds
level_of terminal.Full = Some levels.Full
level_of _ = None

abbrev pub relaxing_of : Terminal → Option Relaxing
relaxing_of terminal.On = Some relaxings.On
relaxing_of terminal.None = Some relaxings.None
relaxing_of _ = None

abbrev pub picking_of : Terminal → Option Picking
picking_of terminal.First = Some pickings.First
picking_of terminal.Small = Some pickings.Small
picking_of terminal.Point = Some pickings.Point
picking_of _ = None

abbrev pub splitting_of : Terminal → Option Splitting
splitting_of terminal.Half = Some splittings.Half
splitting_of terminal.Least = Some splittings.Least
splitting_of terminal.Most = Some splittings.Most
splitting_of _ = None

-- a further term begins so
abbrev pub begins_sign : Terminal → Bool
begins_sign terminal.Plus = true
begins_sign terminal.Minus = true
begins_sign _ = false

-- an item begins so
abbrev pub begins_item : Terminal → Bool
begins_item terminal.Index = true
begins_item terminal.Var = true
begins_item terminal.Post = true
begins_item _ = false

-- a tag begins so
abbrev pub begins_tag : Terminal → Bool
begins_tag terminal.Infer = true
begins_tag terminal.Relax = true
begins_tag terminal.Branch = true
begins_tag terminal.Pick = true
begins_tag terminal.Split = true
begins_tag terminal.Sub = true
begins_tag _ = false

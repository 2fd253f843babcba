use Rattle.std.proofs.Common.{◌≡◌, ◌++◌, drop}
use Rattle.sm_step.specs.PartText.{each_after}
use Rattle.sm_step.proofs.lists.push_each.Given as goal

abbrev pub invariant-loop-part : goal.invariant-loop-part
invariant-loop-part g l = l.into.items ++ each_after l.mark g.T.Part.text (drop l.part-index l.parts) ≡ l.fn.into.items ++ each_after l.mark g.T.Part.text l.parts

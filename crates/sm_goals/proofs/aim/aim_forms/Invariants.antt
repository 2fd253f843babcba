use Rattle.std.proofs.Common.{◌≡◌, ◌∷◌, ◌+◌, map, drop, length}
use Rattle.sm_syntax.specs.Trees.{aim_of}
use Rattle.sm_goals.proofs.Aims.{AimsLeft}
use Rattle.sm_goals.proofs.aim.aim_forms.Given as goal

abbrev pub invariant-loop-aim : goal.invariant-loop-aim
invariant-loop-aim l = record {
  count : l.left + l.aim-index ≡ length l.more;
  left : AimsLeft l.fn.scope (map aim_of (l.fn.first ∷ l.fn.more)) l.fn.visited (map aim_of (drop l.aim-index l.more)) l.visited l.forms.items;
}

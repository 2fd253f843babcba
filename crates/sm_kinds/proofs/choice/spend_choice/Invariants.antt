use Rattle.std.proofs.Common.{◌≡◌, ◌+◌, drop}
use Rattle.std.specs.Prelude.{sum_by}
use Rattle.sm_kinds.specs.Choices.{pick_size}
use Rattle.sm_kinds.proofs.choice.spend_choice.Given as goal

-- what is left, less the members of the tables to come, is what was there less those of all
abbrev pub invariant-loop-pick : goal.invariant-loop-pick
invariant-loop-pick l = l.rest + sum_by pick_size l.pick-items ≡ l.left + sum_by pick_size (drop l.pick-index l.pick-items)

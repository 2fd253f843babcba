use Rattle.std.proofs.Common.{◌≡◌, ◌-◌, ◌≤◌, ◌^◌, ℕ}
use Rattle.sm_meaning.specs.Declarations.{widths_tried}
use Rattle.sm_declarations.proofs.limits.try_widths.Given as goal

abbrev pub invariant-loop-member : goal.invariant-loop-member
invariant-loop-member l = record {
  tried : (count : ℕ) → widths_tried l.members l.width l.so_far count ≡ widths_tried (l.members - l._member) l.width l.total count;
  bound : l.total ≤ 2 ^ 76;
}

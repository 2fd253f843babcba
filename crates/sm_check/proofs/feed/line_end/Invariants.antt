use Rattle.std.proofs.Common.{◌≡◌, ◌≤◌, take, length}
use Rattle.sm_check.specs.Feeds.{HasNoEnd}
use Rattle.sm_check.proofs.feed.line_end.Given as goal

abbrev pub invariant-loop-place : goal.invariant-loop-place
invariant-loop-place l = record {
  before : HasNoEnd (take l.place l.bytes);
  within : l.place ≤ length l.bytes;
  end : l.place-end ≡ length l.bytes;
}
